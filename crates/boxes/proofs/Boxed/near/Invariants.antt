-- `boxes::Boxed::near` meets its contract. The loop: the blocks passed are parted.
use Rattle.std.proofs.Common.{true, ◌+◌}
use Rattle.boxes.specs.held.Boxes.{Parted}
use Rattle.boxes.proofs.Boxed.near.Given as goal

abbrev pub invariant-loop-c : goal.invariant-loop-c
invariant-loop-c l = Parted l.self.u.now l.self.v.now l.i (144 + l.b) (144 + l.c) true
