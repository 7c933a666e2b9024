-- `boxes::Boxed::eight_parted` meets its contract. The loop: where all holds, the first n boxes are parted.
use Rattle.std.proofs.Common.{◌+◌}
use Rattle.boxes.specs.held.Boxes.{Parted}
use Rattle.boxes.proofs.Boxed.eight_parted.Given as goal

abbrev pub invariant-loop-n : goal.invariant-loop-n
invariant-loop-n l = Parted l.self.u.now l.self.v.now l.i l.j (l.j + l.n) l.all
