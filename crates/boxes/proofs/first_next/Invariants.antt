-- `boxes::first_next` meets its contract. The loop: none of the edges passed has with the next one.
use Rattle.std.proofs.Common.{false}
use Rattle.boxes.specs.held.Around.{Nexts}
use Rattle.boxes.proofs.first_next.Given as goal

abbrev pub invariant-loop-i : goal.invariant-loop-i
invariant-loop-i l = Nexts l.columns l.i false
