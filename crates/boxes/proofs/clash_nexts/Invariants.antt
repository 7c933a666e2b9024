-- `boxes::clash_nexts` meets its contract. The loop: the first i edges are looked at.
use Rattle.boxes.specs.held.Around.{Nexts}
use Rattle.boxes.proofs.clash_nexts.Given as goal

abbrev pub invariant-loop-i : goal.invariant-loop-i
invariant-loop-i l = Nexts l.columns l.i l.found
