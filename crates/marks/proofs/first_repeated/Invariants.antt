-- `marks::first_repeated` meets its contract. The loop: what is marked is what was met, and what is left tells the entry.
use Rattle.marks.proofs.Passed.{Passed}
use Rattle.marks.proofs.first_repeated.Given as goal

abbrev pub invariant-loop-i : goal.invariant-loop-i
invariant-loop-i l = Passed l.ring l.marks l.i
