-- `polygon::columns::fill` meets its contract. The loop: the first i entries of the column are there.
use lib.ListN.{length}
use Rattle.polygon.proofs.Filled.{Filling}
use Rattle.polygon.proofs.columns.fill.Given as goal

abbrev pub invariant-loop-i : goal.invariant-loop-i
invariant-loop-i l = Filling l.points.flat l.ring l.k (length l.initial.room) l.room l.i
