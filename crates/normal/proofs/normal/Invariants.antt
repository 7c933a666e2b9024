-- `normal::normal` meets its contract. The loop: the sum over the steps passed, on each axis.
use Rattle.space.specs.held.Points.{as_point}
use Rattle.normal.specs.laws.Sums.{Walked}
use Rattle.normal.proofs.normal.Given as goal

abbrev pub invariant-loop-entry : goal.invariant-loop-entry
invariant-loop-entry l = Walked l.points.flat l.ring l.first (as_point l.last) l.entry-index (as_point l.sum)
