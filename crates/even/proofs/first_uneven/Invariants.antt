-- `even::first_uneven` meets its contract. The loop: none of the entries passed is too far off, so that the first one that is is the least.
use Rattle.space.specs.held.Points.{as_point}
use Rattle.even.proofs.Ways.{Even}
use Rattle.even.proofs.first_uneven.Given as goal

abbrev pub invariant-loop-i : goal.invariant-loop-i
invariant-loop-i l = Even l.tolerance (as_point l.n) l.points.flat l.ring l.i
