-- `taken::is_taken` meets its contract. The loop keeps: the points still to be looked at tell of all.
use Rattle.places.specs.held.Places.{point3}
use Rattle.taken.specs.laws.Chains.{Walking}
use Rattle.taken.proofs.is_taken.Given as goal

abbrev pub invariant-loop-i : goal.invariant-loop-i
invariant-loop-i l = Walking l.points l.n (point3 l.x l.y l.z) l.k

abbrev pub decreases-loop-i : goal.decreases-loop-i
decreases-loop-i l = l.k
