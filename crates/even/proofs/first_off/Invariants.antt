-- `even::first_off` meets its contract. The loop: the entries passed are within the reach.
use Rattle.space.specs.held.Points.{as_point}
use Rattle.even.specs.held.Offs.{Within}
use Rattle.even.proofs.first_off.Given as goal

abbrev pub invariant-loop-i : goal.invariant-loop-i
invariant-loop-i l = Within l.points.flat (as_point l.n) l.ring l.reach 0 l.i
