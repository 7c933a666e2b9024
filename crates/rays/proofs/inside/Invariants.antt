-- `rays::inside` meets its contract. The loop: the parity of what is done, with that of what is left, is that of the whole.
use Rattle.plane.specs.held.Edges.{as_spot}
use Rattle.fan.specs.held.Fan.{spot_in}
use Rattle.rays.proofs.laws.Counted.{Counted}
use Rattle.rays.proofs.inside.Given as goal

abbrev pub invariant-loop-i : goal.invariant-loop-i
invariant-loop-i l = Counted (as_spot l.q) (spot_in l.points.flat l.plane.u l.plane.v) l.ring l.odd l.i
