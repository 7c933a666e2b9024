-- `holes::meets::rings_meet` meets its contract. The loop: what is left of the one ring tells of the whole.
use Rattle.whole.specs.Lists.{any, steps}
use Rattle.plane.specs.Plane.{share}
use Rattle.fan.specs.held.Fan.{spot_in}
use Rattle.rays.specs.held.Seen.{spots_in}
use Rattle.holes.specs.laws.Passes.{Left}
use Rattle.holes.proofs.meets.rings_meet.Given as goal

abbrev pub invariant-loop-i : goal.invariant-loop-i
invariant-loop-i l = Left (λ e. any (share e) (steps (spots_in l.points.flat l.plane.u l.plane.v l.s))) (spot_in l.points.flat l.plane.u l.plane.v) l.r l.i
