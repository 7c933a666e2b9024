-- `misplaced::corners::some_nested` meets its contract. The loop: the rings that are left tell of all.
use Rattle.fan.specs.held.Fan.{spot_in}
use Rattle.holes.specs.held.Rings.{spots_at}
use Rattle.holes.specs.held.Corners.{nested}
use Rattle.holes.specs.laws.Passes.{Rests}
use Rattle.misplaced.proofs.corners.some_nested.Given as goal

abbrev pub invariant-loop-p : goal.invariant-loop-p
invariant-loop-p l = Rests (spots_at l.points.flat l.plane.u l.plane.v l.rings.entries l.rings.starts) (nested (spot_in l.points.flat l.plane.u l.plane.v 0)) l.from l.to l.p
