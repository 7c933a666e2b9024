-- `misplaced::corners::nested_later` meets its contract. The loop: the rings that are left tell of all.
use Prim.Native.Nat.{◌+◌}
use Rattle.fan.specs.held.Fan.{spot_in}
use Rattle.holes.specs.held.Rings.{spots_at}
use Rattle.holes.specs.held.Corners.{nested}
use Rattle.holes.specs.laws.Passes.{Rest}
use Rattle.misplaced.proofs.corners.nested_later.Given as goal

abbrev pub invariant-loop-q : goal.invariant-loop-q
invariant-loop-q l = Rest (spots_at l.points.flat l.plane.u l.plane.v l.rings.entries l.rings.starts) (nested (spot_in l.points.flat l.plane.u l.plane.v 0) (spots_at l.points.flat l.plane.u l.plane.v l.rings.entries l.rings.starts l.p)) (l.p + 1) l.to l.q
