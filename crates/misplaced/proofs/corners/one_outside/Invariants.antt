-- `misplaced::corners::one_outside` meets its contract. The loop: the rings that are left tell of all.
use Prim.Native.Nat.{◌+◌}
use mathlib.Core.Bool.{not}
use Rattle.fan.specs.held.Fan.{spot_in}
use Rattle.holes.specs.held.Rings.{spots_at}
use Rattle.holes.specs.held.Corners.{stands}
use Rattle.holes.specs.laws.Passes.{Rest}
use Rattle.misplaced.proofs.corners.one_outside.Given as goal

abbrev pub invariant-loop-q : goal.invariant-loop-q
invariant-loop-q l = Rest (spots_at l.points.flat l.plane.u l.plane.v l.rings.entries l.rings.starts) (λ s. not (stands (spot_in l.points.flat l.plane.u l.plane.v 0) s (spots_at l.points.flat l.plane.u l.plane.v l.rings.entries l.rings.starts l.from))) (l.from + 1) l.to l.q
