-- `inner::rings::look_at_rings` meets its contract. The loop: what the rings that are left show tells of all, unless one told before; with
-- their parts the sum is that of all.
use Prim.Native.Nat.{◌≤◌}
use Rattle.polygon.specs.Ring.{finding_position_of}
use Rattle.space.specs.held.Points.{points_of, Coords}
use Rattle.holes.specs.held.Rings.{Rings}
use Rattle.inner.proofs.laws.Tables.{Looked, Summed}
use Rattle.inner.proofs.rings.look_at_rings.Given as goal

abbrev pub invariant-loop-q : goal.invariant-loop-q
invariant-loop-q l = Looked (points_of l.points.flat) l.rings.entries l.rings.starts l.from l.to l.q l.finding × (finding_position_of l.finding ≤ 1152) × ((coords : Coords l.points.flat) (h : Rings l.rings.entries l.rings.starts l.from l.to) → Summed coords h l.q l.part)
