-- `holes::meets::meets_one` meets its contract. The loop: the rings that are left tell of all.
use Rattle.rays.specs.held.Seen.{spots_in}
use Rattle.holes.specs.Holes.{meet}
use Rattle.holes.specs.held.Rings.{spots_at}
use Rattle.holes.specs.laws.Passes.{Rest}
use Rattle.holes.proofs.meets.meets_one.Given as goal

abbrev pub invariant-loop-q : goal.invariant-loop-q
invariant-loop-q l = Rest (spots_at l.points.flat l.plane.u l.plane.v l.rings.entries l.rings.starts) (meet (spots_in l.points.flat l.plane.u l.plane.v l.r)) l.p l.to l.q
