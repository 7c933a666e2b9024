-- `holes::meets::two_meet` meets its contract. The loop: the rings that are left tell of all, and the last has none after it.
use Rattle.holes.specs.Holes.{meet}
use Rattle.holes.specs.held.Rings.{spots_at}
use Rattle.holes.specs.laws.Passes.{Rests}
use Rattle.holes.proofs.meets.two_meet.Given as goal

abbrev pub invariant-loop-p : goal.invariant-loop-p
invariant-loop-p l = Rests (spots_at l.points.flat l.plane.u l.plane.v l.rings.entries l.rings.starts) meet l.from l.to l.p
