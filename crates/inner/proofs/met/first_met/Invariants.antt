-- `inner::met::first_met` meets its contract. The loop: the rings that are left show what all do.
use Rattle.polygon.specs.declared.Finding.TheVariants.{Sound}
use Rattle.space.specs.held.Points.{points_of}
use Rattle.inner.proofs.laws.Tables.{Looked}
use Rattle.inner.proofs.met.first_met.Given as goal

abbrev pub invariant-loop-q : goal.invariant-loop-q
invariant-loop-q l = Looked (points_of l.points.flat) l.rings.entries l.rings.starts l.from l.to l.q Sound
