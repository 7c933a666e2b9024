-- `inner::met::met_in` meets its contract.
use mathlib.Core.Path.{◌∙◌}
use Rattle.space.specs.held.Points.{points_of}
use Rattle.ring.specs.held.Rings.{ring_at}
use Rattle.inner.proofs.laws.Met.{at_03, at_05}
use Rattle.inner.proofs.met.met_in.Goals as goal

pub returns-then-number-eq3-clause-first : goal.returns-then-number-eq3-clause-first
returns-then-number-eq3-clause-first c = let a = c.args in
    c.repeated_in.ensures.first ∙ at_03 (points_of a.points.now.flat) (ring_at a.rings.now.entries a.rings.now.starts a.q) c.if-number-eq3.true

pub returns-clause-first : goal.returns-clause-first
returns-clause-first c = let a = c.args in
    c.crossed_in.ensures.first ∙ at_05 (points_of a.points.now.flat) (ring_at a.rings.now.entries a.rings.now.starts a.q) c.if-number-eq3.false
