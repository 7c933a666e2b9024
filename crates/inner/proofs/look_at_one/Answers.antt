-- `inner::look_at_one` meets its contract. A polygon of one ring has that ring's finding and part.
use native.Mathlib.Omega.{arith}
use lib.ListN.{length}
use mathlib.Core.Path.{◌∙◌, sym, ap, subst}
use Rattle.space.specs.held.Points.{points_of, Known}
use Rattle.ring.specs.held.Rings.{ring_at}
use Rattle.volume.specs.Part.{part as ringPart}
use Rattle.polygon.specs.Ring.{finding as ringFinding, finding_position_of}
use Rattle.polygon.specs.laws.Position.{position_few}
use Rattle.inner.specs.laws.One.{one_ring, one-part}
use Rattle.inner.proofs.look_at_one.Goals as goal

pub look_at-requires : goal.look_at-requires
look_at-requires c = record { known = subst Known (sym c.ring-ring.ensures) c.requires.ring.known; tolerance_bound = c.requires.tolerance_bound }

pub returns : goal.returns
returns c = let a = c.args in
    let points = points_of a.points.now.flat in
    let ring = ring_at a.rings.now.entries a.rings.now.starts a.q in
    record {
      finding_value = c.look_at.ensures.finding_value ∙ ap (ringFinding a.tolerance points) c.ring-ring.ensures ∙ sym (one_ring points ring a.tolerance);
      few = omega (arith, c.requires.ring.known.few, ap finding_position_of c.look_at.ensures.finding_value, position_few a.tolerance points c.ring-ring.result.now, ap length c.ring-ring.ensures);
      part_value = c.look_at.ensures.part_value ∙ ap (ringPart points) c.ring-ring.ensures ∙ sym (one-part points ring);
    }
