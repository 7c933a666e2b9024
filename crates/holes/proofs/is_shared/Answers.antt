-- `holes::is_shared` meets its contract. The plane is that of the two coordinates that the axis leaves.
use mathlib.Core.Path.{◌∙◌}
use Rattle.holes.specs.laws.Polygons.{shared-tells}
use Rattle.holes.proofs.is_shared.Goals as goal

pub returns : goal.returns
returns c = let a = c.args in
    let plane = c.left_by-plane.ensures in
    c.two_meet.ensures ∙ shared-tells a.points.now.coords a.axis plane.0 plane.1 a.rings.now.entries a.rings.now.starts a.from a.to c.requires.rings c.requires.some
