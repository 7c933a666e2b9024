-- `places::is_far` meets its contract: its three tests are those of the definition, the numbers read back from their bits.
use mir.Syntax.{w64}
use mir.Val.{of_z, to_z}
use Rattle.places.specs.laws.Places.{far_is, point_bits}
use mathlib.Core.Path.{ap, ◌∙◌}
use Rattle.places.specs.Points.{is_far_of}
use Rattle.places.proofs.is_far.Goals as goal

pub returns : goal.returns
returns c = let f = c.ranges in
    let a = c.args in
    far_is (to_z w64 (of_z w64 a.x)) (to_z w64 (of_z w64 a.y)) (to_z w64 (of_z w64 a.z)) _ _ _ c.beyond.ensures c.beyond-2.ensures c.beyond-3.ensures ∙ ap is_far_of (point_bits f.x f.y f.z)
