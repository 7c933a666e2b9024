-- `plane::apart` meets its contract. The least and the largest of the one stretch stand for its ends.
use mathlib.Core.Bool.{◌&&◌, ◌||◌}
use mathlib.Core.Path.{◌∙◌, ap₂}
use mir.Facts.{to_z-of_z}
use mir.Syntax.{w64}
use lib.Signed.{lt_z}
use Rattle.whole.specs.laws.Size.{call_is}
use Rattle.plane.specs.held.Edges.{least, most}
use Rattle.plane.specs.laws.Stretches.{apart_is}
use Rattle.plane.proofs.apart.Goals as goal

pub returns : goal.returns
returns c = let f = c.ranges in
    let a = c.args in
    let lo = call_is w64 c.min-lo.type_inv (c.min-lo.ensures.value ∙ ap₂ least (to_z-of_z f.p) (to_z-of_z f.q)) in
    let hi = call_is w64 c.max-hi.type_inv (c.max-hi.ensures.value ∙ ap₂ most (to_z-of_z f.p) (to_z-of_z f.q)) in
    (λ i. lt_z (hi i) (to_z-of_z f.c i) && lt_z (hi i) (to_z-of_z f.d i) || lt_z (to_z-of_z f.c i) (lo i) && lt_z (to_z-of_z f.d i) (lo i))
    ∙ apart_is a.p a.q a.c a.d
