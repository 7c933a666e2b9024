-- `misplaced::facing::faces` meets its contract. The ring's component is that of its normal.
use mathlib.Core.Path.{◌∙◌, ap}
use mathlib.Core.Bool.{not}
use mir.Syntax.{w64}
use Rattle.whole.specs.laws.Size.{call_is, small_back}
use Rattle.space.specs.laws.Sizes.{near_same}
use Rattle.normal.specs.laws.Sizes.{normal-near}
use Rattle.holes.specs.Holes.{component, component_of, is_opposite}
use Rattle.misplaced.proofs.facing.faces.Goals as goal

pub component-d-requires : goal.component-d-requires
component-d-requires c = near_same c.normal-n.ensures (normal-near c.args.points.now.coords c.requires.known)

pub returns : goal.returns
unfolding is_opposite component_of
returns c = let d = call_is w64 c.component-d.type_inv (c.component-d.ensures ∙ ap (component c.args.axis) c.normal-n.ensures) in
    λ i. not (is_opposite (small_back w64 tt c.requires.in_bounds.1 i) (d i))
