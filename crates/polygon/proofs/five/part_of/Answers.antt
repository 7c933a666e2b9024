-- `polygon::five::part_of` meets its contract. The part is first·N.
use native.Mathlib.Omega.{arith}
use mathlib.Core.Path.{◌∙◌}
use mir.Syntax.{w64}
use lib.ListN.{get_or}
use Rattle.whole.specs.laws.Size.{call_is}
use Rattle.space.specs.laws.Sizes.{near_same, near_more, near-place}
use Rattle.normal.specs.laws.Sizes.{normal-near}
use Rattle.polygon.specs.laws.FromNormal.{about_first}
use Rattle.polygon.proofs.five.part_of.Goals as goal

pub dot-requires : goal.dot-requires
dot-requires c = (near_same c.requires.n_value (normal-near c.args.points.now.coords c.requires.known), near_same c.place.ensures (near_more (omega arith) (near-place c.args.points.now.coords (get_or c.args.ring.now 0 0))))

pub returns : goal.returns
returns c = call_is w64 c.dot.type_inv (c.dot.ensures ∙ about_first c.args.points.now.coords c.requires.known c.requires.in_bounds c.requires.n_value c.place.ensures)
