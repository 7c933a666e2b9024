-- `even::off` meets its contract. N·(p - first) fits by its bound.
use mathlib.Core.Path.{◌∙◌, ap}
use mir.Syntax.{w64}
use lib.IntN.{nat_abs}
use Rattle.whole.specs.laws.Size.{call_is}
use Rattle.space.specs.laws.Sizes.{near-place, near-way, near_same}
use Rattle.space.specs.held.Points.{as_point}
use Rattle.space.specs.Space.{Point, dot}
use Rattle.even.proofs.off.Goals as goal

pub dot-requires : goal.dot-requires
dot-requires c = (c.requires.near, near_same c.toward.ensures (near-way (near-place c.args.points.now.coords _) (near-place c.args.points.now.coords _)))

pub returns : goal.returns
returns c = c.size.ensures ∙ ap nat_abs (call_is w64 c.dot.type_inv (c.dot.ensures ∙ ap (λ (p : Point). dot (as_point c.args.n) p) c.toward.ensures))
