-- `misplaced::facing::component` meets its contract. Axis by axis.
use mathlib.Core.Path.{◌∙◌, sym, ap}
use mir.Syntax.{w64}
use Rattle.whole.specs.laws.Size.{small_back}
use Rattle.space.specs.declared.Axis.{Axis}
use Rattle.space.specs.held.Points.{as_point}
use Rattle.holes.specs.Holes.{component}
use Rattle.misplaced.proofs.facing.component.Goals as goal

pub returns-in-X : goal.returns-in-X
unfolding component
returns-in-X c = small_back w64 tt c.requires.x ∙ ap (λ (x : Axis). component x (as_point c.args.n)) (sym c.in-X.is)

pub returns-in-Y : goal.returns-in-Y
unfolding component
returns-in-Y c = small_back w64 tt c.requires.y ∙ ap (λ (x : Axis). component x (as_point c.args.n)) (sym c.in-Y.is)

pub returns-in-Z : goal.returns-in-Z
unfolding component
returns-in-Z c = small_back w64 tt c.requires.z ∙ ap (λ (x : Axis). component x (as_point c.args.n)) (sym c.in-Z.is)
