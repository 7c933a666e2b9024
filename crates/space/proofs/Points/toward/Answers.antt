-- `space::Points::toward` meets its contract. Each component is a difference of coordinates.
use mathlib.Core.List.{[]}
use mir.Syntax.{w64}
use Rattle.whole.specs.laws.Mach.{yields}
use Rattle.whole.specs.laws.Solve.{v, ◌⊖◌}
use Rattle.space.specs.laws.Sizes.{near-place}
use Rattle.space.specs.held.Points.{at}
use Rattle.space.specs.Space.{relative_to}
use Rattle.space.specs.laws.Numbers.{returned}
use Rattle.space.proofs.Points.toward.Goals as goal

pub returns : goal.returns
unfolding relative_to
returns c = let h = c.args.self.now.coords in
    let seen = returned c.place-a.ensures (near-place h _) (returned c.place-b.ensures (near-place h _) []) in
    λ j. at (yields w64 seen (v 3 ⊖ v 0) tt j) (yields w64 seen (v 4 ⊖ v 1) tt j) (yields w64 seen (v 5 ⊖ v 2) tt j)
