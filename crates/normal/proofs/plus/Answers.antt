-- `normal::plus` meets its contract. Each component is a sum that fits.
use mathlib.Core.List.{List, [], ◌∷◌}
use mir.Syntax.{w64}
use Rattle.whole.specs.laws.Mach.{Leaf, whole, asks, yields}
use Rattle.whole.specs.laws.Solve.{v, ◌⊕◌}
use Rattle.space.specs.held.Points.{at, Near}
use Rattle.space.specs.Space.{Point, plus}
use Rattle.normal.proofs.plus.Goals as goal

-- the six numbers, with their bounds
abbrev numbers : {p q : Point} → Near 10160000000000 p × Near 80000000000 q → List Leaf
numbers h = whole w64 tt h.0.x ∷ whole w64 tt h.0.y ∷ whole w64 tt h.0.z ∷ whole w64 tt h.1.x ∷ whole w64 tt h.1.y ∷ whole w64 tt h.1.z ∷ []

pub overflow_add-x : goal.overflow_add-x
overflow_add-x c = asks w64 (numbers c.requires) (v 0 ⊕ v 3) tt

pub overflow_add-y : goal.overflow_add-y
overflow_add-y c = asks w64 (numbers c.requires) (v 1 ⊕ v 4) tt

pub overflow_add-z : goal.overflow_add-z
overflow_add-z c = asks w64 (numbers c.requires) (v 2 ⊕ v 5) tt

pub returns : goal.returns
unfolding plus
returns c = λ j. at (yields w64 (numbers c.requires) (v 0 ⊕ v 3) tt j) (yields w64 (numbers c.requires) (v 1 ⊕ v 4) tt j) (yields w64 (numbers c.requires) (v 2 ⊕ v 5) tt j)
