-- `normal::cross` meets its contract. Each component is quoted, and fits by the bounds of the ways.
use mathlib.Core.List.{List, [], ◌∷◌}
use mir.Syntax.{w64}
use Rattle.whole.specs.laws.Mach.{Leaf, whole, asks, yields}
use Rattle.whole.specs.laws.Solve.{v, ◌⊖◌, ◌⊗◌}
use Rattle.space.specs.held.Points.{at, Near}
use Rattle.space.specs.Space.{Point, cross}
use Rattle.normal.proofs.cross.Goals as goal

-- the six numbers, with their bounds
abbrev numbers : {p q : Point} → Near 200000 p × Near 200000 q → List Leaf
numbers h = whole w64 tt h.0.x ∷ whole w64 tt h.0.y ∷ whole w64 tt h.0.z ∷ whole w64 tt h.1.x ∷ whole w64 tt h.1.y ∷ whole w64 tt h.1.z ∷ []

pub overflow_mul-x : goal.overflow_mul-x
overflow_mul-x c = asks w64 (numbers c.requires) (v 1 ⊗ v 5) tt

pub overflow_mul-x-2 : goal.overflow_mul-x-2
overflow_mul-x-2 c = asks w64 (numbers c.requires) (v 2 ⊗ v 4) tt

pub overflow_sub-x : goal.overflow_sub-x
overflow_sub-x c = asks w64 (numbers c.requires) (v 1 ⊗ v 5 ⊖ v 2 ⊗ v 4) tt

pub overflow_mul-y : goal.overflow_mul-y
overflow_mul-y c = asks w64 (numbers c.requires) (v 2 ⊗ v 3) tt

pub overflow_mul-y-2 : goal.overflow_mul-y-2
overflow_mul-y-2 c = asks w64 (numbers c.requires) (v 0 ⊗ v 5) tt

pub overflow_sub-y : goal.overflow_sub-y
overflow_sub-y c = asks w64 (numbers c.requires) (v 2 ⊗ v 3 ⊖ v 0 ⊗ v 5) tt

pub overflow_mul-z : goal.overflow_mul-z
overflow_mul-z c = asks w64 (numbers c.requires) (v 0 ⊗ v 4) tt

pub overflow_mul-z-2 : goal.overflow_mul-z-2
overflow_mul-z-2 c = asks w64 (numbers c.requires) (v 1 ⊗ v 3) tt

pub overflow_sub-z : goal.overflow_sub-z
overflow_sub-z c = asks w64 (numbers c.requires) (v 0 ⊗ v 4 ⊖ v 1 ⊗ v 3) tt

pub returns : goal.returns
unfolding cross
returns c = λ j. at (yields w64 (numbers c.requires) (v 1 ⊗ v 5 ⊖ v 2 ⊗ v 4) tt j) (yields w64 (numbers c.requires) (v 2 ⊗ v 3 ⊖ v 0 ⊗ v 5) tt j) (yields w64 (numbers c.requires) (v 0 ⊗ v 4 ⊖ v 1 ⊗ v 3) tt j)
