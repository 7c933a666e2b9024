-- `space::dot` meets its contract. The three products and their sums fit by the bounds of a normal and a way.
use mathlib.Core.List.{List, [], ◌∷◌}
use mir.Syntax.{w64}
use Rattle.whole.specs.laws.Mach.{Leaf, whole, asks, yields}
use Rattle.whole.specs.laws.Solve.{v, ◌⊕◌, ◌⊗◌}
use Rattle.space.specs.Space.{Point, dot}
use Rattle.space.specs.held.Points.{Near}
use Rattle.space.proofs.dot.Goals as goal

-- the six numbers, with their bounds
abbrev numbers : {a b : Point} → Near 10160000000000 a × Near 200000 b → List Leaf
numbers h = whole w64 tt h.0.x ∷ whole w64 tt h.0.y ∷ whole w64 tt h.0.z ∷ whole w64 tt h.1.x ∷ whole w64 tt h.1.y ∷ whole w64 tt h.1.z ∷ []

pub overflow_add-result : goal.overflow_add-result
overflow_add-result c = asks w64 (numbers c.requires) (v 0 ⊗ v 3 ⊕ v 1 ⊗ v 4) tt

pub overflow_mul-result-3 : goal.overflow_mul-result-3
overflow_mul-result-3 c = asks w64 (numbers c.requires) (v 2 ⊗ v 5) tt

pub overflow_add-result-2 : goal.overflow_add-result-2
overflow_add-result-2 c = asks w64 (numbers c.requires) (v 0 ⊗ v 3 ⊕ v 1 ⊗ v 4 ⊕ v 2 ⊗ v 5) tt

pub returns : goal.returns
unfolding dot
returns c = yields w64 (numbers c.requires) (v 0 ⊗ v 3 ⊕ v 1 ⊗ v 4 ⊕ v 2 ⊗ v 5) tt
