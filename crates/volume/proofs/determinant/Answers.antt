-- `volume::determinant` meets its contract. The formula is quoted, and every product and sum fits by the bounds of the coordinates.
use mathlib.Core.List.{List, [], ◌∷◌}
use lib.IntN.{ℤ}
use mir.Syntax.{w64}
use Rattle.whole.specs.laws.Solve.{v, ◌⊕◌, ◌⊖◌, ◌⊗◌}
use Rattle.whole.specs.laws.Mach.{Leaf, whole, asks, yields}
use Rattle.space.specs.Space.{Point, determinant}
use Rattle.space.specs.held.Points.{Near}
use Rattle.volume.specs.held.Rows.{Rows}
use Rattle.volume.proofs.determinant.Goals as goal

-- three rows of three coordinates
abbrev row : {p : Point} → Near 100000 p → List Leaf → List Leaf
row h ls = whole w64 tt h.x ∷ whole w64 tt h.y ∷ whole w64 tt h.z ∷ ls

abbrev rows : {m : List (List ℤ)} → Rows m → List Leaf
rows h = row (h.each 0) (row (h.each 1) (row (h.each 2) []))

pub overflow_mul-result : goal.overflow_mul-result
overflow_mul-result c = asks w64 (rows c.requires) (v 4 ⊗ v 8) tt

pub overflow_mul-result-2 : goal.overflow_mul-result-2
overflow_mul-result-2 c = asks w64 (rows c.requires) (v 5 ⊗ v 7) tt

pub overflow_sub-result : goal.overflow_sub-result
overflow_sub-result c = asks w64 (rows c.requires) (v 4 ⊗ v 8 ⊖ v 5 ⊗ v 7) tt

pub overflow_mul-result-3 : goal.overflow_mul-result-3
overflow_mul-result-3 c = asks w64 (rows c.requires) (v 0 ⊗ (v 4 ⊗ v 8 ⊖ v 5 ⊗ v 7)) tt

pub overflow_mul-result-4 : goal.overflow_mul-result-4
overflow_mul-result-4 c = asks w64 (rows c.requires) (v 3 ⊗ v 8) tt

pub overflow_mul-result-5 : goal.overflow_mul-result-5
overflow_mul-result-5 c = asks w64 (rows c.requires) (v 5 ⊗ v 6) tt

pub overflow_sub-result-2 : goal.overflow_sub-result-2
overflow_sub-result-2 c = asks w64 (rows c.requires) (v 3 ⊗ v 8 ⊖ v 5 ⊗ v 6) tt

pub overflow_mul-result-6 : goal.overflow_mul-result-6
overflow_mul-result-6 c = asks w64 (rows c.requires) (v 1 ⊗ (v 3 ⊗ v 8 ⊖ v 5 ⊗ v 6)) tt

pub overflow_sub-result-3 : goal.overflow_sub-result-3
overflow_sub-result-3 c = asks w64 (rows c.requires) (v 0 ⊗ (v 4 ⊗ v 8 ⊖ v 5 ⊗ v 7) ⊖ v 1 ⊗ (v 3 ⊗ v 8 ⊖ v 5 ⊗ v 6)) tt

pub overflow_mul-result-7 : goal.overflow_mul-result-7
overflow_mul-result-7 c = asks w64 (rows c.requires) (v 3 ⊗ v 7) tt

pub overflow_mul-result-8 : goal.overflow_mul-result-8
overflow_mul-result-8 c = asks w64 (rows c.requires) (v 4 ⊗ v 6) tt

pub overflow_sub-result-4 : goal.overflow_sub-result-4
overflow_sub-result-4 c = asks w64 (rows c.requires) (v 3 ⊗ v 7 ⊖ v 4 ⊗ v 6) tt

pub overflow_mul-result-9 : goal.overflow_mul-result-9
overflow_mul-result-9 c = asks w64 (rows c.requires) (v 2 ⊗ (v 3 ⊗ v 7 ⊖ v 4 ⊗ v 6)) tt

pub overflow_add-result : goal.overflow_add-result
overflow_add-result c = asks w64 (rows c.requires) (v 0 ⊗ (v 4 ⊗ v 8 ⊖ v 5 ⊗ v 7) ⊖ v 1 ⊗ (v 3 ⊗ v 8 ⊖ v 5 ⊗ v 6) ⊕ v 2 ⊗ (v 3 ⊗ v 7 ⊖ v 4 ⊗ v 6)) tt

pub returns : goal.returns
unfolding determinant
returns c = yields w64 (rows c.requires) (v 0 ⊗ (v 4 ⊗ v 8 ⊖ v 5 ⊗ v 7) ⊖ v 1 ⊗ (v 3 ⊗ v 8 ⊖ v 5 ⊗ v 6) ⊕ v 2 ⊗ (v 3 ⊗ v 7 ⊖ v 4 ⊗ v 6)) tt
