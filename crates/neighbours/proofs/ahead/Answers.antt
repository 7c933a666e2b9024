-- `neighbours::ahead` meets its contract. The formula is quoted.
use Rattle.std.specs.Prelude.{[]}
use Rattle.std.specs.Int.{w64}
use Rattle.whole.specs.laws.Mach.{asks, yields}
use Rattle.whole.specs.laws.Solve.{v, ◌⊖◌, ◌⊕◌, ◌⊗◌}
use Rattle.plane.specs.Plane.{ahead}
use Rattle.plane.specs.laws.Numbers.{ends}
use Rattle.neighbours.proofs.ahead.Goals as goal

pub overflow_mul-result : goal.overflow_mul-result
overflow_mul-result c = let h = c.requires in asks w64 (ends h.0 (ends h.1 [])) ((v 2 ⊖ v 0) ⊗ (v 6 ⊖ v 4)) tt

pub overflow_mul-result-2 : goal.overflow_mul-result-2
overflow_mul-result-2 c = let h = c.requires in asks w64 (ends h.0 (ends h.1 [])) ((v 3 ⊖ v 1) ⊗ (v 7 ⊖ v 5)) tt

pub overflow_add-result : goal.overflow_add-result
overflow_add-result c = let h = c.requires in asks w64 (ends h.0 (ends h.1 [])) ((v 2 ⊖ v 0) ⊗ (v 6 ⊖ v 4) ⊕ (v 3 ⊖ v 1) ⊗ (v 7 ⊖ v 5)) tt

pub returns : goal.returns
unfolding ahead
returns c = let h = c.requires in yields w64 (ends h.0 (ends h.1 [])) ((v 2 ⊖ v 0) ⊗ (v 6 ⊖ v 4) ⊕ (v 3 ⊖ v 1) ⊗ (v 7 ⊖ v 5)) tt
