-- `plane::side` meets its contract. The formula is quoted.
use Rattle.std.specs.Prelude.{[]}
use Rattle.std.specs.Int.{w64}
use Rattle.whole.specs.laws.Mach.{asks, yields}
use Rattle.whole.specs.laws.Solve.{v, ◌⊖◌, ◌⊗◌}
use Rattle.plane.specs.Plane.{side}
use Rattle.plane.specs.laws.Numbers.{close}
use Rattle.plane.proofs.side.Goals as goal

pub overflow_mul-result : goal.overflow_mul-result
overflow_mul-result c = let h = c.requires in asks w64 (close h.0 (close h.1 (close h.2 []))) ((v 2 ⊖ v 0) ⊗ (v 5 ⊖ v 1)) tt

pub overflow_mul-result-2 : goal.overflow_mul-result-2
overflow_mul-result-2 c = let h = c.requires in asks w64 (close h.0 (close h.1 (close h.2 []))) ((v 3 ⊖ v 1) ⊗ (v 4 ⊖ v 0)) tt

pub overflow_sub-result-5 : goal.overflow_sub-result-5
overflow_sub-result-5 c = let h = c.requires in asks w64 (close h.0 (close h.1 (close h.2 []))) ((v 2 ⊖ v 0) ⊗ (v 5 ⊖ v 1) ⊖ (v 3 ⊖ v 1) ⊗ (v 4 ⊖ v 0)) tt

pub returns : goal.returns
unfolding side
returns c = let h = c.requires in yields w64 (close h.0 (close h.1 (close h.2 []))) ((v 2 ⊖ v 0) ⊗ (v 5 ⊖ v 1) ⊖ (v 3 ⊖ v 1) ⊗ (v 4 ⊖ v 0)) tt
