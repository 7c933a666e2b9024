-- For each public function: any two results that its statement allows are one.
use Rattle.std.specs.Prelude.{ℕ, ◌≡◌}
use Rattle.whole.specs.laws.Agree.{agree}
use Rattle.building.specs.declared.Verdict.{Verdict}
use Rattle.building.specs.Report.{element_a_of, element_b_of}

module _ (v : Verdict) (r₁ r₂ : ℕ) where
  pub element_a_agrees : r₁ ≡ element_a_of v → r₂ ≡ element_a_of v → r₁ ≡ r₂
  element_a_agrees = agree

  pub element_b_agrees : r₁ ≡ element_b_of v → r₂ ≡ element_b_of v → r₁ ≡ r₂
  element_b_agrees = agree
