-- For each public function: any two results that its statement allows are one.
use Rattle.std.specs.Prelude.{ℕ, ◌≡◌, List, ltb, take, ℤ}
use Rattle.whole.specs.Lists.{tally, sum_of}
use Rattle.whole.specs.laws.Agree.{agree}

pub faults_of_agrees : (findings : List ℕ) (n r₁ r₂ : ℕ) → r₁ ≡ tally (ltb 0) (take n findings) → r₂ ≡ tally (ltb 0) (take n findings) → r₁ ≡ r₂
faults_of_agrees findings n r₁ r₂ = agree

pub six_volume_agrees : (parts : List ℤ) (n : ℕ) (r₁ r₂ : ℤ) → r₁ ≡ sum_of (λ z. z) (take n parts) → r₂ ≡ sum_of (λ z. z) (take n parts) → r₁ ≡ r₂
six_volume_agrees parts n r₁ r₂ = agree
