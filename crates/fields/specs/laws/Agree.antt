-- For each public function: any two results that its statement allows are one.
use Rattle.std.specs.Prelude.{ℕ, ◌≡◌, List, take, drop}
use Rattle.whole.specs.laws.Agree.{agree}
use Rattle.hexadecimal.specs.Hex.{number}

pub unsigned_agrees : (line : List ℕ) (at k r₁ r₂ : ℕ) → r₁ ≡ number (take k (drop at line)) → r₂ ≡ number (take k (drop at line)) → r₁ ≡ r₂
unsigned_agrees line at k r₁ r₂ = agree
