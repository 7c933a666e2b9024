-- For each public function: any two results that its statement allows are one.
use Rattle.std.specs.Prelude.{ℕ, ◌≡◌, Bool, List}
use Rattle.whole.specs.laws.Agree.{agree}
use Rattle.hexadecimal.specs.Hex.{all_hex_of}

pub all_hex_agrees : (line : List ℕ) (r₁ r₂ : Bool) → r₁ ≡ all_hex_of line → r₂ ≡ all_hex_of line → r₁ ≡ r₂
all_hex_agrees line r₁ r₂ = agree
