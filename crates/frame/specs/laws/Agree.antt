-- For each public function: any two results that its statement allows are one.
use Rattle.std.specs.Prelude.{ℕ, ◌≡◌, List, drop, get_or, Option}
use Rattle.whole.specs.laws.Agree.{agree}
use Rattle.frame.specs.Frame.{numbers, decode}
use Rattle.frame.specs.declared.Fields.{Fields}
use Rattle.frame.specs.held.Meaning.{meaning}
use Rattle.frame.specs.laws.Decoded.{meaning_tells}

pub decode_agrees : (line : List ℕ) (r₁ r₂ : Option Fields) → meaning r₁ line ≡ decode line → meaning r₂ line ≡ decode line → r₁ ≡ r₂
decode_agrees line r₁ r₂ p q = meaning_tells r₁ r₂ line (agree p q)

pub entry_agrees : (line : List ℕ) (i r₁ r₂ : ℕ) → r₁ ≡ get_or (numbers (drop 2 line)) i 0 → r₂ ≡ get_or (numbers (drop 2 line)) i 0 → r₁ ≡ r₂
entry_agrees line i r₁ r₂ = agree
