-- For each public function: any two results that its statement allows are one.
use Rattle.std.specs.Prelude.{◌≡◌, ℕ, ◌^◌, ◌<◌, Bool, ℤ, nat_lt, unsigned_abs}
use Rattle.std.proofs.Common.{arith}
use Rattle.whole.specs.laws.Agree.{agree}
use Rattle.wide.specs.declared.Wide.{Wide}
use Rattle.wide.specs.Value.{value}

-- two pairs of words that are one number are one pair; the low word is a word by its type
pub one-wide : (a b : Wide) → a.low < 2 ^ 64 → b.low < 2 ^ 64 → value a ≡ value b → a ≡ b
one-wide a b h l e = λ i. record { high = high i; low = low i }
  where
    high : a.high ≡ b.high
    high = omega arith

    low : a.low ≡ b.low
    low = omega (arith, high)

-- `product`, `sum` and `squares`: n is the product, the sum, the sum of squares
pub wide_agrees : (n : ℕ) (r₁ r₂ : Wide) → r₁.low < 2 ^ 64 → r₂.low < 2 ^ 64 → value r₁ ≡ n → value r₂ ≡ n → r₁ ≡ r₂
wide_agrees n r₁ r₂ h l p q = one-wide r₁ r₂ h l (agree p q)

pub is_less_agrees : (a b : Wide) (r₁ r₂ : Bool) → r₁ ≡ nat_lt (value a) (value b) → r₂ ≡ nat_lt (value a) (value b) → r₁ ≡ r₂
is_less_agrees a b r₁ r₂ = agree

pub size_agrees : (z : ℤ) (r₁ r₂ : ℕ) → r₁ ≡ unsigned_abs z → r₂ ≡ unsigned_abs z → r₁ ≡ r₂
size_agrees z r₁ r₂ = agree
