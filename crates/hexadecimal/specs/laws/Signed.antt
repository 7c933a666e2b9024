-- Laws of signed numbers as the machine has them: a coordinate from its 32 bits, the 64 bits of a number of an answer.
use Rattle.std.specs.Prelude.{ℕ, zero, suc, ◌+◌, ◌-◌, ◌%◌, ◌^◌, ◌≤◌, ◌<◌, ◌≡◌, Bool, true, false, cond, T, ltb, ℤ, negsuc, nat_abs, ◌-ℤ◌}
use native.Mathlib.Omega.{arith}
use Rattle.std.proofs.Common.{zero-add, ◌∙◌, lt-ltb, le-ltb, ltb-true, ltb-false, SFits, to_z, of_z, to_z-of_z}
use Rattle.std.proofs.Math.Path.{refl, ap}
use Rattle.std.proofs.Math.IntN.{pos}
use Rattle.std.specs.Int.Signed.{lt_z, mag, non_neg}
use mir.Syntax.{w64}
use Rattle.std.proofs.Math.Facts.{to_z_pos}
use Rattle.hexadecimal.specs.Hex.{signed32, bits64}

-- -1 - m
pub below : (m : ℕ) → negsuc 0 -ℤ pos m ≡ negsuc m
below zero = refl
below (suc n) = rw zero-add

-- -1 - z, of a z below 0
flip : (z : ℤ) → lt_z z (pos 0) ≡ true → negsuc 0 -ℤ z ≡ pos (mag z)
flip (pos n) h = absurd (omega (arith, ltb-true n 0 h))
flip (negsuc n) h =
    let a : 1 ≤ suc n = omega arith in
    let e : suc n - 1 ≡ n = omega arith in
    rw (le-ltb (suc n) 1 a, e)

pub bits_neg : (z : ℤ) → lt_z z (pos 0) ≡ true → 18446744073709551615 - mag z ≡ bits64 z
unfolding bits64
bits_neg (pos n) h = absurd (omega (arith, ltb-true n 0 h))
bits_neg (negsuc n) h = refl

pub bits_pos : (z : ℤ) → lt_z z (pos 0) ≡ false → (T (non_neg z) × (nat_abs z ≡ bits64 z))
unfolding bits64
bits_pos (pos n) h = (tt, refl)
bits_pos (negsuc n) h = absurd (tf h)
  where
    tf : true ≡ false → ⊥
    tf e = let z : ◌≡◌ {A = ℕ} 0 1 = cc in omega arith

module _ (z : ℤ) (fits : SFits w64 z) where
  pub seen : to_z w64 (of_z w64 z) ≡ z
  seen = to_z-of_z fits

  module _ (neg : lt_z (to_z w64 (of_z w64 z)) (pos 0) ≡ true) where
    pub neg' : lt_z z (pos 0) ≡ true
    neg' = rw seen at neg

    pub flipped : negsuc 0 -ℤ to_z w64 (of_z w64 z) ≡ pos (mag z)
    flipped = rw seen (flip z neg')

    pub back : to_z w64 (of_z w64 (negsuc 0 -ℤ to_z w64 (of_z w64 z))) ≡ pos (mag z)
    back = ap (λ (y : ℤ). to_z w64 (of_z w64 y)) flipped ∙ to_z_pos w64 fits.sfits

signed_fits64 : (v : ℕ) → SFits w64 (signed32 v)
unfolding signed32
signed_fits64 v = go (ltb v (2 ^ 31)) refl
  where
    go : (c : Bool) → ltb v (2 ^ 31) ≡ c → SFits w64 (cond c (pos v) (negsuc (2 ^ 32 - 1 - v)))
    go true e = record { sfits = omega (arith, ltb-true v (2 ^ 31) e) }
    go false e = record { sfits = omega arith }

-- 32 bits with the sign bit: 2^31 more, within 32 bits, is 2^31 above the number
module _ (v : ℕ) (g : v < 2 ^ 32) where
  lifted : to_z w64 ((v + 2147483648) % 4294967296) -ℤ pos 2147483648 ≡ signed32 v
  unfolding signed32
  lifted = ap (λ (z : ℤ). z -ℤ pos 2147483648) (to_z_pos w64 m) ∙ go (ltb v (2 ^ 31)) refl
    where
      m : (v + 2147483648) % 4294967296 < 2 ^ 63
      m = omega arith

      go : (c : Bool) → ltb v (2 ^ 31) ≡ c → pos ((v + 2147483648) % 4294967296) -ℤ pos 2147483648 ≡ cond c (pos v) (negsuc (2 ^ 32 - 1 - v))
      go true e =
          let h : v < 2 ^ 31 = ltb-true v (2 ^ 31) e in
          let d : (v + 2147483648) % 4294967296 ≡ v + 2147483648 = omega arith in
          let f : v + 2147483648 - 2147483648 ≡ v = omega arith in
          let k : 2147483648 ≤ v + 2147483648 = omega arith in
          rw (d, le-ltb (v + 2147483648) 2147483648 k, f)
      go false e =
          let h : 2 ^ 31 ≤ v = ltb-false v (2 ^ 31) e in
          let d : (v + 2147483648) % 4294967296 ≡ v - 2147483648 = omega arith in
          let f : 2147483648 - suc (v - 2147483648) ≡ 2 ^ 32 - 1 - v = omega arith in
          let k : v - 2147483648 < 2147483648 = omega arith in
          rw (d, lt-ltb (v - 2147483648) 2147483648 k, f)

  pub lifted-fits : SFits w64 (to_z w64 ((v + 2147483648) % 4294967296) -ℤ pos 2147483648)
  lifted-fits = rw lifted (signed_fits64 v)

  pub signed-lifted : to_z w64 (of_z w64 (to_z w64 ((v + 2147483648) % 4294967296) -ℤ pos 2147483648)) ≡ signed32 v
  signed-lifted = to_z-of_z lifted-fits ∙ lifted

-- a coordinate, as a called function hands it back
pub signed_back : {r : ℤ} (v : ℕ) → r ≡ signed32 v → to_z w64 (of_z w64 r) ≡ signed32 v
signed_back {r} v e = ap (λ (z : ℤ). to_z w64 (of_z w64 z)) e ∙ to_z-of_z (signed_fits64 v)
