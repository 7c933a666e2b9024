-- Sums and the order of numbers of two words, in any base: a number is `high * base + low` with `low < base`.
use Rattle.std.specs.Prelude.{◌≡◌, ℕ, suc, ◌+◌, ◌*◌, ◌^◌, ◌<◌, ◌≤◌, Bool, true, false, ◌&&◌, ◌||◌, T, ◌==◌, ◌≢◌, nat_lt, refl}
use Rattle.std.proofs.Common.{sym, add-le-add, lt_of_mul-lt-mul_right, mul-le-mul_right, lt_of_lt_of_le, lt_of_le_of_lt, le_trans, le_of_lt, arith, ltb→lt, ltb-true, ltb-false, lt-ltb, le-ltb, eqb-true}
use Rattle.std.proofs.lemmas.Bool.{eqb-false}

-- two numbers within sizes that together stay below 2^128
pub room : {m n : ℕ} (a b : ℕ) → a ≤ m → b ≤ n → T (nat_lt (m + n) (2 ^ 128)) → a + b < 2 ^ 128
room {m} {n} a b h l t = lt_of_le_of_lt (add-le-add h l) (ltb→lt (m + n) (2 ^ 128) t)

-- ---- sums
-- where a sum is below the square of the base, its high words add up to less than the base
pub high_below : (base ah al bh bl : ℕ) → ah * base + al + (bh * base + bl) < base * base → ah + bh < base
high_below base ah al bh bl h = lt_of_mul-lt-mul_right base (lt_of_le_of_lt (less (ah * base) al (bh * base) bl) h)
  where
    less : (p al q bl : ℕ) → (ah + bh) * base ≤ ah * base + al + (bh * base + bl)
    less p al q bl = omega arith

-- also with one more, where the low words carry
pub carried_below : (base ah al bh bl : ℕ) → base ≤ al + bl → ah * base + al + (bh * base + bl) < base * base → ah + bh + 1 < base
carried_below base ah al bh bl c h = lt_of_mul-lt-mul_right base (lt_of_le_of_lt less h)
  where
    less : (ah + bh + 1) * base ≤ ah * base + al + (bh * base + bl)
    less = omega arith

-- ---- the order
higher : (base ah al bh bl : ℕ) → al < base → ah < bh → ah * base + al < bh * base + bl
higher base ah al bh bl h l = lt_of_lt_of_le (step base ah al h) (le_trans (mul-le-mul_right base l) (more (bh * base) bl))
  where
    step : (base ah al : ℕ) → al < base → ah * base + al < suc ah * base
    step base ah al h = omega arith

    more : (p bl : ℕ) → p ≤ p + bl
    more p bl = omega arith

-- by the high words, and where they are one by the low words
pub order : (base ah al bh bl : ℕ) → al < base → bl < base → (nat_lt ah bh || ah == bh && nat_lt al bl) ≡ nat_lt (ah * base + al) (bh * base + bl)
order base ah al bh bl ha hb = go (nat_lt ah bh) refl (ah == bh) refl (nat_lt al bl) refl
  where
    same-less : ah ≡ bh → al < bl → ah * base + al < bh * base + bl
    same-less e h = rw e (omega arith)

    same_more : ah ≡ bh → bl ≤ al → bh * base + bl ≤ ah * base + al
    same_more e h = rw e (omega arith)

    lower : bh < ah → bh * base + bl ≤ ah * base + al
    lower l = le_of_lt (higher base bh bl ah al hb l)

    apart : bh ≤ ah → (ah ≢ bh) → bh < ah
    apart h f = omega arith

    go : (s : Bool) → nat_lt ah bh ≡ s → (t : Bool) → (ah == bh) ≡ t → (u : Bool) → nat_lt al bl ≡ u → (s || t && u) ≡ nat_lt (ah * base + al) (bh * base + bl)
    go true p t q u r = sym (lt-ltb (ah * base + al) (bh * base + bl) (higher base ah al bh bl ha (ltb-true ah bh p)))
    go false p true q true r = sym (lt-ltb (ah * base + al) (bh * base + bl) (same-less (eqb-true ah bh q) (ltb-true al bl r)))
    go false p true q false r = sym (le-ltb (ah * base + al) (bh * base + bl) (same_more (eqb-true ah bh q) (ltb-false al bl r)))
    go false p false q u r = sym (le-ltb (ah * base + al) (bh * base + bl) (lower (apart (ltb-false ah bh p) (eqb-false ah bh q))))
