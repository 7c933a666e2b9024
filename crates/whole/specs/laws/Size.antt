-- The size of an integer, `nat_abs z`, which omega reads as an unknown: of a sum, a difference, a product, a negation.
use Rattle.std.specs.Prelude.{◌≡◌, refl, Bool, true, false, not, cond, ℕ, zero, suc, ◌+◌, ◌*◌, ◌-◌, ◌≤◌, ◌<◌, ◌^◌, T, ltb, leb, ℤ, pos, negsuc, neg_ℤ, nat_abs, ◌+ℤ◌, ◌-ℤ◌, ◌*ℤ◌}
use Rattle.std.proofs.Common.{sym, ◌∙◌, subst, zero-le, le_refl, le_trans, add-le-add, mul-le-mul, lt_of_le_of_lt, le_of_eq, arith, ltb→lt, to_z-of_z}
use Rattle.std.proofs.Math.IntN.{sub_ℕ}
use Rattle.std.specs.Int.Signed.{mag, nat_abs-le}
use Rattle.std.specs.Int.{Width}
use mir.Val.{SFits, hbits, of_z, to_z}
use Rattle.std.proofs.Math.Facts.{sfits_widen}
use Rattle.whole.specs.held.Small.{Small}

pub abs_neg : (z : ℤ) → nat_abs (neg_ℤ z) ≡ nat_abs z
abs_neg (pos zero) = refl
abs_neg (pos (suc n)) = refl
abs_neg (negsuc n) = refl

pub abs_mul : (a b : ℤ) → nat_abs (a *ℤ b) ≡ nat_abs a * nat_abs b
abs_mul (pos a) (pos b) = refl
abs_mul (pos a) (negsuc b) = abs_neg (pos (a * suc b))
abs_mul (negsuc a) (pos b) = abs_neg (pos (suc a * b))
abs_mul (negsuc a) (negsuc b) = refl

pick_le : (t : Bool) (x y : ℤ) (n : ℕ) → (T t → nat_abs x ≤ n) → (T (not t) → nat_abs y ≤ n) → nat_abs (cond t x y) ≤ n
pick_le true x y n f g = f tt
pick_le false x y n f g = g tt

below : (a b : ℕ) → a < b → suc (b - suc a) ≤ a + b
below a b h = omega arith

above : (a b : ℕ) → a - b ≤ a + b
above a b = omega arith

sub_le : (a b : ℕ) → nat_abs (sub_ℕ a b) ≤ a + b
sub_le a b = pick_le (ltb a b) (negsuc (b - suc a)) (pos (a - b)) (a + b) (λ t. below a b (ltb→lt a b t)) (λ t. above a b)

swap : (a b n : ℕ) → n ≤ b + a → n ≤ a + b
swap a b n h = omega arith

both : (a b : ℕ) → suc (suc (a + b)) ≤ suc a + suc b
both a b = omega arith

pub abs_add : (a b : ℤ) → nat_abs (a +ℤ b) ≤ nat_abs a + nat_abs b
abs_add (pos a) (pos b) = le_refl (a + b)
abs_add (pos a) (negsuc b) = sub_le a (suc b)
abs_add (negsuc a) (pos b) = swap (suc a) b (nat_abs (sub_ℕ b (suc a))) (sub_le b (suc a))
abs_add (negsuc a) (negsuc b) = both a b

pub abs_sub : (a b : ℤ) → nat_abs (a -ℤ b) ≤ nat_abs a + nat_abs b
abs_sub a b = subst (λ (n : ℕ). nat_abs (a +ℤ neg_ℤ b) ≤ nat_abs a + n) (abs_neg b) (abs_add a (neg_ℤ b))

pub small_zero : {n : ℕ} → Small n (pos 0)
small_zero = record { small = zero-le }

pub small_more : {m n : ℕ} {z : ℤ} → m ≤ n → Small m z → Small n z
small_more l h = record { small = le_trans h.small l }

pub small_add : {a b : ℤ} {m n : ℕ} → Small m a → Small n b → Small (m + n) (a +ℤ b)
small_add {a} {b} h l = record { small = le_trans (abs_add a b) (add-le-add h.small l.small) }

pub small_sub : {a b : ℤ} {m n : ℕ} → Small m a → Small n b → Small (m + n) (a -ℤ b)
small_sub {a} {b} h l = record { small = le_trans (abs_sub a b) (add-le-add h.small l.small) }

pub small_mul : {a b : ℤ} {m n : ℕ} → Small m a → Small n b → Small (m * n) (a *ℤ b)
small_mul {a} {b} h l = record { small = le_trans (le_of_eq (abs_mul a b)) (mul-le-mul h.small l.small) }

pub small_neg : {a : ℤ} {m : ℕ} → Small m a → Small m (neg_ℤ a)
small_neg {a} h = record { small = le_trans (le_of_eq (abs_neg a)) h.small }

-- ---- the range of a width
pub mag_abs : (z : ℤ) → mag z ≤ nat_abs z
mag_abs (pos n) = le_refl n
mag_abs (negsuc n) = omega arith

pub fits_abs : {w : Width} (z : ℤ) → nat_abs z < 2 ^ hbits w → SFits w z
fits_abs z h = record { sfits = lt_of_le_of_lt (mag_abs z) h }

pub small_fits : {w : Width} {z : ℤ} {n : ℕ} → T (ltb n (2 ^ hbits w)) → Small n z → SFits w z
small_fits {w} {z} {n} t h = fits_abs z (lt_of_le_of_lt h.small (ltb→lt n (2 ^ hbits w) t))

-- read back from its bits, a small number is itself
pub small_back : (w : Width) {z : ℤ} {n : ℕ} → T (ltb n (2 ^ hbits w)) → Small n z → to_z w (of_z w z) ≡ z
small_back w t h = to_z-of_z (small_fits t h)

pub back_small : {z : ℤ} {n : ℕ} (w : Width) → T (ltb n (2 ^ hbits w)) → Small n z → Small n (to_z w (of_z w z))
back_small {z} {n} w t h = subst (λ (y : ℤ). Small n y) (sym (small_back w t h)) h

-- ---- a cast to a wider signed type, as `x as i64` of an `i32`: what it asks, and what it yields
pub cast_fits : {z : ℤ} (w w' : Width) → T (leb (hbits w) (hbits w')) → SFits w z → SFits w' (to_z w (of_z w z))
cast_fits w w' t h = subst (λ (y : ℤ). SFits w' y) (sym (to_z-of_z h)) (sfits_widen t h)

pub cast_back : {z : ℤ} (w w' : Width) → T (leb (hbits w) (hbits w')) → SFits w z → to_z w' (of_z w' (to_z w (of_z w z))) ≡ z
cast_back w w' t h = to_z-of_z (cast_fits w w' t h) ∙ to_z-of_z h

-- a call's result, read back from its bits: `call_is w64 c.f.ok c.f.ensures`
pub call_is : (w : Width) {r z : ℤ} → mag r < 2 ^ hbits w → r ≡ z → to_z w (of_z w r) ≡ z
call_is w h e = to_z-of_z (record { sfits = h }) ∙ e

-- what fits a width is small, as an `i32` is
pub fits_small : (w : Width) {z : ℤ} → SFits w z → Small (2 ^ hbits w) z
fits_small w {z} h = record { small = nat_abs-le z h.sfits }
