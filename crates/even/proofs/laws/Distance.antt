-- How far points are off a ring's plane, as code finds it; and that check 06 only forgives what document 01 threw out.
use Rattle.std.specs.Prelude.{ℕ, ◌+◌, ◌*◌, ◌≤◌, max, zero, suc, ◌≡◌, refl, Bool, false, true, List, ltb, ℤ, pos, negsuc, nat_abs, ◌+ℤ◌, ◌*ℤ◌, ◌-ℤ◌}
use Rattle.std.proofs.Common.{mul-le-mul, mul-le-mul_left, le_trans, le_of_eq, arith, sym, ap, ap₂, ◌∙◌, subst, le-ltb, ltb-false}
use Rattle.std.proofs.Math.Nat.{mul-mul-mul_comm}
use Rattle.std.proofs.Math.Decide.{dec_le}
use Rattle.std.specs.Int.Signed.{lt_z}
use Rattle.whole.specs.Lists.{any, same_z}
use Rattle.whole.specs.laws.Alls.{all_imp, any_none, none_any}
use Rattle.space.specs.Space.{Point, relative_to, dot}
use Rattle.normal.specs.Normal.{relative, is_zero_of}
use Rattle.even.specs.Even.{square, squares, exceeds, is_uneven}
use Rattle.even.specs.held.Offs.{largest}
use Rattle.whole.specs.laws.Solve.{k, ◌⊕◌, ◌⊖◌, ◌⊗◌, ring, ◌≔◌}

-- ---- squares by sizes
pub square_abs : (z : ℤ) → square z ≡ pos (nat_abs z * nat_abs z)
unfolding square
square_abs (pos n) = refl
square_abs (negsuc n) = refl

abbrev pub sum_of : Point → ℕ
sum_of n = nat_abs n.x * nat_abs n.x + nat_abs n.y * nat_abs n.y + nat_abs n.z * nat_abs n.z

pub squares_abs : (n : Point) → squares n ≡ pos (sum_of n)
unfolding squares
squares_abs n = λ i. square_abs n.x i +ℤ square_abs n.y i +ℤ square_abs n.z i

limit_abs : (t : ℕ) (n : Point) → square (pos t) *ℤ squares n ≡ pos (t * t * sum_of n)
unfolding square
limit_abs t n = ap (λ (z : ℤ). square (pos t) *ℤ z) (squares_abs n)

exceeds_abs : (t : ℕ) (n : Point) (d : ℤ) → exceeds t n d ≡ ltb (t * t * sum_of n) (nat_abs d * nat_abs d)
unfolding exceeds
exceeds_abs t n d = ap₂ lt_z (limit_abs t n) (square_abs d)

-- the limit of a tolerance and a normal: each component times the tolerance, squared
pub scaled : (t : ℕ) (n : Point) {a b c v : ℕ} → a ≡ nat_abs n.x → b ≡ nat_abs n.y → c ≡ nat_abs n.z → v ≡ t * a * (t * a) + t * b * (t * b) + t * c * (t * c)
    → pos v ≡ square (pos t) *ℤ squares n
scaled t n p q r e = ap pos (e ∙ (λ i. t * p i * (t * p i) + t * q i * (t * q i) + t * r i * (t * r i)) ∙ out t (nat_abs n.x) (nat_abs n.y) (nat_abs n.z)) ∙ sym (limit_abs t n)
  where
    out : (t a b c : ℕ) → t * a * (t * a) + t * b * (t * b) + t * c * (t * c) ≡ t * t * (a * a + b * b + c * c)
    out t a b c = omega arith

-- the square of a size, held against that limit, tells
pub decides : (t : ℕ) (n : Point) {v : ℕ} → pos v ≡ square (pos t) *ℤ squares n → (d : ℤ) → ltb v (nat_abs d * nat_abs d) ≡ exceeds t n d
unfolding exceeds
decides t n e d = ap₂ lt_z e (sym (square_abs d))

-- ---- the reach: the square of the largest component is at most the sum of all three squares
either : (a b : ℕ) (P : ℕ → Type 0) → P a → P b → P (max a b)
either a b P p q = go (dec_le a b)
  where
    second : a ≤ b → b ≡ max a b
    second h = omega arith

    first : (a ≤ b → ⊥) → a ≡ max a b
    first f = omega arith

    go : Dec (a ≤ b) → P (max a b)
    go (yes h) = subst P (second h) q
    go (no f) = subst P (first f) p

largest-square : (a b c : ℕ) → max a (max b c) * max a (max b c) ≤ a * a + b * b + c * c
largest-square a b c = either a (max b c) (λ m. m * m ≤ a * a + b * b + c * c) (omega arith) (either b c (λ m. m * m ≤ a * a + b * b + c * c) (omega arith) (omega arith))

pub largest-squares : (n : Point) → largest n * largest n ≤ sum_of n
unfolding largest
largest-squares n = largest-square (nat_abs n.x) (nat_abs n.y) (nat_abs n.z)

-- a size within tolerance times the largest component exceeds no limit
pub settled : (t : ℕ) (n : Point) (d : ℤ) → nat_abs d ≤ t * largest n → exceeds t n d ≡ false
settled t n d h =
    exceeds_abs t n d
    ∙ le-ltb (t * t * sum_of n) (nat_abs d * nat_abs d)
    (le_trans (mul-le-mul h h)
    (le_trans (le_of_eq (mul-mul-mul_comm t (largest n) t (largest n))) (mul-le-mul_left (t * t) (largest-squares n))))

-- nor does a point of the plane
pub exceeds-none : (t : ℕ) (n : Point) → exceeds t n (pos 0) ≡ false
exceeds-none t n = settled t n (pos 0) (omega arith)

-- ---- the rule of document 01: "for some point p, the size of N·(p - first) exceeds tolerance times the largest size of N's
-- components". What passes by it passes check 06.
unfoldable pub is_uneven_along : ℕ → Point → List Point → Bool
is_uneven_along tolerance n ps = any (λ p. ltb (tolerance * largest n) (nat_abs (dot n p))) (relative ps)

pub forgives : (tolerance : ℕ) (n : Point) (ps : List Point) → is_uneven_along tolerance n ps ≡ false → is_uneven tolerance n ps ≡ false
unfolding is_uneven_along is_uneven
forgives tolerance n ps h =
    none_any (λ p. exceeds tolerance n (dot n p)) (relative ps)
    (all_imp (λ p e. settled tolerance n (dot n p) (ltb-false (tolerance * largest n) (nat_abs (dot n p)) e))
    (any_none (λ p. ltb (tolerance * largest n) (nat_abs (dot n p))) (relative ps) h))

-- ---- where the largest component is 0, N is
zero_of : (z : ℤ) → nat_abs z ≤ 0 → same_z z (pos 0) ≡ true
unfolding same_z
zero_of (pos zero) h = refl
zero_of (pos (suc n)) h = absurd (omega arith)
zero_of (negsuc n) h = absurd (omega arith)

pub all-zero : (n : Point) → largest n ≤ 0 → is_zero_of n ≡ true
unfolding largest is_zero_of
all-zero n h = rw (zero_of n.x (omega arith), zero_of n.y (omega arith), zero_of n.z (omega arith))

-- ---- N·(p - first) of the first itself is 0
pub upright_own : (n p : Point) → dot n (relative_to p p) ≡ pos 0
unfolding dot relative_to
upright_own n p = go n.x n.y n.z p.x p.y p.z
  where
    go : (a b c p q r : ℤ) → a *ℤ (p -ℤ p) +ℤ b *ℤ (q -ℤ q) +ℤ c *ℤ (r -ℤ r) ≡ pos 0
    go = ring 6 (λ a b c p q r. a ⊗ (p ⊖ p) ⊕ b ⊗ (q ⊖ q) ⊕ c ⊗ (r ⊖ r) ≔ k (pos 0)) tt

-- whether a place is too far off, by the way to it; where N·(p - first) is 0 it is not, at any tolerance
abbrev pub far : ℕ → Point → Point → Bool
far tolerance n p = exceeds tolerance n (dot n p)

pub within : (tolerance : ℕ) (n p : Point) → dot n p ≡ pos 0 → far tolerance n p ≡ false
within tolerance n p e = ap (exceeds tolerance n) e ∙ exceeds-none tolerance n
