-- The order of ℤ, handed to omega. Every quoted expression e is a difference of two naturals, `up ρ e` and `down ρ e`,
-- which compute to sums of the variables' own parts, so that `a ≤ℤ b` is `up a + down b ≤ up b + down a` in ℕ.
use Rattle.std.specs.Prelude.{◌≡◌, refl, Bool, true, false, not, cond, List, [], ◌∷◌, ◌⊎◌, ℕ, zero, suc, ◌+◌, ◌*◌, ◌-◌, ◌≤◌, ◌<◌, T, ltb, get_or, length, ℤ, pos, negsuc, neg_ℤ, nat_abs, ◌+ℤ◌, ◌-ℤ◌, ◌*ℤ◌, ◌≤ℤ◌, ◌<ℤ◌}
use Rattle.std.proofs.Common.{sym, ◌∙◌, ap, ap₂, subst, inl, inr, arith, ltb→lt, nltb→le, leb→le, le→leb, lt→ltb}
use Rattle.std.proofs.Math.ListN.{get_or-eq_default}
use Rattle.std.proofs.Math.Decide.{dec_lt}
use Rattle.std.proofs.Math.IntN.{sub_ℕ}
use Rattle.std.specs.Int.Signed.{lt_z, le_z}
use Rattle.whole.specs.laws.Solve.{E, v, k, ◌⊕◌, ◌⊖◌, ◌⊗◌, ⊝◌, eval, ring, ◌≔◌}
use Rattle.whole.specs.held.Small.{Small}
use Rattle.whole.specs.laws.Size.{small_zero}

-- ---- the two parts of a number. Shut, so that omega takes them as unknowns
pub P : ℤ → ℕ
P (pos n) = n
P (negsuc n) = 0

pub N : ℤ → ℕ
N (pos n) = 0
N (negsuc n) = suc n

-- the same, which compute: for a literal, or for `pos n`
abbrev pub up_of : ℤ → ℕ
up_of (pos n) = n
up_of (negsuc n) = 0

abbrev pub down_of : ℤ → ℕ
down_of (pos n) = 0
down_of (negsuc n) = suc n

-- both parts of an expression at once
abbrev pub parts : List ℤ → E → ℕ × ℕ
parts ρ (v i) = (P (get_or ρ i (pos 0)), N (get_or ρ i (pos 0)))
parts ρ (k z) = (up_of z, down_of z)
parts ρ (a ⊕ b) = ((parts ρ a).0 + (parts ρ b).0, (parts ρ a).1 + (parts ρ b).1)
parts ρ (a ⊖ b) = ((parts ρ a).0 + (parts ρ b).1, (parts ρ a).1 + (parts ρ b).0)
parts ρ (a ⊗ b) = ((parts ρ a).0 * (parts ρ b).0 + (parts ρ a).1 * (parts ρ b).1, (parts ρ a).0 * (parts ρ b).1 + (parts ρ a).1 * (parts ρ b).0)
parts ρ (⊝ a) = ((parts ρ a).1, (parts ρ a).0)

abbrev pub up : List ℤ → E → ℕ
up ρ e = (parts ρ e).0

abbrev pub down : List ℤ → E → ℕ
down ρ e = (parts ρ e).1

-- ---- an expression is the difference of its parts
of_parts : (z : ℤ) → z ≡ pos (up_of z) -ℤ pos (down_of z)
of_parts (pos n) = ap pos (plus-zero n)
  where
    plus-zero : (n : ℕ) → n ≡ n + 0
    plus-zero n = omega arith
of_parts (negsuc n) = zero-less n
  where
    pick : (t : Bool) → T t → (x y : ℤ) → x ≡ cond t x y
    pick true u x y = refl
    pick false u x y = absurd u

    one_less : (n : ℕ) → n ≡ suc n - 1
    one_less n = omega arith

    below : (n : ℕ) → 0 < suc n
    below n = omega arith

    zero-less : (n : ℕ) → negsuc n ≡ sub_ℕ 0 (suc n)
    zero-less n = ap negsuc (one_less n) ∙ pick (ltb 0 (suc n)) (lt→ltb 0 (suc n) (below n)) (negsuc (suc n - 1)) (pos (0 - suc n))

P-is : (z : ℤ) → P z ≡ up_of z
unfolding P
P-is (pos n) = refl
P-is (negsuc n) = refl

N-is : (z : ℤ) → N z ≡ down_of z
unfolding N
N-is (pos n) = refl
N-is (negsuc n) = refl

var_parts : (z : ℤ) → z ≡ pos (P z) -ℤ pos (N z)
var_parts z = of_parts z ∙ ap₂ (λ (m n : ℕ). pos m -ℤ pos n) (sym (P-is z)) (sym (N-is z))

sum-parts : (a b c d : ℤ) → (a -ℤ b) +ℤ (c -ℤ d) ≡ (a +ℤ c) -ℤ (b +ℤ d)
sum-parts = ring 4 (λ a b c d. (a ⊖ b) ⊕ (c ⊖ d) ≔ (a ⊕ c) ⊖ (b ⊕ d)) tt

dif_parts : (a b c d : ℤ) → (a -ℤ b) -ℤ (c -ℤ d) ≡ (a +ℤ d) -ℤ (b +ℤ c)
dif_parts = ring 4 (λ a b c d. (a ⊖ b) ⊖ (c ⊖ d) ≔ (a ⊕ d) ⊖ (b ⊕ c)) tt

mul_parts : (a b c d : ℤ) → (a -ℤ b) *ℤ (c -ℤ d) ≡ (a *ℤ c +ℤ b *ℤ d) -ℤ (a *ℤ d +ℤ b *ℤ c)
mul_parts = ring 4 (λ a b c d. (a ⊖ b) ⊗ (c ⊖ d) ≔ (a ⊗ c ⊕ b ⊗ d) ⊖ (a ⊗ d ⊕ b ⊗ c)) tt

neg_parts : (a b : ℤ) → neg_ℤ (a -ℤ b) ≡ b -ℤ a
neg_parts = ring 2 (λ a b. ⊝ (a ⊖ b) ≔ b ⊖ a) tt

pub is_parts : (ρ : List ℤ) (e : E) → eval ρ e ≡ pos (up ρ e) -ℤ pos (down ρ e)
is_parts ρ (v i) = var_parts (get_or ρ i (pos 0))
is_parts ρ (k z) = of_parts z
is_parts ρ (a ⊕ b) = ap₂ (λ (x y : ℤ). x +ℤ y) (is_parts ρ a) (is_parts ρ b) ∙ sum-parts (pos (up ρ a)) (pos (down ρ a)) (pos (up ρ b)) (pos (down ρ b))
is_parts ρ (a ⊖ b) = ap₂ (λ (x y : ℤ). x -ℤ y) (is_parts ρ a) (is_parts ρ b) ∙ dif_parts (pos (up ρ a)) (pos (down ρ a)) (pos (up ρ b)) (pos (down ρ b))
is_parts ρ (a ⊗ b) = ap₂ (λ (x y : ℤ). x *ℤ y) (is_parts ρ a) (is_parts ρ b) ∙ mul_parts (pos (up ρ a)) (pos (down ρ a)) (pos (up ρ b)) (pos (down ρ b))
is_parts ρ (⊝ a) = ap neg_ℤ (is_parts ρ a) ∙ neg_parts (pos (up ρ a)) (pos (down ρ a))

-- ---- a difference of naturals, and the parts of the number that it is
cond_ind : (c : Bool) (x y : ℤ) (Q : ℤ → Type 0) → (T c → Q x) → (T (not c) → Q y) → Q (cond c x y)
cond_ind true x y Q f g = f tt
cond_ind false x y Q f g = g tt

diff : (p n : ℕ) → up_of (pos p -ℤ pos n) + n ≡ p + down_of (pos p -ℤ pos n)
diff p zero = omega arith
diff p (suc n) = cond_ind (ltb p (suc n)) (negsuc (suc n - suc p)) (pos (p - suc n)) (λ z. up_of z + suc n ≡ p + down_of z)
    (λ t. low p n (ltb→lt p (suc n) t)) (λ t. high p n (nltb→le p (suc n) t))
  where
    low : (p n : ℕ) → p < suc n → 0 + suc n ≡ p + suc (suc n - suc p)
    low p n h = omega arith

    high : (p n : ℕ) → suc n ≤ p → (p - suc n) + suc n ≡ p + 0
    high p n h = omega arith

eval_diff : (ρ : List ℤ) (e : E) → up_of (eval ρ e) + down ρ e ≡ up ρ e + down_of (eval ρ e)
eval_diff ρ e = subst (λ (z : ℤ). up_of z + down ρ e ≡ up ρ e + down_of z) (sym (is_parts ρ e)) (diff (up ρ e) (down ρ e))

-- ---- the order by the parts
le_parts : (a b : ℤ) → up_of a + down_of b ≤ up_of b + down_of a → T (le_z a b)
le_parts (pos a) (pos b) h = le→leb a b (omega arith)
le_parts (pos a) (negsuc b) h = absurd (none a b h)
  where
    none : (a b : ℕ) → a + suc b ≤ 0 + 0 → ⊥
    none a b h = omega arith
le_parts (negsuc a) (pos b) h = tt
le_parts (negsuc a) (negsuc b) h = le→leb b a (omega arith)

parts_le : (a b : ℤ) → T (le_z a b) → up_of a + down_of b ≤ up_of b + down_of a
parts_le (pos a) (pos b) t = let h : a ≤ b = leb→le a b t in omega arith
parts_le (pos a) (negsuc b) t = absurd t
parts_le (negsuc a) (pos b) t = omega arith
parts_le (negsuc a) (negsuc b) t = let h : b ≤ a = leb→le b a t in omega arith

lt_parts : (a b : ℤ) → up_of a + down_of b < up_of b + down_of a → T (lt_z a b)
lt_parts (pos a) (pos b) h = lt→ltb a b (omega arith)
lt_parts (pos a) (negsuc b) h = absurd (none a b h)
  where
    none : (a b : ℕ) → a + suc b < 0 + 0 → ⊥
    none a b h = omega arith
lt_parts (negsuc a) (pos b) h = tt
lt_parts (negsuc a) (negsuc b) h = lt→ltb b a (omega arith)

parts_lt : (a b : ℤ) → T (lt_z a b) → up_of a + down_of b < up_of b + down_of a
parts_lt (pos a) (pos b) t = let h : a < b = ltb→lt a b t in omega arith
parts_lt (pos a) (negsuc b) t = absurd t
parts_lt (negsuc a) (pos b) t = omega arith
parts_lt (negsuc a) (negsuc b) t = let h : b < a = ltb→lt b a t in omega arith

eq_parts : (a b : ℤ) → up_of a + down_of b ≡ up_of b + down_of a → a ≡ b
eq_parts (pos a) (pos b) h = ap pos (omega arith)
eq_parts (pos a) (negsuc b) h = absurd (none a b h)
  where
    none : (a b : ℕ) → a + suc b ≡ 0 + 0 → ⊥
    none a b h = omega arith
eq_parts (negsuc a) (pos b) h = absurd (none a b h)
  where
    none : (a b : ℕ) → 0 + 0 ≡ b + suc a → ⊥
    none a b h = omega arith
eq_parts (negsuc a) (negsuc b) h = ap negsuc (omega arith)

-- ---- the calls. `-by` proves a claim on ℤ from one on ℕ, which is omega's; `-of` turns a fact on ℤ into one for omega's list
module _ (ρ : List ℤ) (a b : E) where
  pub le_by : up ρ a + down ρ b ≤ up ρ b + down ρ a → eval ρ a ≤ℤ eval ρ b
  le_by h = record { le = le_parts (eval ρ a) (eval ρ b) (go (up_of (eval ρ a)) (down_of (eval ρ a)) (up_of (eval ρ b)) (down_of (eval ρ b)) (up ρ a) (down ρ a) (up ρ b) (down ρ b) (eval_diff ρ a) (eval_diff ρ b) h) }
    where
      go : (p n q m u d x y : ℕ) → p + d ≡ u + n → q + y ≡ x + m → u + y ≤ x + d → p + m ≤ q + n
      go p n q m u d x y e f h = omega arith

  pub le_of : eval ρ a ≤ℤ eval ρ b → up ρ a + down ρ b ≤ up ρ b + down ρ a
  le_of h = go (up_of (eval ρ a)) (down_of (eval ρ a)) (up_of (eval ρ b)) (down_of (eval ρ b)) (up ρ a) (down ρ a) (up ρ b) (down ρ b) (eval_diff ρ a) (eval_diff ρ b) (parts_le (eval ρ a) (eval ρ b) h.le)
    where
      go : (p n q m u d x y : ℕ) → p + d ≡ u + n → q + y ≡ x + m → p + m ≤ q + n → u + y ≤ x + d
      go p n q m u d x y e f h = omega arith

  pub lt_by : up ρ a + down ρ b < up ρ b + down ρ a → eval ρ a <ℤ eval ρ b
  lt_by h = record { lt = lt_parts (eval ρ a) (eval ρ b) (go (up_of (eval ρ a)) (down_of (eval ρ a)) (up_of (eval ρ b)) (down_of (eval ρ b)) (up ρ a) (down ρ a) (up ρ b) (down ρ b) (eval_diff ρ a) (eval_diff ρ b) h) }
    where
      go : (p n q m u d x y : ℕ) → p + d ≡ u + n → q + y ≡ x + m → u + y < x + d → p + m < q + n
      go p n q m u d x y e f h = omega arith

  pub lt_of : eval ρ a <ℤ eval ρ b → up ρ a + down ρ b < up ρ b + down ρ a
  lt_of h = go (up_of (eval ρ a)) (down_of (eval ρ a)) (up_of (eval ρ b)) (down_of (eval ρ b)) (up ρ a) (down ρ a) (up ρ b) (down ρ b) (eval_diff ρ a) (eval_diff ρ b) (parts_lt (eval ρ a) (eval ρ b) h.lt)
    where
      go : (p n q m u d x y : ℕ) → p + d ≡ u + n → q + y ≡ x + m → p + m < q + n → u + y < x + d
      go p n q m u d x y e f h = omega arith

  pub eq_by : up ρ a + down ρ b ≡ up ρ b + down ρ a → eval ρ a ≡ eval ρ b
  eq_by h = eq_parts (eval ρ a) (eval ρ b) (go (up_of (eval ρ a)) (down_of (eval ρ a)) (up_of (eval ρ b)) (down_of (eval ρ b)) (up ρ a) (down ρ a) (up ρ b) (down ρ b) (eval_diff ρ a) (eval_diff ρ b) h)
    where
      go : (p n q m u d x y : ℕ) → p + d ≡ u + n → q + y ≡ x + m → u + y ≡ x + d → p + m ≡ q + n
      go p n q m u d x y e f h = omega arith

  pub eq_of : eval ρ a ≡ eval ρ b → up ρ a + down ρ b ≡ up ρ b + down ρ a
  eq_of h = go (up_of (eval ρ a)) (down_of (eval ρ a)) (up_of (eval ρ b)) (down_of (eval ρ b)) (up ρ a) (down ρ a) (up ρ b) (down ρ b) (eval_diff ρ a) (eval_diff ρ b) (ap up_of h) (ap down_of h)
    where
      go : (p n q m u d x y : ℕ) → p + d ≡ u + n → q + y ≡ x + m → p ≡ q → n ≡ m → u + y ≡ x + d
      go p n q m u d x y e f h l = omega arith

-- ---- the size by the parts
abs_parts : (z : ℤ) → nat_abs z ≡ up_of z + down_of z
abs_parts (pos n) = omega arith
abs_parts (negsuc n) = omega arith

apart : (z : ℤ) → (up_of z ≡ 0) ⊎ (down_of z ≡ 0)
apart (pos n) = inr refl
apart (negsuc n) = inl refl

module _ (ρ : List ℤ) (e : E) where
  pub small_by : {n : ℕ} → up ρ e ≤ down ρ e + n → down ρ e ≤ up ρ e + n → Small n (eval ρ e)
  small_by {n} h l = record { small = go (nat_abs (eval ρ e)) (up_of (eval ρ e)) (down_of (eval ρ e)) (up ρ e) (down ρ e) n (abs_parts (eval ρ e)) (apart (eval ρ e)) (eval_diff ρ e) h l }
    where
      go : (s p m u d n : ℕ) → s ≡ p + m → (p ≡ 0) ⊎ (m ≡ 0) → p + d ≡ u + m → u ≤ d + n → d ≤ u + n → s ≤ n
      go s p m u d n e (inl z) f h l = omega arith
      go s p m u d n e (inr z) f h l = omega arith

  pub small_of : {n : ℕ} → Small n (eval ρ e) → (up ρ e ≤ down ρ e + n) × (down ρ e ≤ up ρ e + n)
  small_of {n} h = go (nat_abs (eval ρ e)) (up_of (eval ρ e)) (down_of (eval ρ e)) (up ρ e) (down ρ e) n (abs_parts (eval ρ e)) (eval_diff ρ e) h.small
    where
      go : (s p m u d n : ℕ) → s ≡ p + m → p + d ≡ u + m → s ≤ n → (u ≤ d + n) × (d ≤ u + n)
      go s p m u d n e f h = omega arith

-- between -n and n
pub in_range : (n : ℕ) {z : ℤ} → neg_ℤ (pos n) ≤ℤ z → z ≤ℤ pos n → Small n z
in_range n {z} h l =
    small_by (z ∷ []) (v 0) (omega (arith, le_of (z ∷ []) (v 0) (k (pos n)) l)) (omega (arith, le_of (z ∷ []) (⊝ k (pos n)) (v 0) h))

-- each element of a list, and so each index
pub all_small : {n : ℕ} (l : List ℤ) → ((i : ℕ) → i < length l → Small n (get_or l i (pos 0))) → (i : ℕ) → Small n (get_or l i (pos 0))
all_small {n} l h i = go (dec_lt i (length l))
  where
    le-by-not : ¬ (i < length l) → length l ≤ i
    le-by-not f = omega arith

    go : Dec (i < length l) → Small n (get_or l i (pos 0))
    go (yes p) = h i p
    go (no f) = subst (λ (z : ℤ). Small n z) (sym (get_or-eq_default l (pos 0) (le-by-not f))) small_zero
