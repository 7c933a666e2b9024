-- How many of a list pass a test, and what stands in it.
use Prim.Native.Nat.{ℕ, zero, suc, ◌+◌, ◌≤◌, ◌<◌, zero-le, suc-le-suc}
use Rattle.std.proofs.Math.Nat.{le_refl}
use Rattle.std.proofs.Common.{le_of_suc-le-suc, not-suc-le-zero, sym, ap, ap₂, subst, ◌∙◌, inl, inr, ⊎_elim, eqb-true, eq-eqb}
use native.Mathlib.Omega.{arith}
use Rattle.std.specs.Prelude.{◌≡◌, Bool, ◌⊎◌, eqb, length, get_or}
use Rattle.std.proofs.Math.Path.{refl}
use Rattle.std.proofs.Math.Bool.{true, false}
use mathlib.Core.List.{List, [], ◌∷◌, ◌++◌, map, reverse, reverse_aux}
use Rattle.whole.specs.Lists.{tally}
use Rattle.edges.specs.held.Ascending.{In}

-- 1 where x passes, else 0
unfoldable pub one : {A : Type 0} → (A → Bool) → A → ℕ
one t x = elim (t x) [ true ↦ 1 | false ↦ 0 ]

module _ {A : Type 0} where
  pub tally_nil : (t : A → Bool) → tally t [] ≡ 0
  unfolding tally
  tally_nil t = refl

  pub tally_cons : (t : A → Bool) (x : A) (l : List A) → tally t (x ∷ l) ≡ one t x + tally t l
  unfolding tally one
  tally_cons t x l = go (t x)
    where
      go : (b : Bool) → elim b as (λ _. ℕ) [ true ↦ suc (tally t l) | false ↦ tally t l ] ≡ elim b as (λ _. ℕ) [ true ↦ 1 | false ↦ 0 ] + tally t l
      go true = omega arith
      go false = omega arith

  pub one_yes : (t : A → Bool) (x : A) → t x ≡ true → one t x ≡ 1
  unfolding one
  one_yes t x e = rw (e, one)

  pub one_no : (t : A → Bool) (x : A) → t x ≡ false → one t x ≡ 0
  unfolding one
  one_no t x e = rw (e, one)

  one_le : (t : A → Bool) (x : A) → one t x ≤ 1
  unfolding one
  one_le t x = go (t x)
    where
      go : (b : Bool) → elim b as (λ _. ℕ) [ true ↦ 1 | false ↦ 0 ] ≤ 1
      go true = le_refl 1
      go false = zero-le

  pub tally_le : (t : A → Bool) (l : List A) → tally t l ≤ length l
  tally_le t [] = omega (arith, tally_nil t)
  tally_le t (x ∷ l) = omega (arith, tally_cons t x l, one_le t x, tally_le t l)

  pub tally_append : (t : A → Bool) (a b : List A) → tally t (a ++ b) ≡ tally t a + tally t b
  tally_append t [] b = omega (arith, tally_nil t)
  tally_append t (x ∷ a) b = rw (tally_cons t x (a ++ b), tally_cons t x a) (omega (arith, tally_append t a b))

  pub tally-reverse_aux : (t : A → Bool) (l r : List A) → tally t (reverse_aux l r) ≡ tally t l + tally t r
  tally-reverse_aux t [] r = omega (arith, tally_nil t)
  tally-reverse_aux t (x ∷ l) r = tally-reverse_aux t l (x ∷ r) ∙ omega (arith, tally_cons t x l, tally_cons t x r)

  pub tally-reverse : (t : A → Bool) (l : List A) → tally t (reverse l) ≡ tally t l
  tally-reverse t l = tally-reverse_aux t l [] ∙ omega (arith, tally_nil t)

one_map : {A B : Type 0} (t : B → Bool) (g : A → B) (x : A) → one t (g x) ≡ one (λ y. t (g y)) x
unfolding one
one_map t g x = refl

pub tally-map : {A B : Type 0} (t : B → Bool) (g : A → B) (l : List A) → tally t (map g l) ≡ tally (λ x. t (g x)) l
tally-map t g [] = tally_nil t ∙ sym (tally_nil (λ x. t (g x)))
tally-map t g (x ∷ l) =
    tally_cons t (g x) (map g l) ∙ ap₂ (λ (a b : ℕ). a + b) (one_map t g x) (tally-map t g l) ∙ sym (tally_cons (λ y. t (g y)) x l)

-- a number that stands in a list is counted, and one that is counted stands there
pub in_tally : (t : ℕ → Bool) (x : ℕ) (l : List ℕ) → In x l → t x ≡ true → 1 ≤ tally t l
in_tally t x [] i e = absurd i
in_tally t x (y ∷ l) (inl q) e = omega (arith, tally_cons t y l, one_yes t y (ap t (sym q) ∙ e))
in_tally t x (y ∷ l) (inr i) e = omega (arith, tally_cons t y l, in_tally t x l i e)

pub tally_in : (t : ℕ → Bool) (l : List ℕ) → 1 ≤ tally t l → (x : ℕ) × In x l × (t x ≡ true)
tally_in t [] h = absurd (bad (tally_nil t))
  where
    bad : tally t [] ≡ 0 → ⊥
    bad e = omega arith
tally_in t (y ∷ l) h = go (t y) refl (tally_in t l)
  where
    go : (b : Bool) → t y ≡ b → (1 ≤ tally t l → (x : ℕ) × In x l × (t x ≡ true)) → (x : ℕ) × In x (y ∷ l) × (t x ≡ true)
    go true e ih = (y, inl refl, e)
    go false e ih = let r = ih (omega (arith, tally_cons t y l, one_no t y e)) in (r.0, inr r.1, r.2)

-- what stands in a list stands at a place, and the other way round
pub in_place : (x : ℕ) (l : List ℕ) → In x l → (i : ℕ) × (i < length l) × (get_or l i 0 ≡ x)
in_place x [] i = absurd i
in_place x (y ∷ l) (inl q) = (0, suc-le-suc zero-le, sym q)
in_place x (y ∷ l) (inr i) = let r = in_place x l i in (suc r.0, suc-le-suc r.1, r.2)

pub place_in : (l : List ℕ) (i : ℕ) → i < length l → In (get_or l i 0) l
place_in [] i h = absurd (not-suc-le-zero h)
place_in (y ∷ l) zero h = inl refl
place_in (y ∷ l) (suc i) h = inr (place_in l i (le_of_suc-le-suc h))

pub in_left : (x : ℕ) (a b : List ℕ) → In x a → In x (a ++ b)
in_left x [] b i = absurd i
in_left x (y ∷ a) b (inl q) = inl q
in_left x (y ∷ a) b (inr i) = inr (in_left x a b i)

pub in_right : (x : ℕ) (a b : List ℕ) → In x b → In x (a ++ b)
in_right x [] b i = i
in_right x (y ∷ a) b i = inr (in_right x a b i)

pub in_either : (x : ℕ) (a b : List ℕ) → In x (a ++ b) → In x a ⊎ In x b
in_either x [] b i = inr i
in_either x (y ∷ a) b (inl q) = inl (inl q)
in_either x (y ∷ a) b (inr i) = ⊎_elim (λ (j : In x a). inl (inr j)) (λ (j : In x b). inr j) (in_either x a b i)

-- lists of which as many pass each test have the same members
pub same_in : (l m : List ℕ) → ((t : ℕ → Bool) → tally t l ≡ tally t m) → (x : ℕ) → In x l → In x m
same_in l m h x i =
    let r = tally_in (eqb x) m (subst (λ (n : ℕ). 1 ≤ n) (h (eqb x)) (in_tally (eqb x) x l i (eq-eqb x x refl))) in
    subst (λ (y : ℕ). In y m) (sym (eqb-true x r.0 r.2)) r.1
