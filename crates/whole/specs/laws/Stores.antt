-- Stores into an array: what holds of every element after one, and a loop that makes every place below a number anew.
use Prim.Native.Nat.{ℕ, zero, suc, ◌+◌, ◌≤◌, ◌<◌}
use Rattle.std.specs.Prelude.{◌≡◌, Bool, true, false, List, [], ◌∷◌, ◌++◌, ltb, eqb, length, get_or, set}
use Rattle.std.proofs.Math.Path.{refl}
use Rattle.std.proofs.Common.{sym, ap, ◌∙◌, subst, arith, add-one, add-zero, get_or-set_same}
use borrow.Author.Tests.{ltb-true, ltb-false, eqb-true, eqb-false}
use Rattle.std.proofs.Math.ListN.{length-set}
use Rattle.std.proofs.lemmas.List.Edits.{sets}
use Rattle.std.proofs.Math.Seq.{get_or-set_other, set_out}
use Rattle.whole.specs.held.Stored.{upto, zeroed}

pub cases : {X : Type 0} (b : Bool) → (b ≡ true → X) → (b ≡ false → X) → X
cases true f g = f refl
cases false f g = g refl

-- what holds of every element below m, after a store
pub all_set : {A : Type 0} (P : A → Type 0) (d : A) (l : List A) (m j : ℕ) (v : A) → ((i : ℕ) → i < m → P (get_or l i d)) → P v → (i : ℕ) → i < m → P (get_or (set l j v) i d)
all_set {A} P d l m j v h q i b =
    cases (eqb i j)
    (λ t. cases (ltb j (length l))
    (λ u. subst P (sym (ap (λ (k : ℕ). get_or (set l j v) k d) (eqb-true i j t) ∙ get_or-set_same l j v d (ltb-true j (length l) u))) q)
    (λ u. subst P (sym (ap (λ (r : List A). get_or r i d) (set_out l j v (ltb-false j (length l) u)))) (h i b)))
    (λ t. subst P (sym (get_or-set_other l j i v d (eqb-false i j t))) (h i b))

module _ {A : Type 0} where
  pub length-upto : (f : ℕ → A → A) (d : A) (l : List A) (n : ℕ) → length (upto f d l n) ≡ length l
  unfolding upto
  length-upto f d l zero = refl
  length-upto f d l (suc n) = length-set (upto f d l n) n (f n (get_or l n d)) ∙ length-upto f d l n

  pub upto_rest : (f : ℕ → A → A) (d : A) (l : List A) (n p : ℕ) → n ≤ p → get_or (upto f d l n) p d ≡ get_or l p d
  unfolding upto
  upto_rest f d l zero p h = refl
  upto_rest f d l (suc n) p h = get_or-set_other (upto f d l n) n p (f n (get_or l n d)) d (λ e. omega arith) ∙ upto_rest f d l n p (omega arith)

  pub upto_done : (f : ℕ → A → A) (d : A) (l : List A) (n p : ℕ) → p < n → n ≤ length l → get_or (upto f d l n) p d ≡ f p (get_or l p d)
  unfolding upto
  upto_done f d l zero p h w = absurd (omega arith)
  upto_done f d l (suc n) p h w =
      cases (ltb p n)
      (λ t. get_or-set_other (upto f d l n) n p (f n (get_or l n d)) d (λ e. omega (arith, ltb-true p n t)) ∙ upto_done f d l n p (ltb-true p n t) (omega arith))
      (λ t. let e : p ≡ n = omega (arith, ltb-false p n t) in rw e (get_or-set_same (upto f d l n) n (f n (get_or l n d)) d (rw length-upto (omega arith))))

  -- a turn of the loop that does it
  pub upto_more : (f : ℕ → A → A) (d : A) (l : List A) (k : ℕ) → set (upto f d l k) k (f k (get_or (upto f d l k) k d)) ≡ upto f d l (k + 1)
  unfolding upto
  upto_more f d l k = rw (add-one, upto_rest f d l k k (omega arith))

module _ (l : List ℕ) where
  pub zeroed-none : l ≡ zeroed l 0
  unfolding upto
  zeroed-none = refl

  pub zeroed_more : (m : ℕ) {l' : List ℕ} → l' ≡ zeroed l m → set l' m 0 ≡ zeroed l (m + 1)
  zeroed_more m e = ap (λ (k : List ℕ). set k m 0) e ∙ upto_more (λ p old. 0) 0 l m

  pub zeroed-length : (m : ℕ) {l' : List ℕ} → l' ≡ zeroed l m → length l' ≡ length l
  zeroed-length m e = ap length e ∙ length-upto (λ p old. 0) 0 l m

-- two runs of stores, one after the other, are one
pub sets_append : {A : Type 0} (xs ys l : List A) (a : ℕ) → sets (sets l a xs) (a + length xs) ys ≡ sets l a (xs ++ ys)
sets_append [] ys l a = rw add-zero
sets_append (x ∷ xs) ys l a = ap (λ (n : ℕ). sets (sets (set l a x) (suc a) xs) n ys) (omega arith) ∙ sets_append xs ys (set l a x) (suc a)
