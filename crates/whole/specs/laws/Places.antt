-- What stands at each place of a list that is made from another.
use Prim.Native.Nat.{ℕ, zero, suc, ◌+◌, ◌-◌, ◌<◌}
use native.Mathlib.Omega.{arith}
use Rattle.std.proofs.Math.Decide.{dec_lt}
use Rattle.std.proofs.Math.Numerals.{add-one}
use Rattle.std.specs.Prelude.{◌≡◌, replicate}
use Rattle.std.proofs.Math.Path.{refl, sym, ap}
use Rattle.std.proofs.Common.{◌∙◌, subst}
use mathlib.Core.List.{List, [], ◌∷◌, ◌++◌, map}
use Rattle.std.proofs.Math.ListN.{length, get_or, length-append, get_or-append}
use Rattle.std.proofs.Math.Seq.{get_or_at}
use Rattle.whole.specs.Lists.{tab, numbered_from, numbered, steps_from, steps}

-- ---- one thing n times
pub all_alike : {A : Type 0} (x : A) (n i : ℕ) → get_or (replicate n x) i x ≡ x
all_alike x zero i = refl
all_alike x (suc n) zero = refl
all_alike x (suc n) (suc i) = all_alike x n i

module _ {A : Type 0} where
  -- ---- f of each number below n
  pub tab-length : (f : ℕ → A) (n : ℕ) → length (tab f n) ≡ n
  unfolding tab
  tab-length f zero = refl
  tab-length f (suc n) = length-append (tab f n) (f n ∷ []) ∙ ap (λ (m : ℕ). m + 1) (tab-length f n) ∙ add-one n

  pub tab-at : (f : ℕ → A) (n i : ℕ) (d : A) → i < n → get_or (tab f n) i d ≡ f i
  unfolding tab
  tab-at f zero i d h = absurd (omega arith)
  tab-at f (suc n) i d h = go (dec_lt i n) (λ l. tab-at f n i d l)
    where
      go : Dec (i < n) → (i < n → get_or (tab f n) i d ≡ f i) → get_or (tab f n ++ (f n ∷ [])) i d ≡ f i
      go (yes l) ih = get_or-append (tab f n) (f n ∷ []) d i (subst (λ (m : ℕ). i < m) (sym (tab-length f n)) l) ∙ ih l
      go (no l) ih =
          let e : i ≡ n = omega arith in
          get_or_at (tab f n) (f n) [] d i (tab-length f n ∙ sym e) ∙ ap f (sym e)

  -- ---- each with its number
  pub numbered_from-at : (k : ℕ) (l : List A) (i : ℕ) (d : ℕ × A) (e : A) → i < length l → get_or (numbered_from k l) i d ≡ (k + i, get_or l i e)
  unfolding numbered_from
  numbered_from-at k [] i d e h = absurd (omega arith)
  numbered_from-at k (x ∷ l) zero d e h = ap (λ (n : ℕ). (n, x)) (let z : k ≡ k + 0 = omega arith in z)
  numbered_from-at k (x ∷ l) (suc i) d e h = numbered_from-at (suc k) l i d e (omega arith) ∙ ap (λ (n : ℕ). (n, get_or l i e)) (let z : suc k + i ≡ k + suc i = omega arith in z)

  pub numbered-at : (l : List A) (i : ℕ) (d : ℕ × A) (e : A) → i < length l → get_or (numbered l) i d ≡ (i, get_or l i e)
  unfolding numbered
  numbered-at l i d e h = numbered_from-at 0 l i d e h ∙ ap (λ (n : ℕ). (n, get_or l i e)) (let z : 0 + i ≡ i = omega arith in z)

  numbered_from-length : (k : ℕ) (l : List A) → length (numbered_from k l) ≡ length l
  unfolding numbered_from
  numbered_from-length k [] = refl
  numbered_from-length k (x ∷ l) = ap suc (numbered_from-length (suc k) l)

  pub numbered-length : (l : List A) → length (numbered l) ≡ length l
  unfolding numbered
  numbered-length l = numbered_from-length 0 l

  -- ---- each with the next
  steps_from-length : (a : A) (l : List A) → length (steps_from a l) ≡ length l
  unfolding steps_from
  steps_from-length a [] = refl
  steps_from-length a (b ∷ l) = ap suc (steps_from-length b l)

  pub steps-length : (l : List A) → length (steps l) ≡ length l - 1
  unfolding steps
  steps-length [] = refl
  steps-length (a ∷ l) = steps_from-length a l ∙ (let z : length l ≡ suc (length l) - 1 = omega arith in z)

  steps_from-at : (a : A) (l : List A) (i : ℕ) (d : A × A) (e : A) → i < length l → get_or (steps_from a l) i d ≡ (get_or (a ∷ l) i e, get_or l i e)
  unfolding steps_from
  steps_from-at a [] i d e h = absurd (omega arith)
  steps_from-at a (b ∷ l) zero d e h = refl
  steps_from-at a (b ∷ l) (suc i) d e h = steps_from-at b l i d e (omega arith)

  pub steps-at : (l : List A) (i : ℕ) (d : A × A) (e : A) → i + 1 < length l → get_or (steps l) i d ≡ (get_or l i e, get_or l (i + 1) e)
  unfolding steps
  steps-at [] i d e h = absurd (omega arith)
  steps-at (a ∷ l) i d e h = steps_from-at a l i d e (omega arith) ∙ ap (λ (n : ℕ). (get_or (a ∷ l) i e, get_or (a ∷ l) n e)) (sym (add-one i))

pub map_at : {A B : Type 0} (f : A → B) (l : List A) (i : ℕ) (d : A) (e : B) → i < length l → get_or (map f l) i e ≡ f (get_or l i d)
map_at f [] i d e h = absurd (omega arith)
map_at f (x ∷ l) zero d e h = refl
map_at f (x ∷ l) (suc i) d e h = map_at f l i d e (omega arith)
