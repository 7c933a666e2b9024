-- Lists of numbers that follow one another, and of what is made of them.
use Prim.Native.Nat.{ℕ, zero, suc, ◌+◌, ◌≤◌, ◌<◌}
use Rattle.std.proofs.Common.{le_refl, ◌∙◌}
use native.Mathlib.Omega.{arith}
use Rattle.std.specs.Prelude.{◌≡◌, length, get_or}
use Rattle.std.proofs.Math.Path.{refl, ap, ap₂}
use mathlib.Core.List.{List, ◌∷◌, ◌++◌, map}
use Rattle.whole.specs.held.Spans.{span}

module _ {A : Type 0} where
  pub length-span : (f : ℕ → A) (i n : ℕ) → length (span f i n) ≡ n
  unfolding span
  length-span f i zero = refl
  length-span f i (suc n) = ap suc (length-span f (i + 1) n)

  pub span_same : (f g : ℕ → A) (i n : ℕ) → ((k : ℕ) → i ≤ k → k < i + n → f k ≡ g k) → span f i n ≡ span g i n
  unfolding span
  span_same f g i zero h = refl
  span_same f g i (suc n) h = ap₂ (λ (x : A) (l : List A). x ∷ l) (h i (le_refl i) (omega arith)) (span_same f g (i + 1) n (λ k a b. h k (omega arith) (omega arith)))

  -- what stands at a place
  pub span-at : (f : ℕ → A) (i n k : ℕ) (d : A) → k < n → get_or (span f i n) k d ≡ f (i + k)
  unfolding span
  span-at f i zero k d h = absurd (none h)
    where
      none : k < 0 → ⊥
      none h = omega arith
  span-at f i (suc n) zero d h = let a : i ≡ i + 0 = omega arith in ap f a
  span-at f i (suc n) (suc k) d h = let a : i + 1 + k ≡ i + suc k = omega arith in span-at f (i + 1) n k d (omega arith) ∙ ap f a

  -- one after the other
  pub span_append : (f : ℕ → A) (i m n : ℕ) → span f i (m + n) ≡ span f i m ++ span f (i + m) n
  unfolding span
  span_append f i zero n =
      let a : i ≡ i + 0 = omega arith in
      let b : 0 + n ≡ n = omega arith in
      ap (span f i) b ∙ ap (λ (k : ℕ). span f k n) a
  span_append f i (suc m) n =
      let a : suc m + n ≡ suc (m + n) = omega arith in
      let b : i + 1 + m ≡ i + suc m = omega arith in
      ap (span f i) a ∙ ap (λ (l : List A). f i ∷ l) (span_append f (i + 1) m n ∙ ap (λ (k : ℕ). span f (i + 1) m ++ span f k n) b)

module _ {A B : Type 0} where
  pub map-span : (g : A → B) (f : ℕ → A) (i n : ℕ) → map g (span f i n) ≡ span (λ k. g (f k)) i n
  unfolding span
  map-span g f i zero = refl
  map-span g f i (suc n) = ap (λ (l : List B). g (f i) ∷ l) (map-span g f (i + 1) n)
