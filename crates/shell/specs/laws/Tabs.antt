-- A list with one place changed.
use Prim.Native.Nat.{ℕ, zero, suc, ◌<◌}
use Rattle.std.proofs.Common.{le_of_suc-le-suc, not-suc-le-zero}
use Rattle.std.specs.Prelude.{◌≡◌, ◌≢◌, length, get_or}
use Rattle.std.proofs.Math.Path.{refl, ap}
use mathlib.Core.List.{List, [], ◌∷◌}
use Rattle.whole.specs.Lists.{at}

module _ {A : Type 0} where
  pub length_at : (p : ℕ) (f : A → A) (l : List A) → length (at p f l) ≡ length l
  unfolding at
  length_at p f [] = refl
  length_at zero f (x ∷ l) = refl
  length_at (suc p) f (x ∷ l) = ap suc (length_at p f l)

  pub get_d_at-same : (p : ℕ) (f : A → A) (l : List A) (d : A) → p < length l → get_or (at p f l) p d ≡ f (get_or l p d)
  unfolding at
  get_d_at-same p f [] d h = absurd (not-suc-le-zero h)
  get_d_at-same zero f (x ∷ l) d h = refl
  get_d_at-same (suc p) f (x ∷ l) d h = get_d_at-same p f l d (le_of_suc-le-suc h)

  pub get_d_at_other : (p q : ℕ) (f : A → A) (l : List A) (d : A) → q ≢ p → get_or (at p f l) q d ≡ get_or l q d
  unfolding at
  get_d_at_other p q f [] d n = refl
  get_d_at_other zero zero f (x ∷ l) d n = absurd (n refl)
  get_d_at_other zero (suc q) f (x ∷ l) d n = refl
  get_d_at_other (suc p) zero f (x ∷ l) d n = refl
  get_d_at_other (suc p) (suc q) f (x ∷ l) d n = get_d_at_other p q f l d (λ e. n (ap suc e))
