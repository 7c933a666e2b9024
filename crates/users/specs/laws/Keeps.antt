-- What a test keeps of a list.
use Rattle.std.specs.Prelude.{ℕ, suc, ◌<◌, ◌≡◌, Bool, ◌&&◌, length, get_or}
use Rattle.std.proofs.Common.{arith, ap}
use Rattle.std.proofs.Math.Path.{refl}
use Rattle.std.proofs.Math.Bool.{true, false}
use mathlib.Core.List.{List, [], ◌∷◌, ◌++◌}
use Rattle.whole.specs.Lists.{keep, tally}

module _ (t : ℕ → Bool) where
  pub keep_append : (l m : List ℕ) → keep t (l ++ m) ≡ keep t l ++ keep t m
  unfolding keep
  keep_append [] m = refl
  keep_append (x ∷ l) m = go (t x) refl (keep_append l m)
    where
      go : (b : Bool) → t x ≡ b → keep t (l ++ m) ≡ keep t l ++ keep t m → keep t (x ∷ (l ++ m)) ≡ keep t (x ∷ l) ++ keep t m
      go true e ih = rw (e, keep) (ap (λ (k : List ℕ). x ∷ k) ih)
      go false e ih = rw (e, keep) ih

  pub keep-none : (l : List ℕ) → ((i : ℕ) → i < length l → t (get_or l i 0) ≡ false) → keep t l ≡ []
  unfolding keep
  keep-none [] h = refl
  keep-none (x ∷ l) h =
      let e : t x ≡ false = h 0 (omega arith) in
      let ih : keep t l ≡ [] = keep-none l (λ i g. h (suc i) (omega arith)) in
      rw (e, keep) ih

  pub keep_all : (l : List ℕ) → ((i : ℕ) → i < length l → t (get_or l i 0) ≡ true) → keep t l ≡ l
  unfolding keep
  keep_all [] h = refl
  keep_all (x ∷ l) h =
      let e : t x ≡ true = h 0 (omega arith) in
      let ih : keep t l ≡ l = keep_all l (λ i g. h (suc i) (omega arith)) in
      rw (e, keep) (ap (λ (k : List ℕ). x ∷ k) ih)

-- those kept by a test that pass another are those that pass both
unfoldable pub both : (ℕ → Bool) → (ℕ → Bool) → ℕ → Bool
both k t x = k x && t x

pub tally-keep : (k t : ℕ → Bool) (l : List ℕ) → tally t (keep k l) ≡ tally (both k t) l
unfolding keep tally both
tally-keep k t [] = refl
tally-keep k t (x ∷ l) = go (k x) refl (t x) refl (tally-keep k t l)
  where
    go : (b : Bool) → k x ≡ b → (c : Bool) → t x ≡ c → tally t (keep k l) ≡ tally (both k t) l → tally t (keep k (x ∷ l)) ≡ tally (both k t) (x ∷ l)
    go true e true f ih = rw (e, f, keep, tally, both) (ap suc ih)
    go true e false f ih = rw (e, f, keep, tally, both) ih
    go false e c f ih = rw (e, keep, tally, both) ih
