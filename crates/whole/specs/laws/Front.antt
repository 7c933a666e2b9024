-- A list without its last, and its last: what stands at each index.
use Prim.Native.Nat.{ℕ, suc, ◌+◌, ◌-◌, ◌<◌}
use native.Mathlib.Omega.{arith}
use Rattle.std.specs.Prelude.{◌≡◌, length, get_or}
use Rattle.std.proofs.Math.Path.{refl, ap}
use Rattle.std.proofs.Common.{◌∙◌, length-take, get_or-take}
use mathlib.Core.List.{List, [], ◌∷◌}
use Rattle.std.proofs.Math.ListN.{take}
use Rattle.whole.specs.Lists.{front, last_of}

module _ {A : Type 0} where
  pub last-at : (d a : A) (l : List A) → last_of a l ≡ get_or (a ∷ l) (length l) d
  unfolding last_of
  last-at d a [] = refl
  last-at d a (b ∷ l) = last-at d b l

  pub front_is : (l : List A) → front l ≡ take (length l - 1) l
  unfolding front
  front_is [] = refl
  front_is (a ∷ []) = refl
  front_is (a ∷ b ∷ l) =
      let e : suc (suc (length l) - 1) ≡ suc (suc (length l)) - 1 = omega arith in
      ap (λ (m : List A). a ∷ m) (front_is (b ∷ l)) ∙ ap (λ (n : ℕ). take n (a ∷ b ∷ l)) e

  pub front_length : (l : List A) → length (front l) ≡ length l - 1
  front_length l = ap length (front_is l) ∙ length-take (length l - 1) l ∙ omega arith

  pub front_at : (l : List A) (i : ℕ) (d : A) → i + 1 < length l → get_or (front l) i d ≡ get_or l i d
  front_at l i d h = ap (λ (m : List A). get_or m i d) (front_is l) ∙ get_or-take (length l - 1) l i d (omega arith)
