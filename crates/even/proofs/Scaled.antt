-- The components of a normal by size times the tolerance.
use Prim.Native.Nat.{ℕ, ◌*◌, ◌≤◌, max}
use native.Mathlib.Nat.{mul-le-mul, le_trans, le_of_eq}
use native.Mathlib.Omega.{arith}
use mathlib.Core.Path.{◌≡◌, ap₂, ◌∙◌}
use lib.IntN.{ℤ, nat_abs}
use mir.Syntax.{w64}
use mir.Val.{of_z, to_z}
use Rattle.whole.specs.held.Small.{Small}
use Rattle.space.specs.Space.{Point}
use Rattle.space.specs.held.Points.{Near}
use Rattle.even.specs.held.Offs.{largest}
use Rattle.space.specs.laws.Numbers.{size_is}

-- that, times the tolerance
pub scaled_small : {t r : ℕ} {z : ℤ} → t ≤ 1000 → Small 10160000000000 z → r ≡ nat_abs (to_z w64 (of_z w64 z)) → t * r ≤ 10160000000000000
scaled_small few h e = mul-le-mul few (le_trans (le_of_eq (size_is h e)) h.small)

module _ {n : Point} {a b c m l : ℕ} (h : Near 10160000000000 n)
    (p : a ≡ nat_abs (to_z w64 (of_z w64 n.x))) (q : b ≡ nat_abs (to_z w64 (of_z w64 n.y))) (r : c ≡ nat_abs (to_z w64 (of_z w64 n.z)))
    (inner : m ≡ max b c) (outer : l ≡ max a m) where
  -- the larger of the first and of the larger of the others
  pub largest_is : l ≡ largest n
  unfolding largest
  largest_is = outer ∙ ap₂ max (size_is h.x p) (inner ∙ ap₂ max (size_is h.y q) (size_is h.z r))

  pub largest_small : {t : ℕ} → t ≤ 1000 → t * l ≤ 10160000000000000
  unfolding largest
  largest_small few = mul-le-mul few (le_trans (le_of_eq largest_is) (bound (nat_abs n.x) (nat_abs n.y) (nat_abs n.z) h.x.small h.y.small h.z.small))
    where
      bound : (a b c : ℕ) → a ≤ 10160000000000 → b ≤ 10160000000000 → c ≤ 10160000000000 → max a (max b c) ≤ 10160000000000
      bound a b c h l g = omega arith
