-- The lowest finding, and parts whose sums the machine can hold.
use Rattle.std.specs.Prelude.{ℕ, suc, ◌≤◌, ◌≡◌, true, false, List, [], ◌∷◌, ltb, length, take, ℤ}
use Rattle.whole.specs.held.Small.{Small}
use Rattle.whole.specs.Lists.{sum_of}

-- the place of the first number that is not 0; the length if there is none
unfoldable pub lowest : List ℕ → ℕ
lowest [] = 0
lowest (x ∷ l) = elim (ltb 0 x) [ true ↦ 0 | false ↦ suc (lowest l) ]

-- the sum of the first i
abbrev pub sum_up_to : List ℤ → ℕ → ℤ
sum_up_to l i = sum_of (λ z. z) (take i l)

-- every sum of the first few, up to n, is at most 1,024 times the largest determinant
pub record Summable (parts : List ℤ) (n : ℕ) : Type 0 where
  pub size : length parts ≡ 256
  pub few : n ≤ 256
  pub small : (i : ℕ) → i ≤ n → Small 6144000000000000000 (sum_up_to parts i)
