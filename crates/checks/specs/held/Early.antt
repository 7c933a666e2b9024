-- The lowest polygon that fails one of checks 01 to 03, or n where there is none.
use Rattle.std.specs.Prelude.{ℕ, ◌%◌, ◌≤◌, ◌<◌, ◌≡◌, Bool, true, false, ◌&&◌, List, leb, get_or}

-- whether a finding as it is kept is one of checks 01 to 03
abbrev pub is_early_of : ℕ → Bool
is_early_of k = leb 1 (k % 16) && leb (k % 16) 3

-- none of the first i does
pub record NoneEarly (l : List ℕ) (n i : ℕ) : Type 0 where
  pub passed : i ≤ n
  pub before : (p : ℕ) → p < i → is_early_of (get_or l p 0) ≡ false

-- and r does, if it is below n
pub record EarlyAt (l : List ℕ) (n r : ℕ) : Type 0 where
  pub none : NoneEarly l n r
  pub here : r < n → is_early_of (get_or l r 0) ≡ true
