-- Where check 03 is met, in plain words.
use Rattle.std.specs.Prelude.{ℕ, ◌+◌, ◌<◌, ◌≡◌, List, length, get_or}

-- entry i, not the closing one, has a number that stood earlier
pub record Stood (ring : List ℕ) (i : ℕ) : Type 0 where
  pub inside : i + 1 < length ring
  pub earlier : ℕ
  pub before : earlier < i
  pub same : get_or ring earlier 0 ≡ get_or ring i 0
