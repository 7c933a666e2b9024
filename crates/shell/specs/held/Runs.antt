-- Runs of an edge's words, and the least edge with a number of uses.
use Rattle.std.specs.Prelude.{ℕ, ◌≤◌, ◌<◌, ◌≡◌, List, length, get_or}
use Rattle.edges.specs.Edges.{count}
use Rattle.whole.specs.Least.{Least}

-- the run that begins at i ends before r
pub record RunEnd (l : List ℕ) (i r : ℕ) : Type 0 where
  pub above : i < r
  pub within : r ≤ length l
  pub same : (k : ℕ) → i ≤ k → k < r → get_or l k 0 ≡ get_or l i 0
  pub stop : r < length l → get_or l r 0 ≡ get_or l i 0 → ⊥

-- k stands in l at least and at most so often
pub record Between (least most : ℕ) (l : List ℕ) (k : ℕ) : Type 0 where
  pub enough : least ≤ count k l
  pub few : count k l ≤ most

-- each number of l stands there twice
abbrev pub Twice : List ℕ → Type 0
Twice l = (k : ℕ) → 1 ≤ count k l → count k l ≡ 2

-- r is where the least number with a property stands in l, or l's length where no number has it
pub record LeastAt (P : ℕ → Type 0) (l : List ℕ) (r : ℕ) : Type 0 where
  pub within : r ≤ length l
  pub found : r < length l → Least P (get_or l r 0)
  pub missing : length l ≤ r → (k : ℕ) → P k → ⊥
