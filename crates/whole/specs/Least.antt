-- The least number with a property, and the least one below a bound.
use Rattle.std.specs.Prelude.{ℕ, ◌≤◌, ◌<◌}

-- the least number with a property
pub record Least (P : ℕ → Type 0) (k : ℕ) : Type 0 where
  pub holds : P k
  pub first : (j : ℕ) → P j → k ≤ j

-- r is the least number with a property, or n where no number has it
pub record LeastBelow (P : ℕ → Type 0) (n r : ℕ) : Type 0 where
  pub within : r ≤ n
  pub found : r < n → Least P r
  pub missing : n ≤ r → (k : ℕ) → P k → ⊥
