-- The places of a ring as code holds them for check 05: two columns of numbers.
use Rattle.std.specs.Prelude.{ℕ, ◌<◌, ◌≤◌, List, get_or, length, ℤ, pos}
use Rattle.whole.specs.held.Small.{Small}

-- the places of m edges are there, and their numbers are coordinates
pub record Spread (us vs : List ℤ) (m : ℕ) : Type 0 where
  pub room_u : m < length us
  pub room_v : m < length vs
  pub close_u : (i : ℕ) → i ≤ m → Small 100000 (get_or us i (pos 0))
  pub close_v : (i : ℕ) → i ≤ m → Small 100000 (get_or vs i (pos 0))
