-- Three rows of three coordinates, as code holds them.
use Rattle.std.specs.Prelude.{ℕ, List, [], get_or, ℤ, pos}
use Rattle.space.specs.Space.{Point}
use Rattle.space.specs.held.Points.{Near, at}

-- row i of three
abbrev pub row_of : List (List ℤ) → ℕ → Point
row_of m i = at (get_or (get_or m i []) 0 (pos 0)) (get_or (get_or m i []) 1 (pos 0)) (get_or (get_or m i []) 2 (pos 0))

-- three rows of coordinates
pub record Rows (m : List (List ℤ)) : Type 0 where
  pub each : (i : ℕ) → Near 100000 (row_of m i)
