-- A table of rows, each a test with its answer.
use Rattle.std.specs.Prelude.{Bool}
use mathlib.Core.List.{List, [], ◌∷◌}
use Rattle.std.proofs.Math.Option.{Option}
use Rattle.whole.specs.Lists.{given}

module _ {A : Type 0} where
  -- each row is its test's value, and its answer
  unfoldable pub rows : List (Bool × A) → List (Option A)
  rows [] = []
  rows (r ∷ l) = given r.0 r.1 ∷ rows l
