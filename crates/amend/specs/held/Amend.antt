-- The rows that can refuse frame 05 (a move).
use Rattle.std.specs.Prelude.{ℕ, ◌≡◌, List, ℤ, Result, ⊤}
use Rattle.frame.specs.Frame.{move}
use Rattle.service.specs.declared.Refusal.{Refusal}
use Rattle.desk.specs.declared.Desk.{Desk}
use Rattle.desk.specs.held.Row.{Row}

-- a point moved
abbrev pub MoveRow : List ℤ → Desk → ℕ → ℕ → ℤ → ℤ → ℤ → Result ⊤ Refusal → Type 0
MoveRow points d number p x y z r = Row d (λ a. a.points.flat ≡ points) (move number p x y z) (Unit {0}) r
