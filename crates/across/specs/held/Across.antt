-- What frame 0C asks of the edge table, and the rows that can refuse it.
use Rattle.std.specs.Prelude.{ℕ, ◌≤◌, ◌<◌, ◌≡◌, true, List, take, Result, ⊤}
use Rattle.frame.specs.Frame.{across}
use Rattle.edges.specs.held.Ascending.{Asc}
use Rattle.service.specs.declared.Refusal.{Refusal}
use Rattle.modes.specs.held.Mode.{holds}
use Rattle.desk.specs.declared.Desk.{Desk}
use Rattle.desk.specs.held.Row.{Row}

-- while a building is held the table begins with its words, in order
pub record Sorted (table : List ℕ) (d : Desk) : Type 0 where
  pub room : holds d.mode ≡ true → d.held.edges ≤ 1024
  pub words : holds d.mode ≡ true → Asc (take d.held.edges table)

-- two points that are held, and differ
pub record Points (d : Desk) (m n : ℕ) : Type 0 where
  pub holding : holds d.mode ≡ true
  pub first : m < d.held.points
  pub second : n < d.held.points
  pub differ : m ≡ n → ⊥

-- frame 0C; accepted, it names such points
abbrev pub AcrossRow : Desk → ℕ → ℕ → Result ⊤ Refusal → Type 0
AcrossRow d m n r = Row d (λ a. Unit {0}) (across m n) (Points d m n) r
