-- The rows that can refuse frame 06 (a turn).
use Rattle.std.specs.Prelude.{ℕ, Result, ⊤}
use Rattle.frame.specs.Frame.{turn}
use Rattle.service.specs.declared.Refusal.{Refusal}
use Rattle.desk.specs.declared.Desk.{Desk}
use Rattle.desk.specs.held.Row.{Row}

-- a polygon turned
abbrev pub TurnRow : Desk → ℕ → ℕ → Result ⊤ Refusal → Type 0
TurnRow d number p r = Row d (λ a. Unit {0}) (turn number p) (Unit {0}) r
