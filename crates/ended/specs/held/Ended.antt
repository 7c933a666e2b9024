-- The row that can refuse frame 04 (end of load).
use Rattle.std.specs.Prelude.{Result, ⊤}
use Rattle.frame.specs.Frame.{end_of_load}
use Rattle.service.specs.declared.Refusal.{Refusal}
use Rattle.desk.specs.declared.Desk.{Desk}
use Rattle.desk.specs.held.Row.{Row}

-- end of load
abbrev pub EndRow : Desk → Result ⊤ Refusal → Type 0
EndRow d r = Row d (λ a. Unit {0}) end_of_load (Unit {0}) r
