-- What frame 07 (a question) asks of the arrays, and the rows that can refuse it.
use Rattle.std.specs.Prelude.{ℕ, ◌<◌, Result, ⊤}
use Rattle.frame.specs.Frame.{question}
use Rattle.service.specs.declared.Refusal.{Refusal}
use Rattle.desk.specs.declared.Desk.{Desk}
use Rattle.desk.specs.held.Row.{Row}

-- a question; accepted, its polygon is one of those held
abbrev pub QuestionRow : Desk → ℕ → Result ⊤ Refusal → Type 0
QuestionRow d p r = Row d (λ a. Unit {0}) (question p) (p < d.held.polygons) r
