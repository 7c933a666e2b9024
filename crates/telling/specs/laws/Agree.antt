-- For each public function: any two results that its statement allows are one.
use Rattle.std.specs.Prelude.{ℕ, ◌≡◌, List}
use Rattle.whole.specs.laws.Agree.{agree}
use Rattle.lines.specs.Lines.{ended}
use Rattle.answer.specs.held.Wrote.{Wrote}
use Rattle.building.specs.Tables.{Tables}
use Rattle.service.specs.Service.{report_of}

pub put_report_agrees : (t : Tables) (room room₁ room₂ : List ℕ) (from r₁ r₂ : ℕ) → Wrote (ended (report_of t)) room from room₁ r₁ → Wrote (ended (report_of t)) room from room₂ r₂ → (room₁ ≡ room₂) × (r₁ ≡ r₂)
put_report_agrees t room room₁ room₂ from r₁ r₂ p q = (agree p.bytes q.bytes, agree p.past q.past)
