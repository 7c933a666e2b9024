-- What is told of a held building from its kept values is its report.
use Rattle.std.specs.Prelude.{ℕ, ◌≡◌, List, ℤ}
use Rattle.std.proofs.Common.{ap, ◌∙◌, subst}
use Rattle.lines.specs.Lines.{ended}
use Rattle.answer.specs.Answer.{reported}
use Rattle.answer.specs.held.Wrote.{Wrote}
use Rattle.building.specs.declared.Verdict.{Verdict}
use Rattle.building.specs.Tables.{Tables}
use Rattle.building.specs.Report.{verdict, report, six_volume_of, check_number_of, element_a_of, element_b_of}
use Rattle.service.specs.Service.{report_of}

-- the report's fields, from the kept values
pub wrote_report : (t : Tables) (v : Verdict) (k x y f : ℕ) (z : ℤ) → v ≡ verdict t → k ≡ check_number_of v → x ≡ element_a_of v → y ≡ element_b_of v → f ≡ (report t).faults → z ≡ six_volume_of t
    → (room room' : List ℕ) (at r : ℕ) → Wrote (ended (reported k x y f z)) room at room' r → Wrote (ended (report_of t)) room at room' r
unfolding report_of report
wrote_report t v k x y f z ev ek ex ey ef ez room room' at r w =
    subst (λ (l : List ℕ). Wrote (ended l) room at room' r)
    (λ i. reported ((ek ∙ ap check_number_of ev) i) ((ex ∙ ap element_a_of ev) i) ((ey ∙ ap element_b_of ev) i) (ef i) (ez i)) w
