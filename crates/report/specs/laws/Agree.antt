-- For each public function: any two results that its statement allows are one.
use Rattle.std.specs.Prelude.{◌≡◌}
use Rattle.whole.specs.laws.Agree.{agree}
use Rattle.building.specs.declared.Verdict.{Verdict}
use Rattle.building.specs.Tables.{Tables}
use Rattle.building.specs.Report.{verdict}

pub verdict_of_agrees : (t : Tables) (r₁ r₂ : Verdict) → r₁ ≡ verdict t → r₂ ≡ verdict t → r₁ ≡ r₂
verdict_of_agrees t r₁ r₂ = agree
