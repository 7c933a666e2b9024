-- For each public function: any two results that its statement allows are one.
use Rattle.std.specs.Prelude.{ℕ, ◌≡◌}
use Rattle.whole.specs.laws.Agree.{agree}
use Rattle.shell.specs.declared.Shape.{Shape}
use Rattle.shell.specs.Shell.{shape_number_of}
use Rattle.building.specs.declared.Verdict.{Verdict}
use Rattle.building.specs.Report.{check_number_of}

pub shape_number_agrees : (s : Shape) (r₁ r₂ : ℕ) → r₁ ≡ shape_number_of s → r₂ ≡ shape_number_of s → r₁ ≡ r₂
shape_number_agrees s r₁ r₂ = agree

pub check_number_agrees : (v : Verdict) (r₁ r₂ : ℕ) → r₁ ≡ check_number_of v → r₂ ≡ check_number_of v → r₁ ≡ r₂
check_number_agrees v r₁ r₂ = agree
