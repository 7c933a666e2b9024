-- For each public function: any two results that its statement allows are one.
use Rattle.std.specs.Prelude.{ℕ, ◌≡◌, List, length}
use Rattle.whole.specs.laws.Agree.{agree}
use Rattle.lines.specs.Lines.{lines}
use Rattle.lines.specs.held.Offsets.{line_end_of}

pub line_end_agrees : (stream : List ℕ) (from r₁ r₂ : ℕ) → r₁ ≡ line_end_of stream from → r₂ ≡ line_end_of stream from → r₁ ≡ r₂
line_end_agrees stream from r₁ r₂ = agree

pub count_lines_agrees : (stream : List ℕ) (r₁ r₂ : ℕ) → r₁ ≡ length (lines stream) → r₂ ≡ length (lines stream) → r₁ ≡ r₂
count_lines_agrees stream r₁ r₂ = agree
