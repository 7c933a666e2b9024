-- For each public function: any two results that its statement allows are one.
use Rattle.std.specs.Prelude.{ℕ, ◌≡◌, List}
use Rattle.whole.specs.laws.Agree.{agree}
use Rattle.replies.specs.held.Answered.{Answered}

pub all_agrees : (stream room room₁ room₂ : List ℕ) (r₁ r₂ : ℕ) → Answered stream room room₁ r₁ → Answered stream room room₂ r₂ → (room₁ ≡ room₂) × (r₁ ≡ r₂)
all_agrees stream room room₁ room₂ r₁ r₂ p q = (agree p.bytes q.bytes, agree p.count q.count)
