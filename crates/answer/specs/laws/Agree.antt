-- For each public function: any two results that its statement allows are one.
use Rattle.std.specs.Prelude.{ℕ, ◌≡◌, List, ℤ}
use Rattle.whole.specs.laws.Agree.{agree}
use Rattle.lines.specs.Lines.{ended}
use Rattle.answer.specs.Answer.{plain, reported, told, across}
use Rattle.answer.specs.held.Wrote.{Wrote}

-- two writes of the same bytes: the whole room and the next place
pub wrote_agree : {l room room₁ room₂ : List ℕ} {at r₁ r₂ : ℕ} → Wrote l room at room₁ r₁ → Wrote l room at room₂ r₂ → (room₁ ≡ room₂) × (r₁ ≡ r₂)
wrote_agree p q = (agree p.bytes q.bytes, agree p.past q.past)

module _ (room room₁ room₂ : List ℕ) (at r₁ r₂ : ℕ) where
  pub put_plain_agrees : (n : ℕ) → Wrote (ended (plain n)) room at room₁ r₁ → Wrote (ended (plain n)) room at room₂ r₂ → (room₁ ≡ room₂) × (r₁ ≡ r₂)
  put_plain_agrees n = wrote_agree

  pub put_report_agrees : (check a b faulty : ℕ) (volume : ℤ) → Wrote (ended (reported check a b faulty volume)) room at room₁ r₁
      → Wrote (ended (reported check a b faulty volume)) room at room₂ r₂ → (room₁ ≡ room₂) × (r₁ ≡ r₂)
  put_report_agrees check a b faulty volume = wrote_agree

  pub put_told_agrees : (finding position stamp : ℕ) (part : ℤ) → Wrote (ended (told finding position stamp part)) room at room₁ r₁
      → Wrote (ended (told finding position stamp part)) room at room₂ r₂ → (room₁ ≡ room₂) × (r₁ ≡ r₂)
  put_told_agrees finding position stamp part = wrote_agree

  pub put_across_agrees : (users lowest second : ℕ) → Wrote (ended (across users lowest second)) room at room₁ r₁
      → Wrote (ended (across users lowest second)) room at room₂ r₂ → (room₁ ≡ room₂) × (r₁ ≡ r₂)
  put_across_agrees users lowest second = wrote_agree
