-- For each public function: any two results that its statement allows are one. Of what is held, that is what the arrays and the scalars stand
-- for; words of the arrays past the counts may differ.
use Rattle.std.specs.Prelude.{ℕ, ◌≡◌, Bool, List}
use Rattle.std.proofs.Math.Option.{Option}
use Rattle.whole.specs.laws.Agree.{agree}
use Rattle.building.specs.declared.Arrays.{Arrays}
use Rattle.service.specs.declared.Refusal.{Refusal}
use Rattle.service.specs.Service.{Outcome, refused, is_accepted_of}
use Rattle.desk.specs.declared.Desk.{Desk}
use Rattle.desk.specs.held.Holds.{service, Did}

-- the whole room, the place of the next answer, and what is held
abbrev pub Same : List ℕ → List ℕ → Arrays → Arrays → Desk → Desk → Type 0
Same room₁ room₂ a₁ a₂ d₁ d₂ = (room₁ ≡ room₂) × (d₁.at ≡ d₂.at) × (service a₁ d₁ ≡ service a₂ d₂)

-- two results of one outcome: the whole room, the place of the next answer, and what is held
pub did_agree : {o : Outcome} {room room₁ room₂ : List ℕ} {at : ℕ} {a₁ a₂ : Arrays} {d₁ d₂ : Desk} → Did o room at a₁ room₁ d₁ → Did o room at a₂ room₂ d₂
    → (room₁ ≡ room₂) × (d₁.at ≡ d₂.at) × (service a₁ d₁ ≡ service a₂ d₂)
did_agree p q = (agree p.wrote q.wrote, agree p.past q.past, agree p.next q.next)

pub is_accepted_agrees : (r : Option Refusal) (b₁ b₂ : Bool) → b₁ ≡ is_accepted_of r → b₂ ≡ is_accepted_of r → b₁ ≡ b₂
is_accepted_agrees r b₁ b₂ = agree

pub refuse_agrees : (r : Refusal) (a : Arrays) (d : Desk) (room room₁ room₂ : List ℕ) (d₁ d₂ : Desk) → Did (refused r (service a d)) room d.at a room₁ d₁
    → Did (refused r (service a d)) room d.at a room₂ d₂ → (room₁ ≡ room₂) × (d₁.at ≡ d₂.at) × (service a d₁ ≡ service a d₂)
refuse_agrees r a d room room₁ room₂ d₁ d₂ = did_agree
