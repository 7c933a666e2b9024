-- For each public function: any two results that its statement allows are one.
use Rattle.std.specs.Prelude.{ℕ, ◌≡◌, Bool, List, get_or}
use Rattle.std.proofs.Math.Decide.{ℕ_discrete}
use Rattle.std.proofs.Math.Logic.{by_cases}
use Rattle.whole.specs.laws.Agree.{agree}
use Rattle.reach.specs.held.Marking.{Joint}

-- `join`: the marks, and what it tells
pub join_agree : (x y : ℕ) (m m₁ m₂ : List ℕ) (r₁ r₂ : Bool) → Joint x y m m₁ r₁ → Joint x y m m₂ r₂ → (m₁ ≡ m₂) × (r₁ ≡ r₂)
join_agree x y m m₁ m₂ r₁ r₂ a b =
    by_cases
    (ℕ_discrete (get_or m x 0) (get_or m y 0))
    (λ e. (agree (a.same e).0 (b.same e).0, agree (a.same e).1 (b.same e).1))
    (λ n. (agree (a.other n).0 (b.other n).0, agree (a.other n).1 (b.other n).1))
