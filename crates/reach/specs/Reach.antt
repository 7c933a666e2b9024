-- What can be reached, said and computed.
use Rattle.std.specs.Prelude.{ℕ, Bool, true, false, not, List, [], ◌∷◌, eqb}
use Rattle.whole.specs.Lists.{any, keep, lists}

-- what can be reached from a start along steps
pub data Reach (S : ℕ → Type 0) (R : ℕ → ℕ → Type 0) : ℕ → Type 0 where
  start : {p : ℕ} → S p → Reach S R p
  step : {p q : ℕ} → Reach S R p → R p q → Reach S R q

-- one more round: what is seen, or one step from it, among the nodes
unfoldable pub grow : (ℕ → ℕ → Bool) → List ℕ → List ℕ → List ℕ
grow r nodes seen = keep (λ q. any (λ p. elim (eqb p q) [ true ↦ true | false ↦ r p q ]) seen) nodes

-- as many rounds as there are numbers in a list
unfoldable pub rounds : (ℕ → ℕ → Bool) → List ℕ → List ℕ → List ℕ → List ℕ
rounds r nodes [] seen = seen
rounds r nodes (n ∷ l) seen = rounds r nodes l (grow r nodes seen)

-- the nodes not reached from one of them: as many rounds as nodes are enough
unfoldable pub unreached : (ℕ → ℕ → Bool) → List ℕ → ℕ → List ℕ
unreached r nodes from = let seen = rounds r nodes nodes (from ∷ []) in keep (λ q. not (lists q seen)) nodes

unfoldable pub reach_computes : Unit {0}
unfolding grow rounds unreached
reach_computes = tt
