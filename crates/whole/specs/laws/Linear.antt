-- A claim on ℤ, quoted, is the same claim on the parts of its numbers, which omega proves:
-- `lin 2 (λ a b. a ≺ b ⇒ a ⊕ k (pos 1) ≼ b) (λ a b. omega arith) : (a b : ℤ) → a <ℤ b → (a +ℤ pos 1) ≤ℤ b`.
use Rattle.std.specs.Prelude.{◌≡◌, List, [], ℕ, zero, suc, ◌+◌, ◌≤◌, ◌<◌, ℤ, ◌≤ℤ◌, ◌<ℤ◌}
use Rattle.whole.specs.laws.Solve.{E, v, eval, snoc}
use Rattle.whole.specs.held.Small.{Small}
use Rattle.whole.specs.laws.Order.{up, down, le_by, le_of, lt_by, lt_of, eq_by, eq_of, small_by, small_of}

infix 5 ◌≼◌ ◌≺◌ ◌≈◌
infixr 3 ◌⇒◌
infixr 4 ◌&◌
pub data Claim : Type 0 where
  ◌≼◌ ◌≺◌ ◌≈◌ : E → E → Claim
  fits : ℕ → E → Claim
  never : Claim
  ◌⇒◌ ◌&◌ : Claim → Claim → Claim

-- on ℤ
abbrev pub Means : List ℤ → Claim → Type 0
Means ρ (a ≼ b) = eval ρ a ≤ℤ eval ρ b
Means ρ (a ≺ b) = eval ρ a <ℤ eval ρ b
Means ρ (a ≈ b) = eval ρ a ≡ eval ρ b
Means ρ (fits n e) = Small n (eval ρ e)
Means ρ never = ⊥
Means ρ (p ⇒ q) = Means ρ p → Means ρ q
Means ρ (p & q) = Means ρ p × Means ρ q

-- on the parts
abbrev pub Parts : List ℤ → Claim → Type 0
Parts ρ (a ≼ b) = up ρ a + down ρ b ≤ up ρ b + down ρ a
Parts ρ (a ≺ b) = up ρ a + down ρ b < up ρ b + down ρ a
Parts ρ (a ≈ b) = up ρ a + down ρ b ≡ up ρ b + down ρ a
Parts ρ (fits n e) = (up ρ e ≤ down ρ e + n) × (down ρ e ≤ up ρ e + n)
Parts ρ never = ⊥
Parts ρ (p ⇒ q) = Parts ρ p → Parts ρ q
Parts ρ (p & q) = Parts ρ p × Parts ρ q

mutual
  pub to : (c : Claim) (ρ : List ℤ) → Parts ρ c → Means ρ c
  to (a ≼ b) ρ h = le_by ρ a b h
  to (a ≺ b) ρ h = lt_by ρ a b h
  to (a ≈ b) ρ h = eq_by ρ a b h
  to (fits n e) ρ h = small_by ρ e h.0 h.1
  to never ρ h = h
  to (p ⇒ q) ρ h = λ m. to q ρ (h (of p ρ m))
  to (p & q) ρ h = (to p ρ h.0, to q ρ h.1)

  pub of : (c : Claim) (ρ : List ℤ) → Means ρ c → Parts ρ c
  of (a ≼ b) ρ h = le_of ρ a b h
  of (a ≺ b) ρ h = lt_of ρ a b h
  of (a ≈ b) ρ h = eq_of ρ a b h
  of (fits n e) ρ h = small_of ρ e h
  of never ρ h = h
  of (p ⇒ q) ρ h = λ m. of q ρ (h (to p ρ m))
  of (p & q) ρ h = (of p ρ h.0, of q ρ h.1)

-- ---- the call
abbrev pub Quoted : ℕ → Type 0
Quoted zero = Claim
Quoted (suc n) = E → Quoted n

abbrev pub open_at : (n : ℕ) → ℕ → Quoted n → Claim
open_at zero i q = q
open_at (suc n) i q = open_at n (suc i) (q (v i))

-- at every n numbers, on ℤ and on the parts
abbrev pub All : (List ℤ → Type 0) → ℕ → List ℤ → Type 0
All X zero ρ = X ρ
All X (suc n) ρ = (z : ℤ) → All X n (snoc ρ z)

all : (X Y : List ℤ → Type 0) → ((ρ : List ℤ) → X ρ → Y ρ) → (n : ℕ) (ρ : List ℤ) → All X n ρ → All Y n ρ
all X Y f zero ρ h = f ρ h
all X Y f (suc n) ρ h = λ z. all X Y f n (snoc ρ z) (h z)

pub lin : (n : ℕ) (q : Quoted n) → All (λ ρ. Parts ρ (open_at n 0 q)) n [] → All (λ ρ. Means ρ (open_at n 0 q)) n []
lin n q h = all (λ ρ. Parts ρ (open_at n 0 q)) (λ ρ. Means ρ (open_at n 0 q)) (to (open_at n 0 q)) n [] h
