-- For each public function: any two results that its statement allows are one.
use Rattle.std.specs.Prelude.{ℕ, ◌+◌, ◌≡◌, List, set}
use Rattle.whole.specs.laws.Agree.{agree}
use Rattle.shell.specs.declared.Shape.{Shape}
use Rattle.building.specs.held.Holds.{Shown}
use Rattle.polygon.specs.declared.Finding.{Finding}
use Rattle.polygon.specs.Ring.{finding_number_of, finding_position_of}

pub close_ring_agrees : (starts : List ℕ) (n end : ℕ) (s₁ s₂ : List ℕ) → s₁ ≡ set starts (n + 1) end → s₂ ≡ set starts (n + 1) end → s₁ ≡ s₂
close_ring_agrees starts n end s₁ s₂ = agree

pub close_polygon_agrees : (firsts : List ℕ) (n end : ℕ) (s₁ s₂ : List ℕ) → s₁ ≡ set firsts (n + 1) end → s₂ ≡ set firsts (n + 1) end → s₁ ≡ s₂
close_polygon_agrees firsts n end s₁ s₂ = agree

-- of the starts of the rings and of the polygons' first rings alike
pub close_agrees : (starts : List ℕ) (n end : ℕ) (s₁ s₂ : List ℕ) → s₁ ≡ set starts (n + 1) end → s₂ ≡ set starts (n + 1) end → s₁ ≡ s₂
close_agrees starts n end s₁ s₂ = agree

pub finding_number_agrees : (f : Finding) (r₁ r₂ : ℕ) → r₁ ≡ finding_number_of f → r₂ ≡ finding_number_of f → r₁ ≡ r₂
finding_number_agrees f r₁ r₂ = agree

pub finding_position_agrees : (f : Finding) (r₁ r₂ : ℕ) → r₁ ≡ finding_position_of f → r₂ ≡ finding_position_of f → r₁ ≡ r₂
finding_position_agrees f r₁ r₂ = agree

-- the shape that is kept is one
pub shown_agrees : {t t' : List ℕ} {k k' : ℕ} {u u' : List ℕ} {f f' r r' : Shape} → t ≡ t' → k ≡ k' → u ≡ u' → f ≡ f' → Shown t k u f r → Shown t' k' u' f' r' → r ≡ r'
shown_agrees {t' = t'} {k' = k'} {u' = u'} {f' = f'} {r = r} e₁ e₂ e₃ e₄ x y = let z : Shown t' k' u' f' r = rw (e₁, e₂, e₃, e₄) at x in agree z y
