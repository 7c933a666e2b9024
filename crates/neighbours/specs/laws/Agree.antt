-- For each public function: any two results that its statement allows are one.
use Rattle.std.specs.Prelude.{ℕ, ◌≡◌, Bool, List, ℤ}
use Rattle.whole.specs.laws.Agree.{agree}
use Rattle.plane.specs.declared.Edge.{Edge}
use Rattle.plane.specs.Plane.{share_more_of}
use Rattle.plane.specs.held.Edges.{as_segment, edge_at}

pub share_more_agrees : (e f : Edge) (r₁ r₂ : Bool) → r₁ ≡ share_more_of (as_segment e) (as_segment f) → r₂ ≡ share_more_of (as_segment e) (as_segment f) → r₁ ≡ r₂
share_more_agrees e f r₁ r₂ = agree

pub edge_at_agrees : (us vs : List ℤ) (i : ℕ) (r₁ r₂ : Edge) → as_segment r₁ ≡ edge_at us vs i → as_segment r₂ ≡ edge_at us vs i → r₁ ≡ r₂
edge_at_agrees us vs i r₁ r₂ h k = λ j. record { a = record { u = (agree h k j).0.u; v = (agree h k j).0.v }; b = record { u = (agree h k j).1.u; v = (agree h k j).1.v } }
