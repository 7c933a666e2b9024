-- For each public function: any two results that its statement allows are one.
use Rattle.std.specs.Prelude.{◌≡◌, Bool, ℤ}
use Rattle.whole.specs.laws.Agree.{agree}
use Rattle.plane.specs.declared.Edge.{Edge}
use Rattle.plane.specs.Plane.{Spot, side, share}
use Rattle.plane.specs.held.Edges.{as_segment}

pub side_agrees : (a b c : Spot) (r₁ r₂ : ℤ) → r₁ ≡ side a b c → r₂ ≡ side a b c → r₁ ≡ r₂
side_agrees a b c r₁ r₂ = agree

pub share_agrees : (e f : Edge) (r₁ r₂ : Bool) → r₁ ≡ share (as_segment e) (as_segment f) → r₂ ≡ share (as_segment e) (as_segment f) → r₁ ≡ r₂
share_agrees e f r₁ r₂ = agree
