-- For each public function: any two results that its statement allows are one.
use Rattle.std.specs.Prelude.{ℕ, ◌≡◌, Bool, not, List}
use Rattle.whole.specs.laws.Agree.{agree}
use Rattle.whole.specs.Lists.{lists}
use Rattle.ring.specs.Entries.{is_unclosed}
use Rattle.ring.specs.held.Rings.{ring_at}

pub lists_agrees : (ring : List ℕ) (n : ℕ) (r₁ r₂ : Bool) → r₁ ≡ lists n ring → r₂ ≡ lists n ring → r₁ ≡ r₂
lists_agrees ring n r₁ r₂ = agree

pub is_closed_agrees : (ring : List ℕ) (r₁ r₂ : Bool) → r₁ ≡ not (is_unclosed ring) → r₂ ≡ not (is_unclosed ring) → r₁ ≡ r₂
is_closed_agrees ring r₁ r₂ = agree

pub ring_agrees : (entries starts : List ℕ) (r : ℕ) (r₁ r₂ : List ℕ) → r₁ ≡ ring_at entries starts r → r₂ ≡ ring_at entries starts r → r₁ ≡ r₂
ring_agrees entries starts r r₁ r₂ = agree
