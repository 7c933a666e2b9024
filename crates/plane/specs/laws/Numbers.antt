-- The numbers of places and edges in the plane as the machine sees them.
use Rattle.std.specs.Prelude.{◌≡◌, Bool, not, List, ◌∷◌, ℤ}
use Rattle.std.proofs.Common.{ap, ◌∙◌}
use Rattle.std.specs.Int.{w64}
use Rattle.whole.specs.held.Small.{Small}
use Rattle.whole.specs.laws.Size.{small_back, back_small}
use Rattle.whole.specs.laws.Mach.{Leaf, whole}
use Rattle.plane.specs.Plane.{Spot, Segment, overlap}
use Rattle.plane.specs.held.Edges.{spot, Close, Ends}
use Rattle.space.specs.laws.Numbers.{seen}

pub spot_back : (p : Spot) → Close p → spot (seen p.u) (seen p.v) ≡ p
spot_back p h = λ i. spot (small_back w64 tt h.on_u i) (small_back w64 tt h.on-v i)

pub close_back : (p : Spot) → Close p → Close (spot (seen p.u) (seen p.v))
close_back p h = record { on_u = back_small w64 tt h.on_u; on-v = back_small w64 tt h.on-v }

-- the two numbers of a place, and the four of a segment
abbrev pub close : {p : Spot} → Close p → List Leaf → List Leaf
close h ls = whole w64 tt h.on_u ∷ whole w64 tt h.on-v ∷ ls

abbrev pub ends : {e : Segment} → Ends e → List Leaf → List Leaf
ends h ls = close h.from (close h.to ls)

pub overlap-back : {a b c d : ℤ} → Small 100000 a → Small 100000 b → Small 100000 c → Small 100000 d → overlap (seen a) (seen b) (seen c) (seen d) ≡ overlap a b c d
overlap-back p q r s = λ i. overlap (small_back w64 tt p i) (small_back w64 tt q i) (small_back w64 tt r i) (small_back w64 tt s i)

-- that the stretches of two edges are apart on an axis, told of their numbers as they are seen, is told of the numbers
module _ {e f : Segment} (h : Ends e) (k : Ends f) {r : Bool} where
  pub apart_u : r ≡ not (overlap (seen e.0.u) (seen e.1.u) (seen f.0.u) (seen f.1.u)) → r ≡ not (overlap e.0.u e.1.u f.0.u f.1.u)
  apart_u q = q ∙ ap not (overlap-back h.from.on_u h.to.on_u k.from.on_u k.to.on_u)

  pub apart_v : r ≡ not (overlap (seen e.0.v) (seen e.1.v) (seen f.0.v) (seen f.1.v)) → r ≡ not (overlap e.0.v e.1.v f.0.v f.1.v)
  apart_v q = q ∙ ap not (overlap-back h.from.on-v h.to.on-v k.from.on-v k.to.on-v)
