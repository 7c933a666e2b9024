-- Loops that end at the first edge of a ring, or at the first ring, of which a test holds: what is left tells of the whole.
use Prim.Native.Nat.{ℕ, suc, ◌+◌, ◌-◌, ◌≤◌, ◌<◌}
use native.Mathlib.Omega.{arith}
use Rattle.std.specs.Prelude.{◌≡◌, refl, Bool, List, [], ◌∷◌, map, length, get_or, drop, ℤ}
use Rattle.std.proofs.Math.Path.{sym, ap}
use Rattle.std.proofs.Common.{◌∙◌, subst}
use Rattle.std.proofs.Math.Bool.{true, false}
use Rattle.whole.specs.Lists.{any, any_two, steps}
use Rattle.whole.specs.held.Spans.{span}
use Rattle.whole.specs.laws.Search.{any_here, any_next, any_end}
use Rattle.plane.specs.Plane.{Spot, Segment}
use Rattle.plane.specs.held.Edges.{Ends}
use Rattle.space.specs.held.Points.{Coords}
use Rattle.fan.specs.held.Fan.{spot_in}
use Rattle.rays.specs.laws.Seen.{close_at}
use Rattle.rays.proofs.laws.Counted.{edges-length, edges_at}

-- the edge between two points has coordinates
pub ends_of : (flat : List ℤ) → Coords flat → (j k a b : ℕ) {e : Segment} → e ≡ (spot_in flat j k a, spot_in flat j k b) → Ends e
ends_of flat h j k a b q = subst Ends (sym q) (record { from = close_at flat h j k a; to = close_at flat h j k b })

-- ---- the edges between the places of a ring's entries
module _ (t : Segment → Bool) (at : ℕ → Spot) (ring : List ℕ) where
  abbrev es : List Segment
  es = steps (map at ring)

  -- edge i
  abbrev edge : ℕ → Segment
  edge i = (at (get_or ring i 0), at (get_or ring (i + 1) 0))

  pub record Left (i : ℕ) : Type 0 where
    pub within : i ≤ length ring - 1
    pub same : any t (drop i es) ≡ any t es

  pub left-all : Left 0
  left-all = record { within = omega arith; same = refl }

  pub left_here : {i : ℕ} → Left i → i + 1 < length ring → t (edge i) ≡ true → true ≡ any t es
  left_here {i} l h e = sym (any_here t es i (at 0, at 0) (omega (arith, edges-length at ring)) (ap t (edges_at at ring i (at 0, at 0) h) ∙ e)) ∙ l.same

  pub left-next : {i : ℕ} → Left i → i + 1 < length ring → t (edge i) ≡ false → Left (i + 1)
  left-next {i} l h e = record {
    within = omega arith;
    same = sym (any_next t es i (at 0, at 0) (omega (arith, edges-length at ring)) (ap t (edges_at at ring i (at 0, at 0) h) ∙ e)) ∙ l.same;
  }

  pub left_end : {i : ℕ} → Left i → length ring ≤ i + 1 → false ≡ any t es
  left_end {i} l h = sym (any_end t es i (omega (arith, edges-length at ring, l.within))) ∙ l.same

-- ---- rings, by their numbers from one up to another
module _ {A : Type 0} (f : ℕ → A) where
  pub span-next : (i to : ℕ) → i < to → span f i (to - i) ≡ f i ∷ span f (i + 1) (to - (i + 1))
  unfolding span
  span-next i to h = let e : to - i ≡ suc (to - (i + 1)) = omega arith in ap (span f i) e

  pub span_end : (i to : ℕ) → to ≤ i → span f i (to - i) ≡ []
  unfolding span
  span_end i to h = let e : to - i ≡ 0 = omega arith in ap (span f i) e

  -- one of which a test holds
  module _ (t : A → Bool) (from to : ℕ) where
    pub record Rest (i : ℕ) : Type 0 where
      pub low : from ≤ i
      pub same : any t (span f i (to - i)) ≡ any t (span f from (to - from))

    pub rest_all : Rest from
    rest_all = record { low = omega arith; same = refl }

    first_of : (i : ℕ) → i < to → {b : Bool} → t (f i) ≡ b → any t (span f i (to - i)) ≡ elim b [ true ↦ true | false ↦ any t (span f (i + 1) (to - (i + 1))) ]
    unfolding any
    first_of i h e = ap (any t) (span-next i to h) ∙ ap (λ (b : Bool). elim b [ true ↦ true | false ↦ any t (span f (i + 1) (to - (i + 1))) ]) e

    pub rest-here : {i : ℕ} → Rest i → i < to → t (f i) ≡ true → true ≡ any t (span f from (to - from))
    rest-here {i} r h e = sym (first_of i h e) ∙ r.same

    pub rest-next : {i : ℕ} → Rest i → i < to → t (f i) ≡ false → Rest (i + 1)
    rest-next {i} r h e = record { low = omega (arith, r.low); same = sym (first_of i h e) ∙ r.same }

    pub rest_end : {i : ℕ} → Rest i → to ≤ i → false ≡ any t (span f from (to - from))
    unfolding any
    rest_end {i} r h = sym (ap (any t) (span_end i to h)) ∙ r.same

  -- two that are so related
  module _ (t : A → A → Bool) (from to : ℕ) where
    pub record Rests (i : ℕ) : Type 0 where
      pub low : from ≤ i
      pub same : any_two t (span f i (to - i)) ≡ any_two t (span f from (to - from))

    pub rests-all : Rests from
    rests-all = record { low = omega arith; same = refl }

    two-of : (i : ℕ) → i < to → {b : Bool} → any (t (f i)) (span f (i + 1) (to - (i + 1))) ≡ b → any_two t (span f i (to - i)) ≡ elim b [ true ↦ true | false ↦ any_two t (span f (i + 1) (to - (i + 1))) ]
    unfolding any_two
    two-of i h e = ap (any_two t) (span-next i to h) ∙ ap (λ (b : Bool). elim b [ true ↦ true | false ↦ any_two t (span f (i + 1) (to - (i + 1))) ]) e

    pub rests-here : {i : ℕ} → Rests i → i < to → any (t (f i)) (span f (i + 1) (to - (i + 1))) ≡ true → true ≡ any_two t (span f from (to - from))
    rests-here {i} r h e = sym (two-of i h e) ∙ r.same

    pub rests-next : {i : ℕ} → Rests i → i < to → any (t (f i)) (span f (i + 1) (to - (i + 1))) ≡ false → Rests (i + 1)
    rests-next {i} r h e = record { low = omega (arith, r.low); same = sym (two-of i h e) ∙ r.same }

    pub rests-end : {i : ℕ} → Rests i → to ≤ i → false ≡ any_two t (span f from (to - from))
    unfolding any_two
    rests-end {i} r h = sym (ap (any_two t) (span_end i to h)) ∙ r.same

    -- the last has none after it
    pub rests-last : {i : ℕ} → Rests i → i < to → to ≤ i + 1 → false ≡ any_two t (span f from (to - from))
    unfolding any any_two
    rests-last {i} r l h = sym (two-of i l (ap (any (t (f i))) (span_end (i + 1) to h)) ∙ ap (any_two t) (span_end (i + 1) to h)) ∙ r.same
