-- A closed ring whose places fan out: no two edges cross and no number stands twice.
use Prim.Native.Nat.{ℕ, zero, suc, ◌+◌, ◌-◌, ◌≤◌, ◌<◌}
use native.Mathlib.Omega.{arith}
use native.Mathlib.Decide.{dec_lt}
use mathlib.Core.Path.{◌≡◌, refl, sym, ap, ap₂, ◌∙◌, subst}
use mathlib.Core.Bool.{Bool, true, false, not, ◌&&◌, ◌||◌}
use mathlib.Core.List.{List, [], ◌∷◌, map}
use borrow.Author.Tests.{eqb-true, eqb-false}
use lib.Dec.{eqb}
use lib.ListN.{length, get_or, take, length-map}
use lib.Seq.{get_or-take, length-take-le}
use lib.IntN.{ℤ}
use Rattle.whole.specs.Lists.{any, any_two, steps, numbered}
use Rattle.whole.specs.laws.Search.{any_next, two-next}
use Rattle.whole.specs.laws.Places.{numbered-length, numbered-at, steps-length, steps-at, map_at}
use Rattle.space.specs.declared.Axis.{Axis}
use Rattle.space.specs.Space.{origin, places}
use Rattle.plane.specs.Plane.{Spot, Segment, drop_axis, share_more_of}
use Rattle.ring.specs.Entries.{is_unclosed, is_repeated}
use Rattle.crossing.specs.Crossed.{forbidden, is_crossed}
use Rattle.polygon.specs.Ring.{edges_in}
use Rattle.space.specs.held.Points.{points_of, place_at, Coords, Known}
use Rattle.space.specs.laws.Sizes.{point_at}
use Rattle.polygon.specs.laws.Triangle.{differ}
use Rattle.fan.specs.held.Fan.{every, fans, is_fan_of}
use Rattle.polygon.specs.laws.Fan.{some_at, next-apart, last_apart, other-apart}
use Rattle.crossing.proofs.laws.Pairs.{clash_next_lem, clash-last, clash-other}
use Rattle.whole.specs.laws.Front.{front_is}
use Rattle.ring.specs.laws.Rings.{closed_is}

-- ---- lists of which no two are related
module _ {A : Type 0} where
  none-at : (t : A → Bool) (l : List A) (d : A) → ((j : ℕ) → j < length l → t (get_or l j d) ≡ false) → any t l ≡ false
  unfolding any
  none-at t [] d h = refl
  none-at t (x ∷ l) d h = any_next t (x ∷ l) 0 d (omega arith) (h 0 (omega arith)) ∙ none-at t l d (λ j g. h (suc j) (omega arith))

  none-two : (r : A → A → Bool) (l : List A) (d : A) → ((i j : ℕ) → i < j → j < length l → r (get_or l i d) (get_or l j d) ≡ false) → any_two r l ≡ false
  unfolding any_two
  none-two r [] d h = refl
  none-two r (x ∷ l) d h =
      two-next r (x ∷ l) 0 d (omega arith) (none-at (r x) l d (λ j g. h 0 (suc j) (omega arith) (omega arith)))
      ∙ none-two r l d (λ i j f g. h (suc i) (suc j) (omega arith) (omega arith))

-- ---- pairs of edges
module _ (way : Bool) (at : ℕ → Spot) (m : ℕ) (fan : every (fans way at) (m - 2) ≡ true) (three : 3 ≤ m) (closed : at m ≡ at 0) where
  abbrev edge : ℕ → Segment
  edge i = (at i, at (i + 1))

  uncrossing : (i j : ℕ) → i < j → j < m → forbidden m (i, edge i) (j, edge j) ≡ false
  uncrossing i j h l = go (dec_lt (i + 1) j)
    where
      far : i + 1 < j → (t u : Bool) → eqb i 0 ≡ t → eqb (j + 1) m ≡ u → forbidden m (i, edge i) (j, edge j) ≡ false
      far z true true e f =
          sym (clash-last m i j (edge i) (edge j) h (λ y. omega arith) (ap₂ ◌&&◌ e f))
          ∙ ap (λ (n : ℕ). share_more_of (edge j) (edge n)) (eqb-true i 0 e)
          ∙ last_apart way at m fan three closed j (eqb-true (j + 1) m f)
      far z true false e f =
          let n = eqb-false (j + 1) m f in
          sym (clash-other m i j (edge i) (edge j) h (λ y. omega arith) (ap₂ ◌&&◌ e f)) ∙ other-apart way at m fan three closed i j z l (λ o. omega arith)
      far z false u e f =
          let n = eqb-false i 0 e in
          sym (clash-other m i j (edge i) (edge j) h (λ y. omega arith) (ap (λ (t : Bool). t && eqb (j + 1) m) e)) ∙ other-apart way at m fan three closed i j z l (λ o. absurd (n o))

      go : Dec (i + 1 < j) → forbidden m (i, edge i) (j, edge j) ≡ false
      go (yes p) = far p (eqb i 0) (eqb (j + 1) m) refl refl
      go (no p) =
          let z : i + 1 ≡ j = omega arith in
          sym (clash_next_lem m i j (edge i) (edge j) z) ∙ ap (λ (n : ℕ). share_more_of (edge i) (edge n)) (sym z) ∙ next-apart way at m fan three closed i (omega arith)

  -- edges that stand in a list
  uncrossed : (es : List Segment) (d : Segment) → length es ≡ m → ((i : ℕ) → i < m → get_or es i d ≡ edge i) → is_crossed es ≡ false
  unfolding is_crossed
  uncrossed es d e h =
      ap (λ (n : ℕ). any_two (forbidden n) (numbered es)) e
      ∙ none-two (forbidden m) (numbered es) (0, d) each
    where
      at-is : (i : ℕ) → i < length (numbered es) → get_or (numbered es) i (0, d) ≡ (i, edge i)
      at-is i g = let l : i < length es = omega (arith, numbered-length es) in numbered-at es i (0, d) d l ∙ ap (λ (s : Segment). (i, s)) (h i (omega arith))

      each : (i j : ℕ) → i < j → j < length (numbered es) → forbidden m (get_or (numbered es) i (0, d)) (get_or (numbered es) j (0, d)) ≡ false
      each i j f g = ap₂ (forbidden m) (at-is i (omega arith)) (at-is j g) ∙ uncrossing i j f (omega (arith, numbered-length es))

-- ---- a closed ring of known points
last_is : (ring : List ℕ) → 1 ≤ length ring → is_unclosed ring ≡ false → get_or ring (length ring - 1) 0 ≡ get_or ring 0 0
last_is ring h c = sym (eqb-true (get_or ring 0 0) (get_or ring (length ring - 1) 0) (closed_is ring (length ring) refl (λ z. omega arith) ∙ ap not c))

module _ {flat : List ℤ} {ring : List ℕ} (h : Coords flat) (k : Known ring) (long : 4 ≤ length ring) (closed : is_unclosed ring ≡ false) (axis : Axis) where
  -- where a point stands in the plane that is left, and an entry of the ring
  abbrev there : ℕ → Spot
  there p = drop_axis axis (place_at flat p)

  abbrev entry : ℕ → Spot
  entry i = there (get_or ring i 0)

  abbrev m : ℕ
  m = length ring - 1

  flatly : List Spot
  flatly = map (drop_axis axis) (places (points_of flat) ring)

  flatly_length : length flatly ≡ length ring
  unfolding flatly places
  flatly_length = length-map (map (λ n. get_or (points_of flat) n origin) ring) (drop_axis axis) ∙ length-map ring (λ n. get_or (points_of flat) n origin)

  flatly_at : (i : ℕ) → i < length ring → get_or flatly i (entry 0) ≡ entry i
  unfolding flatly places
  flatly_at i l =
      map_at (drop_axis axis) (map (λ n. get_or (points_of flat) n origin) ring) i origin (entry 0) (subst (λ (n : ℕ). i < n) (sym (length-map ring (λ n. get_or (points_of flat) n origin))) l)
      ∙ ap (drop_axis axis) (map_at (λ n. get_or (points_of flat) n origin) ring i 0 origin l ∙ point_at h (get_or ring i 0) (k.each i l))

  module _ (way : Bool) (fan : every (fans way entry) (length ring - 3) ≡ true) where
    fan-is : every (fans way entry) (m - 2) ≡ true
    fan-is = let e : m - 2 ≡ length ring - 3 = omega arith in ap (every (fans way entry)) e ∙ fan

    home : entry m ≡ entry 0
    home = ap there (last_is ring (omega arith) closed)

    way-uncrossed : is_crossed (edges_in axis (places (points_of flat) ring)) ≡ false
    unfolding edges_in flatly
    way-uncrossed =
        uncrossed way entry m fan-is (omega arith) home (steps flatly) (entry 0, entry 0) (steps-length flatly ∙ ap (λ (n : ℕ). n - 1) flatly_length)
        (λ i l. steps-at flatly i (entry 0, entry 0) (entry 0) (omega (arith, flatly_length)) ∙ (λ t. (flatly_at i (omega arith) t, flatly_at (i + 1) (omega arith) t)))

    differ-at : (i j : ℕ) → 1 ≤ i → i < j → j < m → (eqb (get_or ring 0 0) (get_or ring i 0) ≡ false) × (eqb (get_or ring 0 0) (get_or ring j 0) ≡ false) × (eqb (get_or ring i 0) (get_or ring j 0) ≡ false)
    differ-at i j a b c = differ there (get_or ring 0 0) (get_or ring i 0) (get_or ring j 0) (some_at way entry m fan-is i j a b c)

    apart : (i j : ℕ) → i < j → j < m → eqb (get_or ring i 0) (get_or ring j 0) ≡ false
    apart zero zero b c = absurd (omega arith)
    apart zero (suc zero) b c = (differ-at 1 2 (omega arith) (omega arith) (omega arith)).0
    apart zero (suc (suc j)) b c = (differ-at 1 (suc (suc j)) (omega arith) (omega arith) c).1
    apart (suc i) j b c = (differ-at (suc i) j (omega arith) b c).2

    way-single : is_repeated ring ≡ false
    unfolding is_repeated
    way-single =
        ap (any_two eqb) (front_is ring)
        ∙ none-two eqb (take m ring) 0 each
      where
        each : (i j : ℕ) → i < j → j < length (take m ring) → eqb (get_or (take m ring) i 0) (get_or (take m ring) j 0) ≡ false
        each i j b c =
            let l : j < m = subst (λ (n : ℕ). j < n) (length-take-le m ring (omega arith)) c in
            ap₂ eqb (get_or-take m ring i 0 (omega arith)) (get_or-take m ring j 0 l) ∙ apart i j b l

  -- one way about or the other
  module _ (fan : is_fan_of entry (length ring - 3) ≡ true) where
    either : {P : Type 0} → (every (fans true entry) (length ring - 3) ≡ true → P) → (every (fans false entry) (length ring - 3) ≡ true → P) → P
    either {P} f g = go (every (fans true entry) (length ring - 3)) refl fan
      where
        go : (t : Bool) → every (fans true entry) (length ring - 3) ≡ t → (t || every (fans false entry) (length ring - 3)) ≡ true → P
        go true e z = f e
        go false e z = g z

    pub fan-uncrossed : is_crossed (edges_in axis (places (points_of flat) ring)) ≡ false
    fan-uncrossed = either (way-uncrossed true) (way-uncrossed false)

    pub fan-single : is_repeated ring ≡ false
    fan-single = either (way-single true) (way-single false)
