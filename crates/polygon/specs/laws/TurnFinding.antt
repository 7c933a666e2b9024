-- Turning never changes a finding, but for its position.
use Rattle.std.specs.Prelude.{ℕ, ◌<◌, ◌≡◌, refl, Bool, true, false, not, cond, ltb, length, ℤ, pos, neg_ℤ, ◌+ℤ◌, ◌-ℤ◌, ◌*ℤ◌}
use Rattle.std.proofs.Common.{sym, ◌∙◌, eqb-true, eq-eqb}
use Rattle.std.proofs.Math.Path.{ap, ap₂}
use mathlib.Core.List.{List, [], ◌∷◌, map, foldr, reverse, reverse_aux}
use Rattle.std.proofs.lemmas.Bool.{not-false}
use Rattle.std.proofs.Math.Dec.{eqb}
use Rattle.std.proofs.Math.ListN.{get_or}
use Rattle.std.proofs.lemmas.List.{length-reverse, length-map}
use Rattle.std.specs.Int.Signed.{lt_z}
use Rattle.whole.specs.laws.Size.{abs_neg}
use Rattle.whole.specs.laws.Solve.{◌⊕◌, ◌⊖◌, ◌⊗◌, ⊝◌, ring, ◌≔◌}
use Rattle.whole.specs.Lists.{given, first, any, any_two, steps, last_of, numbered, sum_of}
use Rattle.whole.specs.laws.Reverse.{any-reverse, any_two-reverse, any_two-map, any_two-same, counted, numbered-reverse, numbered_below, back, steps-reverse, any_two-turned, map_reverse_aux}
use Rattle.space.specs.Space.{Point, origin, plus, relative_to, cross, dot, places}
use Rattle.space.specs.declared.Axis.{Axis}
use Rattle.polygon.specs.declared.Finding.{Finding}
use Rattle.polygon.specs.declared.Finding.TheVariants.{Sound, Short, Unclosed, Repeated, NoNormal, Crossed, Uneven}
use Rattle.plane.specs.Plane.{largest_axis_of, Spot, drop_axis, Segment}
use Rattle.polygon.specs.Ring.{is_short, edges_in, ring_rows, ring_finding, finding, finding_number_of}
use Rattle.ring.specs.Entries.{is_unclosed, is_repeated, repeated_at}
use Rattle.normal.specs.Normal.{relative, normal, is_zero_of}
use Rattle.crossing.specs.Crossed.{forbidden, is_crossed, crossed_at}
use Rattle.even.specs.Even.{square, squares, exceeds, is_uneven, uneven_at}
use Rattle.whole.specs.laws.Same.{eqb-sym}
use Rattle.volume.specs.laws.Turn.{sum-reverse, first_of, first-reverse_aux, last-map}
use Rattle.plane.specs.laws.PlaneTurn.{zero_neg}
use Rattle.crossing.specs.laws.CrossedTurn.{forbidden-back}
use Rattle.polygon.specs.laws.Position.{number_same}
use Rattle.polygon.specs.held.Position.{has_position_of}

-- ---- the opposite way

unfoldable pub opposite : Point → Point
opposite n = record { x = neg_ℤ n.x; y = neg_ℤ n.y; z = neg_ℤ n.z }

is_zero-opposite : (n : Point) → is_zero_of (opposite n) ≡ is_zero_of n
unfolding is_zero_of opposite
is_zero-opposite n = rw (zero_neg n.x, zero_neg n.y, zero_neg n.z)

pub largest_axis-opposite : (n : Point) → largest_axis_of (opposite n) ≡ largest_axis_of n
unfolding largest_axis_of opposite
largest_axis-opposite n = rw (abs_neg n.x, abs_neg n.y, abs_neg n.z)

square-opposite : (z : ℤ) → square (neg_ℤ z) ≡ square z
unfolding square
square-opposite = ring 1 (λ z. ⊝ z ⊗ ⊝ z ≔ z ⊗ z) tt

squares-opposite : (n : Point) → squares (opposite n) ≡ squares n
unfolding squares opposite
squares-opposite n = rw (square-opposite n.x, square-opposite n.y, square-opposite n.z)

dot-opposite : (n p : Point) → square (dot (opposite n) p) ≡ square (dot n p)
unfolding dot opposite
dot-opposite n p = ap square (go n.x n.y n.z p.x p.y p.z) ∙ square-opposite (dot n p)
  where
    go : (a b c d e f : ℤ) → neg_ℤ a *ℤ d +ℤ neg_ℤ b *ℤ e +ℤ neg_ℤ c *ℤ f ≡ neg_ℤ (a *ℤ d +ℤ b *ℤ e +ℤ c *ℤ f)
    go = ring 6 (λ a b c d e f. ⊝ a ⊗ d ⊕ ⊝ b ⊗ e ⊕ ⊝ c ⊗ f ≔ ⊝ (a ⊗ d ⊕ b ⊗ e ⊕ c ⊗ f)) tt

pub exceeds-opposite : (tolerance : ℕ) (n p : Point) → exceeds tolerance (opposite n) (dot (opposite n) p) ≡ exceeds tolerance n (dot n p)
unfolding exceeds
exceeds-opposite tolerance n p = λ i. lt_z (square (pos tolerance) *ℤ squares-opposite n i) (dot-opposite n p i)

-- ---- sums of cross products, one component at a time

crosses : List (Point × Point) → Point
crosses ss = foldr (λ s n. plus (cross s.0 s.1) n) origin ss

module _ (π : Point → ℤ) (none : π origin ≡ pos 0) (add : (p q : Point) → π (plus p q) ≡ π p +ℤ π q) where
  component : (ss : List (Point × Point)) → π (crosses ss) ≡ sum_of (λ s. π (cross s.0 s.1)) ss
  unfolding crosses sum_of
  component [] = none
  component (s ∷ ss) = add (cross s.0 s.1) (crosses ss) ∙ ap (λ (z : ℤ). π (cross s.0 s.1) +ℤ z) (component ss)

  component-reverse : ((p q : Point) → π (cross p q) ≡ neg_ℤ (π (cross q p))) → (ps : List Point) → π (crosses (steps (reverse ps))) ≡ neg_ℤ (π (crosses (steps ps)))
  component-reverse odd ps =
      component (steps (reverse ps)) ∙ sum-reverse (λ s. π (cross s.0 s.1)) odd ps ∙ ap neg_ℤ (sym (component (steps ps)))

minor_odd : (a b c d : ℤ) → a *ℤ d -ℤ b *ℤ c ≡ neg_ℤ (c *ℤ b -ℤ d *ℤ a)
minor_odd = ring 4 (λ a b c d. a ⊗ d ⊖ b ⊗ c ≔ ⊝ (c ⊗ b ⊖ d ⊗ a)) tt

crosses-reverse : (ps : List Point) → crosses (steps (reverse ps)) ≡ opposite (crosses (steps ps))
unfolding origin plus cross opposite
crosses-reverse ps =
    let a : (crosses (steps (reverse ps))).x ≡ neg_ℤ (crosses (steps ps)).x = component-reverse (λ p. p.x) refl (λ p q. refl) (λ p q. minor_odd p.y p.z q.y q.z) ps in
    let b : (crosses (steps (reverse ps))).y ≡ neg_ℤ (crosses (steps ps)).y = component-reverse (λ p. p.y) refl (λ p q. refl) (λ p q. minor_odd p.z p.x q.z q.x) ps in
    let c : (crosses (steps (reverse ps))).z ≡ neg_ℤ (crosses (steps ps)).z = component-reverse (λ p. p.z) refl (λ p q. refl) (λ p q. minor_odd p.x p.y q.x q.y) ps in
    λ i. record { x = a i; y = b i; z = c i }

-- ---- a closed ring of points

pub map-reverse : {A B : Type 0} (g : A → B) (l : List A) → map g (reverse l) ≡ reverse (map g l)
map-reverse g l = map_reverse_aux g l []

pub relative-first : (ps : List Point) → relative ps ≡ map (relative_to (first_of origin ps)) ps
unfolding relative first_of
relative-first [] = refl
relative-first (a ∷ l) = refl

module _ (a : Point) (l : List Point) (closed : last_of a l ≡ a) where
  relative-turned : relative (reverse (a ∷ l)) ≡ reverse (relative (a ∷ l))
  unfolding relative
  relative-turned =
      relative-first (reverse (a ∷ l))
      ∙ ap (λ (c : Point). map (relative_to c) (reverse (a ∷ l))) (first-reverse_aux origin l a [] ∙ closed)
      ∙ map-reverse (relative_to a) (a ∷ l)

  normal-turned : normal (reverse (a ∷ l)) ≡ opposite (normal (a ∷ l))
  unfolding normal crosses
  normal-turned = ap (λ (ps : List Point). crosses (steps ps)) relative-turned ∙ crosses-reverse (relative (a ∷ l))

  uneven-turned : (tolerance : ℕ) (n : Point) → is_uneven tolerance (opposite n) (reverse (a ∷ l)) ≡ is_uneven tolerance n (a ∷ l)
  unfolding is_uneven
  uneven-turned tolerance n =
      ap (any (λ p. exceeds tolerance (opposite n) (dot (opposite n) p))) relative-turned
      ∙ any-reverse (λ p. exceeds tolerance (opposite n) (dot (opposite n) p)) (relative (a ∷ l))
      ∙ ap (λ (t : Point → Bool). any t (relative (a ∷ l))) (λ i p. exceeds-opposite tolerance n p i)

-- ---- edges

crossed_back : (es : List Segment) → is_crossed (reverse (map back es)) ≡ is_crossed es
unfolding is_crossed
crossed_back es =
    let m : length (reverse (map back es)) ≡ length es = length-reverse (map back es) ∙ length-map es back in
    ap₂ (λ (n : ℕ) (l : List (ℕ × Segment)). any_two (forbidden n) l) m (numbered-reverse back es)
    ∙ any_two-reverse (forbidden (length es)) (map (counted back (length es)) (numbered es))
    ∙ any_two-map (λ x y. forbidden (length es) y x) (counted back (length es)) (numbered es)
    ∙ any_two-same (λ p. p.0 < length es) (λ x y. forbidden (length es) (counted back (length es) y) (counted back (length es) x)) (forbidden (length es)) (λ x y hx hy. forbidden-back (length es) x y hx hy) (numbered_below es)

edges-turned : (axis : Axis) (ps : List Point) → is_crossed (edges_in axis (reverse ps)) ≡ is_crossed (edges_in axis ps)
unfolding edges_in
edges-turned axis ps =
    ap (λ (qs : List Spot). is_crossed (steps qs)) (map-reverse (drop_axis axis) ps)
    ∙ ap is_crossed (steps-reverse (map (drop_axis axis) ps))
    ∙ crossed_back (steps (map (drop_axis axis) ps))

-- ---- numbers

last-reverse_aux : {A : Type 0} (d : A) (l : List A) (y : A) (r : List A) → last_of d (reverse_aux l (y ∷ r)) ≡ last_of y r
unfolding last_of
last-reverse_aux d [] y r = refl
last-reverse_aux d (x ∷ l) y r = last-reverse_aux d l x (y ∷ r)

unclosed-ends : (d : ℕ) (r : List ℕ) → is_unclosed r ≡ not (eqb (first_of d r) (last_of d r))
unfolding is_unclosed first_of last_of
unclosed-ends d [] = rw (eq-eqb d d refl)
unclosed-ends d (a ∷ l) = refl

unclosed-turned : (r : List ℕ) → is_unclosed (reverse r) ≡ is_unclosed r
unfolding is_unclosed last_of
unclosed-turned [] = refl
unclosed-turned (a ∷ l) =
    unclosed-ends 0 (reverse (a ∷ l))
    ∙ ap₂ (λ (p q : ℕ). not (eqb p q)) (first-reverse_aux 0 l a []) (last-reverse_aux 0 l a [])
    ∙ ap not (eqb-sym (last_of a l) a)

-- ---- the finding, as a function of the six tests and the positions

rows : Bool → Bool → Bool → ℕ → Bool → Bool → ℕ → Bool → ℕ → Finding
rows s u r i n c j e k =
    first Sound (given s Short ∷ given u Unclosed ∷ given r (Repeated i) ∷ given n NoNormal ∷ given c (Crossed j) ∷ given e (Uneven k) ∷ [])

finding-rows : (tolerance : ℕ) (points : List Point) (r : List ℕ) → let ps = places points r in let n = normal ps in let es = edges_in (largest_axis_of n) ps in
    finding tolerance points r ≡ rows (is_short r) (is_unclosed r) (is_repeated r) (repeated_at r) (is_zero_of n) (is_crossed es) (crossed_at es) (is_uneven tolerance n ps) (uneven_at tolerance n ps)
unfolding finding ring_rows rows
finding-rows tolerance points r = refl

-- its number, which the positions do not change
numbers : Bool → Bool → Bool → Bool → Bool → Bool → ℕ
numbers s u r n c e = first 0 (given s 1 ∷ given u 2 ∷ given r 3 ∷ given n 4 ∷ given c 5 ∷ given e 6 ∷ [])

numbers_are : (s u r : Bool) (i : ℕ) (n c : Bool) (j : ℕ) (e : Bool) (k : ℕ) → finding_number_of (rows s u r i n c j e k) ≡ numbers s u r n c e
unfolding rows numbers first given finding_number_of
numbers_are true u r i n c j e k = refl
numbers_are false true r i n c j e k = refl
numbers_are false false true i n c j e k = refl
numbers_are false false false i true c j e k = refl
numbers_are false false false i false true j e k = refl
numbers_are false false false i false false j true k = refl
numbers_are false false false i false false j false k = refl

-- the five tests of a ring, and one more
abbrev tests : List Point → List ℕ → Bool → ℕ
tests points r e = let ps = places points r in let n = normal ps in numbers (is_short r) (is_unclosed r) (is_repeated r) (is_zero_of n) (is_crossed (edges_in (largest_axis_of n) ps)) e

number-rows : (tolerance : ℕ) (points : List Point) (r : List ℕ) → finding_number_of (finding tolerance points r) ≡ tests points r (is_uneven tolerance (normal (places points r)) (places points r))
number-rows tolerance points r = ap finding_number_of (finding-rows tolerance points r) ∙ numbers_are _ _ _ _ _ _ _ _ _

-- by 01 to 05 alone there is none more
five_are : (s u r : Bool) (i : ℕ) (n c : Bool) (j : ℕ) → finding_number_of (first Sound (given s Short ∷ given u Unclosed ∷ given r (Repeated i) ∷ given n NoNormal ∷ given c (Crossed j) ∷ [])) ≡ numbers s u r n c false
unfolding numbers first given finding_number_of
five_are true u r i n c j = refl
five_are false true r i n c j = refl
five_are false false true i n c j = refl
five_are false false false i true c j = refl
five_are false false false i false true j = refl
five_are false false false i false false j = refl

ring_number-rows : (points : List Point) (r : List ℕ) → finding_number_of (ring_finding points r) ≡ tests points r false
unfolding ring_finding ring_rows
ring_number-rows points r = five_are _ _ _ _ _ _ _

-- what comes after 02 does not matter to an Unclosed ring
numbers-unclosed : (s u r n c e : Bool) → u ≡ true → numbers s u r n c e ≡ cond s 1 2
unfolding numbers first given
numbers-unclosed true u r n c e q = refl
numbers-unclosed false u r n c e q = rw q

tests-unclosed : (points : List Point) (r : List ℕ) (e : Bool) → is_unclosed r ≡ true → tests points r e ≡ cond (is_short r) 1 2
tests-unclosed points r e q = numbers-unclosed (is_short r) (is_unclosed r) _ _ _ e q

short-turned : (r : List ℕ) → is_short (reverse r) ≡ is_short r
unfolding is_short
short-turned r = ap (λ (n : ℕ). ltb n 4) (length-reverse r)

-- a ring whose last entry is its first
module _ (tolerance : ℕ) (points : List Point) (a : ℕ) (l : List ℕ) (closed : last_of a l ≡ a) where
  unfoldable pub here : List Point
  here = places points (a ∷ l)

  pub turned-places : places points (reverse (a ∷ l)) ≡ reverse here
  unfolding here places
  turned-places = map-reverse (λ n. get_or points n origin) (a ∷ l)

  pub closed-places : last_of (get_or points a origin) (map (λ n. get_or points n origin) l) ≡ get_or points a origin
  closed-places = last-map (λ n. get_or points n origin) a l ∙ ap (λ (n : ℕ). get_or points n origin) closed

  pub turned-normal : normal (places points (reverse (a ∷ l))) ≡ opposite (normal here)
  unfolding here places
  turned-normal = ap normal turned-places ∙ normal-turned (get_or points a origin) (map (λ n. get_or points n origin) l) closed-places

  turned_zero : is_zero_of (normal (places points (reverse (a ∷ l)))) ≡ is_zero_of (normal here)
  turned_zero = ap is_zero_of turned-normal ∙ is_zero-opposite (normal here)

  turned_crossed : is_crossed (edges_in (largest_axis_of (normal (places points (reverse (a ∷ l))))) (places points (reverse (a ∷ l)))) ≡ is_crossed (edges_in (largest_axis_of (normal here)) here)
  turned_crossed =
      ap₂ (λ (n : Point) (ps : List Point). is_crossed (edges_in (largest_axis_of n) ps)) turned-normal turned-places
      ∙ ap (λ (axis : Axis). is_crossed (edges_in axis (reverse here))) (largest_axis-opposite (normal here))
      ∙ edges-turned (largest_axis_of (normal here)) here

  turned-uneven : is_uneven tolerance (normal (places points (reverse (a ∷ l)))) (places points (reverse (a ∷ l))) ≡ is_uneven tolerance (normal here) here
  unfolding here places
  turned-uneven =
      ap₂ (λ (n : Point) (ps : List Point). is_uneven tolerance n ps) turned-normal turned-places
      ∙ uneven-turned (get_or points a origin) (map (λ n. get_or points n origin) l) closed-places tolerance (normal here)

  turned-repeated : is_repeated (reverse (a ∷ l)) ≡ is_repeated (a ∷ l)
  unfolding is_repeated
  turned-repeated = any_two-turned (λ x y. eqb x y) (λ x y. eqb-sym x y) a l closed

  closed-turned : {e e' : Bool} → e' ≡ e → tests points (reverse (a ∷ l)) e' ≡ tests points (a ∷ l) e
  unfolding here
  closed-turned q = λ i. numbers (short-turned (a ∷ l) i) (unclosed-turned (a ∷ l) i) (turned-repeated i) (turned_zero i) (turned_crossed i) (q i)

-- a ring that is not open comes back to its first entry
pub comes_back : (a : ℕ) (l : List ℕ) → is_unclosed (a ∷ l) ≡ false → last_of a l ≡ a
unfolding is_unclosed
comes_back a l e = sym (eqb-true a (last_of a l) (not-false (eqb a (last_of a l)) e))

-- a sixth test matters to closed rings alone
tests-turned : (points : List Point) (r : List ℕ) (e e' : Bool) → (is_unclosed r ≡ false → e' ≡ e) → tests points (reverse r) e' ≡ tests points r e
unfolding is_short numbers first given
tests-turned points [] e e' h = refl
tests-turned points (a ∷ l) e e' h = go (is_unclosed (a ∷ l)) refl
  where
    go : (b : Bool) → is_unclosed (a ∷ l) ≡ b → tests points (reverse (a ∷ l)) e' ≡ tests points (a ∷ l) e
    go true q =
        tests-unclosed points (reverse (a ∷ l)) e' (unclosed-turned (a ∷ l) ∙ q)
        ∙ ap (λ (s : Bool). cond s 1 2) (short-turned (a ∷ l))
        ∙ sym (tests-unclosed points (a ∷ l) e q)
    go false q = closed-turned 0 points a l (comes_back a l q) (h q)

-- Turning never changes a finding's number.
pub number-turned : (tolerance : ℕ) (points : List Point) (r : List ℕ) → finding_number_of (finding tolerance points (reverse r)) ≡ finding_number_of (finding tolerance points r)
unfolding here
number-turned tolerance points r =
    number-rows tolerance points (reverse r)
    ∙ tests-turned points r _ _ (uneven-same r)
    ∙ sym (number-rows tolerance points r)
  where
    uneven-same : (r : List ℕ) → is_unclosed r ≡ false → is_uneven tolerance (normal (places points (reverse r))) (places points (reverse r)) ≡ is_uneven tolerance (normal (places points r)) (places points r)
    uneven-same [] q = refl
    uneven-same (a ∷ l) q = turned-uneven tolerance points a l (comes_back a l q)

-- nor by 01 to 05 alone
pub ring_number-turned : (points : List Point) (r : List ℕ) → finding_number_of (ring_finding points (reverse r)) ≡ finding_number_of (ring_finding points r)
ring_number-turned points r = ring_number-rows points (reverse r) ∙ tests-turned points r false false (λ q. refl) ∙ sym (ring_number-rows points r)

-- nor a finding that has no position
pub finding-turned : (tolerance : ℕ) (points : List Point) (r : List ℕ) → has_position_of (finding tolerance points r) ≡ false → finding tolerance points (reverse r) ≡ finding tolerance points r
finding-turned tolerance points r h = sym (number_same (finding tolerance points r) (finding tolerance points (reverse r)) h (sym (number-turned tolerance points r)))
