-- Check 06, entry by entry.
use Prim.Native.Nat.{ℕ, zero, suc, ◌+◌, ◌*◌, ◌-◌, ◌≤◌, ◌<◌}
use native.Mathlib.Nat.{le_trans, le_of_eq, zero-add}
use native.Mathlib.Decide.{dec_le}
use native.Mathlib.Omega.{arith}
use mathlib.Core.Path.{◌≡◌, sym, ap, ap₂, ◌∙◌, subst}
use mathlib.Core.Bool.{Bool, true, false}
use mathlib.Core.List.{List}
use borrow.Author.Tests.{ltb-false}
use lib.Dec.{ltb}
use lib.ListN.{length, get_or, drop, length-map}
use lib.IntN.{ℤ, pos, ◌*ℤ◌}
use Rattle.whole.specs.Lists.{least_index}
use Rattle.whole.specs.laws.Index.{index_here, index_next, index_end}
use Rattle.whole.specs.laws.Places.{map_at}
use Rattle.space.specs.Space.{Point, origin, relative_to, dot, places}
use Rattle.ring.specs.Entries.{is_unclosed}
use Rattle.normal.specs.Normal.{relative, normal}
use Rattle.even.specs.Even.{square, squares, exceeds, is_uneven, uneven_at}
use Rattle.even.proofs.laws.Quad.{quad_uneven}
use Rattle.space.specs.held.Points.{points_of, place_at, Coords, Known}
use Rattle.even.specs.held.Offs.{largest, Listed, off_at, Within}
use Rattle.space.specs.laws.Sizes.{point_at}
use Rattle.even.proofs.laws.Distance.{decides, settled, far}
use Rattle.even.proofs.laws.Least.{relative-length, relative-at, uneven_is, uneven-least}

-- ---- the places of a ring, relative to its first
pub ways : List Point → List ℕ → List Point
ways points ring = relative (places points ring)

ways_length : (points : List Point) (ring : List ℕ) → length (ways points ring) ≡ length ring
unfolding ways places
ways_length points ring = relative-length (places points ring) ∙ length-map ring (λ n. get_or points n origin)

ways_at : (points : List Point) (ring : List ℕ) (i : ℕ) → i < length ring → get_or (ways points ring) i origin ≡ relative_to (get_or points (get_or ring 0 0) origin) (get_or points (get_or ring i 0) origin)
unfolding ways places
ways_at points ring i h =
    relative-at (places points ring) i (omega (arith, length-map ring (λ n. get_or points n origin)))
    ∙ ap₂ relative_to (map_at (λ n. get_or points n origin) ring 0 0 origin (omega arith)) (map_at (λ n. get_or points n origin) ring i 0 origin h)

-- none of the first i entries is too far off
pub record Even (tolerance : ℕ) (n : Point) (flat : List ℤ) (ring : List ℕ) (i : ℕ) : Type 0 where
  pub upto : i ≤ length ring
  pub rest : i + least_index (far tolerance n) (drop i (ways (points_of flat) ring)) ≡ uneven_at tolerance n (places (points_of flat) ring)

pub even_start : (tolerance : ℕ) (n : Point) (flat : List ℤ) (ring : List ℕ) → Even tolerance n flat ring 0
unfolding uneven_at ways
even_start tolerance n flat ring = record { upto = omega arith; rest = zero-add (uneven_at tolerance n (places (points_of flat) ring)) }

-- what is left begins with the entry that is looked for, or with one before it
stands : (i : ℕ) {x : ℕ} → x ≡ 0 → i ≡ i + x
stands i e = omega arith

onward : (i : ℕ) {x y : ℕ} → x ≡ suc y → i + 1 + y ≡ i + x
onward i e = omega arith

module _ {flat : List ℤ} {ring : List ℕ} (h : Coords flat) (k : Listed ring) (i : ℕ) (l : i < length ring) where
  inside : i < length (ways (points_of flat) ring)
  inside = omega (arith, ways_length (points_of flat) ring)

  way : relative_to (place_at flat (get_or ring 0 0)) (place_at flat (get_or ring i 0)) ≡ get_or (ways (points_of flat) ring) i origin
  way = (λ j. relative_to (sym (point_at h (get_or ring 0 0) (k.each 0 (omega arith))) j) (sym (point_at h (get_or ring i 0) (k.each i l)) j)) ∙ sym (ways_at (points_of flat) ring i l)

module _ (tolerance : ℕ) (n : Point) {flat : List ℤ} {ring : List ℕ} (h : Coords flat) (k : Listed ring) where
  pub even_end : {i : ℕ} → Even tolerance n flat ring i → i ≡ length ring → i ≡ uneven_at tolerance n (places (points_of flat) ring)
  even_end {i} e z = stands i (index_end (far tolerance n) (ways (points_of flat) ring) i (z ∙ sym (ways_length (points_of flat) ring))) ∙ e.rest

  module _ (i : ℕ) (l : i < length ring) (e : Even tolerance n flat ring i) where
    -- one entry on
    past : far tolerance n (get_or (ways (points_of flat) ring) i origin) ≡ false → Even tolerance n flat ring (i + 1)
    past t = record { upto = omega arith; rest = onward i (index_next (far tolerance n) (ways (points_of flat) ring) i origin (inside h k i l) t) ∙ e.rest }

    -- within the reach
    pub even-near : off_at flat n ring i ≤ tolerance * largest n → Even tolerance n flat ring (i + 1)
    even-near q = past (ap (far tolerance n) (sym (way h k i l)) ∙ settled tolerance n _ q)

    -- held against the limit
    module _ (v : ℕ) (f : pos v ≡ square (pos tolerance) *ℤ squares n) (r : Bool) (q : r ≡ ltb v (off_at flat n ring i * off_at flat n ring i)) where
      tells : r ≡ far tolerance n (get_or (ways (points_of flat) ring) i origin)
      tells = q ∙ decides tolerance n f _ ∙ ap (far tolerance n) (way h k i l)

      pub even-found : r ≡ true → i ≡ uneven_at tolerance n (places (points_of flat) ring)
      even-found t = stands i (index_here (far tolerance n) (ways (points_of flat) ring) i origin (inside h k i l) (sym tells ∙ t)) ∙ e.rest

      pub even-next : r ≡ false → Even tolerance n flat ring (i + 1)
      even-next t = past (sym tells ∙ t)

  -- past entries within the reach
  pub even_skip : {reach i j : ℕ} → Even tolerance n flat ring i → reach ≡ tolerance * largest n → Within flat n ring reach i j → Even tolerance n flat ring j
  even_skip {reach} {i} {j} e f w = subst (λ (m : ℕ). Even tolerance n flat ring m) (up w.start) (go (j - i) (omega (arith, w.start)))
    where
      up : i ≤ j → i + (j - i) ≡ j
      up h = omega arith

      none : (i : ℕ) → i ≡ i + 0
      none i = omega arith

      one : (i m : ℕ) → i + m + 1 ≡ i + suc m
      one i m = omega arith

      go : (m : ℕ) → i + m ≤ j → Even tolerance n flat ring (i + m)
      go zero q = subst (λ (x : ℕ). Even tolerance n flat ring x) (none i) e
      go (suc m) q = subst (λ (x : ℕ). Even tolerance n flat ring x) (one i m) (even-near (i + m) (omega (arith, w.upto)) (go m (omega arith)) (le_trans (w.each (i + m) (omega arith) (omega arith)) (le_of_eq f)))

-- ---- entries within a reach, one by one
pub within_none : (flat : List ℤ) (n : Point) (ring : List ℕ) (reach i : ℕ) → i ≤ length ring → Within flat n ring reach i i
within_none flat n ring reach i h = record { start = omega arith; upto = h; each = λ k p q. absurd (omega (arith, p, q)) }

pub within_more : {flat : List ℤ} {n : Point} {ring : List ℕ} {reach i j : ℕ} → Within flat n ring reach i j → j < length ring → off_at flat n ring j ≤ reach → Within flat n ring reach i (j + 1)
within_more {flat} {n} {ring} {reach} {i} {j} w l q = record { start = omega (arith, w.start); upto = omega arith; each = λ k p r. go k p r (dec_le (k + 1) j) }
  where
    last : (k : ℕ) → k < j + 1 → (k + 1 ≤ j → ⊥) → j ≡ k
    last k r f = omega arith

    go : (k : ℕ) → i ≤ k → k < j + 1 → Dec (k + 1 ≤ j) → off_at flat n ring k ≤ reach
    go k p r (yes g) = w.each k p (omega arith)
    go k p r (no f) = subst (λ (m : ℕ). off_at flat n ring m ≤ reach) (last k r f) q

-- of four corners, the second tells of all
bent_is : (tolerance : ℕ) {n : Point} {flat : List ℤ} {ring : List ℕ} → Coords flat → Known ring → length ring ≡ 5 → is_unclosed ring ≡ false → n ≡ normal (places (points_of flat) ring)
    → exceeds tolerance n (dot n (relative_to (place_at flat (get_or ring 0 0)) (place_at flat (get_or ring 1 0)))) ≡ is_uneven tolerance n (places (points_of flat) ring)
bent_is tolerance {n} {flat} {ring} h k five closed e =
    let way : relative_to (place_at flat (get_or ring 0 0)) (place_at flat (get_or ring 1 0)) ≡ relative_to (get_or (points_of flat) (get_or ring 0 0) origin) (get_or (points_of flat) (get_or ring 1 0) origin) =
    λ j. relative_to (sym (point_at h (get_or ring 0 0) (k.each 0 (omega arith))) j) (sym (point_at h (get_or ring 1 0) (k.each 1 (omega arith))) j)
    in
    ap (far tolerance n) way
    ∙ ap (λ (m : Point). far tolerance m (relative_to (get_or (points_of flat) (get_or ring 0 0) origin) (get_or (points_of flat) (get_or ring 1 0) origin))) e
    ∙ sym (quad_uneven (points_of flat) ring five closed tolerance)
    ∙ ap (λ (m : Point). is_uneven tolerance m (places (points_of flat) ring)) (sym e)

-- where it is not too far off, no entry is told
pub bent_none : (tolerance : ℕ) {n : Point} {flat : List ℤ} {ring : List ℕ} → Coords flat → Known ring → length ring ≡ 5 → is_unclosed ring ≡ false → n ≡ normal (places (points_of flat) ring)
    → exceeds tolerance n (dot n (relative_to (place_at flat (get_or ring 0 0)) (place_at flat (get_or ring 1 0)))) ≡ false → 5 ≡ uneven_at tolerance n (places (points_of flat) ring)
unfolding places
bent_none tolerance {n} {flat} {ring} h k five closed e t =
    let ps = places (points_of flat) ring in
    let m : length ps ≡ 5 = length-map ring (λ p. get_or (points_of flat) p origin) ∙ five in
    let w = (uneven-least tolerance n ps).within in
    let f = ltb-false (uneven_at tolerance n ps) (length ps) (sym (uneven_is tolerance n ps) ∙ sym (bent_is tolerance h k five closed e) ∙ t) in
    omega arith
