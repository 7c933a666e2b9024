-- Turning every ring leaves the finding's number, and negates the part where all rings are closed.
use Rattle.std.specs.Prelude.{ℕ, ◌+◌, ◌≤◌, ◌≡◌, Bool, true, ◌||◌, ◌⊎◌, ℤ, neg_ℤ, ◌+ℤ◌, length}
use Rattle.std.proofs.Common.{arith, ap₂, ◌∙◌, inl, inr}
use Rattle.std.proofs.Math.Path.{refl, sym, ap}
use Rattle.std.proofs.Math.Bool.{false}
use mathlib.Core.List.{List, [], ◌∷◌, ◌++◌, map, reverse}
use Rattle.std.proofs.Math.ListN.{get_or, length-reverse}
use Rattle.whole.specs.Lists.{given, first, any, steps, sum_of}
use Rattle.whole.specs.All as all
use Rattle.whole.specs.All.{All}
use Rattle.whole.specs.laws.Alls.{all_imp}
use Rattle.whole.specs.held.Rows.{rows}
use Rattle.whole.specs.laws.Reverse.{any-reverse}
use Rattle.whole.specs.laws.Solve.{◌⊕◌, ⊝◌, ring, ◌≔◌}
use Rattle.space.specs.declared.Axis.{Axis}
use Rattle.space.specs.declared.Axis.TheVariants.{X, Y, Z}
use Rattle.space.specs.Space.{Point, origin, relative_to, dot, places}
use Rattle.plane.specs.Plane.{largest_axis_of}
use Rattle.ring.specs.Entries.{is_unclosed}
use Rattle.ring.specs.Polygon.{Polygon, rings_of, entries_from, turned_over, all}
use Rattle.normal.specs.Normal.{relative, normal}
use Rattle.even.specs.Even.{exceeds, is_uneven}
use Rattle.volume.specs.Part.{part as ringPart}
use Rattle.volume.specs.laws.Turn.{part_turned, first_of, first-reverse_aux}
use Rattle.holes.specs.Holes.{seen, component, component_of, is_shared, is_misplaced_of}
use Rattle.holes.proofs.laws.Turned.{shared-over, misplaced-over}
use Rattle.holes.specs.laws.Some.{any-map}
use Rattle.polygon.specs.declared.Finding.TheVariants.{Sound, Uneven, Shared, Misplaced}
use Rattle.polygon.specs.Ring.{ring_finding, finding_number_of}
use Rattle.polygon.specs.held.Position.{has_position_of}
use Rattle.polygon.specs.laws.Checks.{ring_closed}
use Rattle.polygon.specs.laws.Position.{number_same}
use Rattle.polygon.specs.laws.Rows.{sound_or}
use Rattle.polygon.specs.laws.TurnFinding.{opposite, map-reverse, here, turned-normal, relative-first, largest_axis-opposite, ring_number-turned, comes_back, exceeds-opposite}
use Rattle.inner.proofs.laws.Kept.{places_append}
use Rattle.inner.specs.Finding.{rings_rows, finding, part}
use Rattle.inner.specs.laws.Rows.{rings_finding, ring_passes, ring_fails, all_pass, later-number, fault_number, number_fault}
use Rattle.inner.specs.held.LastChecks.{last_checks}
use Rattle.inner.proofs.laws.Checks.{finding-early, finding_late}

-- ---- 01 to 05
-- a ring that passes passes when it is turned
same_sound : (points : List Point) (r : List ℕ) → ring_finding points r ≡ Sound → ring_finding points (reverse r) ≡ Sound
unfolding finding_number_of
same_sound points r e = go (sound_or (ring_finding points (reverse r)))
  where
    go : (ring_finding points (reverse r) ≡ Sound) ⊎ (ring_finding points (reverse r) ≡ Sound → ⊥) → ring_finding points (reverse r) ≡ Sound
    go (inl h) = h
    go (inr h) = absurd (fault_number (ring_finding points (reverse r)) h (ring_number-turned points r ∙ ap finding_number_of e))

same_fault : (points : List Point) (r : List ℕ) → (ring_finding points r ≡ Sound → ⊥) → ring_finding points (reverse r) ≡ Sound → ⊥
same_fault points r h = number_fault (ring_finding points (reverse r)) (λ z. fault_number (ring_finding points r) h (sym (ring_number-turned points r) ∙ z))

rings-turned : (points : List Point) (before before' : ℕ) (rs : List (List ℕ)) → finding_number_of (rings_finding points before (map reverse rs)) ≡ finding_number_of (rings_finding points before' rs)
unfolding rings_finding rings_rows
rings-turned points before before' [] = refl
rings-turned points before before' (r ∷ rs) = go (sound_or (ring_finding points r)) (rings-turned points (before + length (reverse r)) (before' + length r) rs)
  where
    go : (ring_finding points r ≡ Sound) ⊎ (ring_finding points r ≡ Sound → ⊥)
        → finding_number_of (rings_finding points (before + length (reverse r)) (map reverse rs)) ≡ finding_number_of (rings_finding points (before' + length r) rs)
        → finding_number_of (rings_finding points before (map reverse (r ∷ rs))) ≡ finding_number_of (rings_finding points before' (r ∷ rs))
    go (inl h) ih = ap finding_number_of (ring_passes points before (reverse r) (map reverse rs) (same_sound points r h)) ∙ ih ∙ ap finding_number_of (sym (ring_passes points before' r rs h))
    go (inr h) ih =
        ap finding_number_of (ring_fails points before (reverse r) (map reverse rs) (same_fault points r h))
        ∙ later-number before (ring_finding points (reverse r))
        ∙ ring_number-turned points r
        ∙ sym (later-number before' (ring_finding points r))
        ∙ ap finding_number_of (sym (ring_fails points before' r rs h))

-- ---- 06, of all entries
any_append : {A : Type 0} (t : A → Bool) (l m : List A) → any t (l ++ m) ≡ (any t l || any t m)
unfolding any
any_append t [] m = refl
any_append t (x ∷ l) m = go (t x) (any_append t l m)
  where
    go : (b : Bool) → any t (l ++ m) ≡ (any t l || any t m) → (elim b [ true ↦ true | false ↦ any t (l ++ m) ]) ≡ ((elim b [ true ↦ true | false ↦ any t l ]) || any t m)
    go true ih = refl
    go false ih = ih

places-turned : (points : List Point) (r : List ℕ) → places points (reverse r) ≡ reverse (places points r)
unfolding places
places-turned points r = map-reverse (λ n. get_or points n origin) r

-- a test holds of some entry's place, whichever way the rings go
some-turned : (points : List Point) (t : Point → Bool) (rs : List (List ℕ)) → any t (places points (all (λ r. r) (map reverse rs))) ≡ any t (places points (all (λ r. r) rs))
unfolding all
some-turned points t [] = refl
some-turned points t (r ∷ rs) =
    ap (any t) (places_append points (reverse r) (all (λ r. r) (map reverse rs)))
    ∙ any_append t (places points (reverse r)) (places points (all (λ r. r) (map reverse rs)))
    ∙ ap₂ ◌||◌ (ap (any t) (places-turned points r) ∙ any-reverse t (places points r)) (some-turned points t rs)
    ∙ sym (any_append t (places points r) (places points (all (λ r. r) rs)))
    ∙ ap (any t) (sym (places_append points r (all (λ r. r) rs)))

-- 06 is measured from one place
uneven-from : (tolerance : ℕ) (n : Point) (ps : List Point) → is_uneven tolerance n ps ≡ any (λ q. exceeds tolerance n (dot n (relative_to (first_of origin ps) q))) ps
unfolding is_uneven
uneven-from tolerance n ps = ap (any (λ q. exceeds tolerance n (dot n q))) (relative-first ps) ∙ any-map (λ q. exceeds tolerance n (dot n q)) (relative_to (first_of origin ps)) ps

-- the first entry's
first-place : (points : List Point) (l m : List ℕ) → 1 ≤ length l → first_of origin (places points (l ++ m)) ≡ get_or points (first_of 0 l) origin
unfolding places first_of
first-place points [] m h = absurd (omega arith)
first-place points (a ∷ l) m h = refl

-- ---- a polygon whose rings all pass 01 to 05
passing : (points : List Point) (rs : List (List ℕ)) → All (λ (r : List ℕ). ring_finding points r ≡ Sound) rs → All (λ (r : List ℕ). is_unclosed r ≡ false) rs
passing points rs a = all_imp (λ r e. (ring_closed points r e).1) a

module _ (points : List Point) where
  component-opposite : (axis : Axis) (n : Point) → component axis (opposite n) ≡ neg_ℤ (component axis n)
  unfolding component opposite
  component-opposite X n = refl
  component-opposite Y n = refl
  component-opposite Z n = refl

  normal-over : (r : List ℕ) → is_unclosed r ≡ false → normal (places points (reverse r)) ≡ opposite (normal (places points r))
  unfolding here opposite normal steps relative places origin
  normal-over [] e = refl
  normal-over (a ∷ l) e = turned-normal 0 points a l (comes_back a l e)

  component-turned : (axis : Axis) (r : List ℕ) → is_unclosed r ≡ false → component_of axis points (reverse r) ≡ neg_ℤ (component_of axis points r)
  unfolding component_of
  component-turned axis r e = ap (component axis) (normal-over r e) ∙ component-opposite axis (normal (places points r))

module _ (tolerance : ℕ) (points : List Point) (p : Polygon) (pass : All (λ (r : List ℕ). ring_finding points r ≡ Sound) (rings_of p)) where
  outer_pass : ring_finding points p.outer ≡ Sound
  unfolding rings_of
  outer_pass = go pass
    where
      go : All (λ (r : List ℕ). ring_finding points r ≡ Sound) (p.outer ∷ p.inner) → ring_finding points p.outer ≡ Sound
      go (all.more q a) = q

  inner-closed : All (λ (r : List ℕ). is_unclosed r ≡ false) p.inner
  unfolding rings_of
  inner-closed = go (passing points (rings_of p) pass)
    where
      go : All (λ (r : List ℕ). is_unclosed r ≡ false) (p.outer ∷ p.inner) → All (λ (r : List ℕ). is_unclosed r ≡ false) p.inner
      go (all.more q a) = a

  abbrev n : Point
  n = normal (places points p.outer)

  n-over : normal (places points (reverse p.outer)) ≡ opposite n
  n-over = normal-over points p.outer (ring_closed points p.outer outer_pass).1

  axis-over : largest_axis_of (normal (places points (reverse p.outer))) ≡ largest_axis_of n
  axis-over = ap largest_axis_of n-over ∙ largest_axis-opposite n

  -- the first entry of all is the same
  first-over : first_of origin (places points (entries_from (turned_over p))) ≡ first_of origin (places points (entries_from p))
  unfolding entries_from turned_over rings_of all first_of
  first-over =
      let h = ring_closed points p.outer outer_pass in
      first-place points (reverse p.outer) (all (λ r. r) (map reverse p.inner)) (omega (arith, h.0, length-reverse p.outer))
      ∙ ap (λ (e : ℕ). get_or points e origin) (ends p.outer h.1)
      ∙ sym (first-place points p.outer (all (λ r. r) p.inner) (omega (arith, h.0)))
    where
      ends : (r : List ℕ) → is_unclosed r ≡ false → first_of 0 (reverse r) ≡ first_of 0 r
      ends [] e = refl
      ends (a ∷ l) e = first-reverse_aux 0 l a [] ∙ comes_back a l e

  uneven-over : is_uneven tolerance (normal (places points (reverse p.outer))) (places points (entries_from (turned_over p))) ≡ is_uneven tolerance n (places points (entries_from p))
  unfolding entries_from turned_over rings_of
  uneven-over =
      uneven-from tolerance (normal (places points (reverse p.outer))) (places points (entries_from (turned_over p)))
      ∙ (λ i. any (λ q. exceeds tolerance (n-over i) (dot (n-over i) (relative_to (first-over i) q))) (places points (entries_from (turned_over p))))
      ∙ (λ i. any (λ q. exceeds-opposite tolerance n (relative_to (first_of origin (places points (entries_from p))) q) i) (places points (entries_from (turned_over p))))
      ∙ some-turned points (λ q. exceeds tolerance n (dot n (relative_to (first_of origin (places points (entries_from p))) q))) (rings_of p)
      ∙ sym (uneven-from tolerance n (places points (entries_from p)))

  shared_same : is_shared (map (seen (largest_axis_of (normal (places points (reverse p.outer)))) points) (rings_of (turned_over p))) ≡ is_shared (map (seen (largest_axis_of n) points) (rings_of p))
  shared_same = ap (λ (x : Axis). is_shared (map (seen x points) (rings_of (turned_over p)))) axis-over ∙ shared-over (largest_axis_of n) points p

  misplaced-same : let m = normal (places points (reverse p.outer)) in
      is_misplaced_of (seen (largest_axis_of m) points (reverse p.outer)) (map (seen (largest_axis_of m) points) (map reverse p.inner)) (component (largest_axis_of m) m) (map (component_of (largest_axis_of m) points) (map reverse p.inner))
      ≡ is_misplaced_of (seen (largest_axis_of n) points p.outer) (map (seen (largest_axis_of n) points) p.inner) (component (largest_axis_of n) n) (map (component_of (largest_axis_of n) points) p.inner)
  unfolding turned_over
  misplaced-same =
      let x = largest_axis_of n in
      (λ i. is_misplaced_of (seen (axis-over i) points (reverse p.outer)) (map (seen (axis-over i) points) (map reverse p.inner)) (component (axis-over i) (n-over i)) (map (component_of (axis-over i) points) (map reverse p.inner)))
      ∙ ap (λ (c : ℤ). is_misplaced_of (seen x points (reverse p.outer)) (map (seen x points) (map reverse p.inner)) c (map (component_of x points) (map reverse p.inner))) (component-opposite points x n)
      ∙ misplaced-over x points p (component x n) (all_imp (component-turned points x) inner-closed)

-- ---- the number
-- of three rows, which the position does not change
numbers : Bool → Bool → Bool → ℕ
numbers u s m = first 0 (given u 6 ∷ given s 14 ∷ given m 15 ∷ [])

numbers_are : (u : Bool) (i : ℕ) (s m : Bool) → finding_number_of (first Sound (given u (Uneven i) ∷ given s Shared ∷ given m Misplaced ∷ [])) ≡ numbers u s m
unfolding numbers first given finding_number_of
numbers_are true i s m = refl
numbers_are false i true m = refl
numbers_are false i false true = refl
numbers_are false i false false = refl

late_number : (tolerance : ℕ) (points : List Point) (p : Polygon) → let n = normal (places points p.outer) in let axis = largest_axis_of n in
    finding_number_of (first Sound (rows (last_checks tolerance points p)))
    ≡ numbers (is_uneven tolerance n (places points (entries_from p))) (is_shared (map (seen axis points) (rings_of p))) (is_misplaced_of (seen axis points p.outer) (map (seen axis points) p.inner) (component axis n) (map (component_of axis points) p.inner))
unfolding last_checks rows
late_number tolerance points p = numbers_are _ _ _ _

-- "Turn reverses every ring": no finding's number changes
pub turned-number : (tolerance : ℕ) (points : List Point) (p : Polygon) → finding_number_of (finding tolerance points (turned_over p)) ≡ finding_number_of (finding tolerance points p)
unfolding turned_over rings_of finding_number_of
turned-number tolerance points p = go (sound_or (rings_finding points 0 (rings_of p))) (sound_or (rings_finding points 0 (rings_of (turned_over p))))
  where
    same : finding_number_of (rings_finding points 0 (rings_of (turned_over p))) ≡ finding_number_of (rings_finding points 0 (rings_of p))
    same = rings-turned points 0 0 (rings_of p)

    go : (rings_finding points 0 (rings_of p) ≡ Sound) ⊎ (rings_finding points 0 (rings_of p) ≡ Sound → ⊥) → (rings_finding points 0 (rings_of (turned_over p)) ≡ Sound) ⊎ (rings_finding points 0 (rings_of (turned_over p)) ≡ Sound → ⊥)
        → finding_number_of (finding tolerance points (turned_over p)) ≡ finding_number_of (finding tolerance points p)
    go (inl e) (inl f) =
        let pass = all_pass points 0 (rings_of p) e in
        ap finding_number_of (finding_late tolerance points (turned_over p) f)
        ∙ late_number tolerance points (turned_over p)
        ∙ (λ i. numbers (uneven-over tolerance points p pass i) (shared_same tolerance points p pass i) (misplaced-same tolerance points p pass i))
        ∙ sym (late_number tolerance points p)
        ∙ ap finding_number_of (sym (finding_late tolerance points p e))
    go (inl e) (inr f) = absurd (fault_number (rings_finding points 0 (rings_of (turned_over p))) f (same ∙ ap finding_number_of e))
    go (inr e) (inl f) = absurd (fault_number (rings_finding points 0 (rings_of p)) e (sym same ∙ ap finding_number_of f))
    go (inr e) (inr f) = ap finding_number_of (finding-early tolerance points (turned_over p) f) ∙ same ∙ ap finding_number_of (sym (finding-early tolerance points p e))

-- nor a finding that has no position
pub turned-finding : (tolerance : ℕ) (points : List Point) (p : Polygon) → has_position_of (finding tolerance points p) ≡ false → finding tolerance points (turned_over p) ≡ finding tolerance points p
turned-finding tolerance points p h = sym (number_same (finding tolerance points p) (finding tolerance points (turned_over p)) h (sym (turned-number tolerance points p)))

-- ---- the part
parts-turned : (points : List Point) (rs : List (List ℕ)) → All (λ (r : List ℕ). is_unclosed r ≡ false) rs → sum_of (ringPart points) (map reverse rs) ≡ neg_ℤ (sum_of (ringPart points) rs)
unfolding sum_of
parts-turned points [] all.none = refl
parts-turned points (r ∷ rs) (all.more q a) = ap₂ ◌+ℤ◌ (part_turned points r q) (parts-turned points rs a) ∙ both (ringPart points r) (sum_of (ringPart points) rs)
  where
    both : (x y : ℤ) → neg_ℤ x +ℤ neg_ℤ y ≡ neg_ℤ (x +ℤ y)
    both = ring 2 (λ x y. ⊝ x ⊕ ⊝ y ≔ ⊝ (x ⊕ y)) tt

-- it changes sign where every ring is closed
pub turned_part_lem : (points : List Point) (p : Polygon) → All (λ (r : List ℕ). is_unclosed r ≡ false) (rings_of p) → part points (turned_over p) ≡ neg_ℤ (part points p)
unfolding part turned_over rings_of
turned_part_lem points p closed = parts-turned points (rings_of p) closed
