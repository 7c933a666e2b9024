-- The rings of a polygon that the tables hold, one by one: what the loop over them keeps.
use Prim.Native.Nat.{ℕ, zero, suc, ◌+◌, ◌*◌, ◌-◌, ◌≤◌, ◌<◌}
use Rattle.std.proofs.Common.{le_refl, ◌∙◌, inl, inr, length-drop, length-take-le, drop-drop, SFits, of_z, to_z, to_z-of_z}
use native.Mathlib.Omega.{arith}
use Rattle.std.proofs.Math.Decide.{dec_lt}
use Rattle.std.specs.Prelude.{◌≡◌, ◌⊎◌, ℤ, ◌+ℤ◌, length}
use Rattle.std.proofs.Math.Path.{refl, sym, ap, subst}
use mathlib.Core.List.{List, [], ◌∷◌, ◌++◌}
use Rattle.std.proofs.Math.IntN.{pos}
use Rattle.std.proofs.Math.ListN.{get_or, take, drop}
use Rattle.std.proofs.Math.Seq.{take-add}
use Rattle.std.specs.Int.{w64}
use Rattle.whole.specs.Lists.{first, sum_of}
use Rattle.whole.specs.All as all
use Rattle.whole.specs.All.{All}
use Rattle.whole.specs.held.Small.{Small}
use Rattle.whole.specs.held.Spans.{span}
use Rattle.whole.specs.laws.Alls.{all_append}
use Rattle.whole.specs.laws.Size.{small_zero, small_add, small_more, small_fits, small_back}
use Rattle.whole.specs.laws.Solve.{k, ◌⊕◌, ◌≔◌, ring}
use Rattle.space.specs.Space.{Point}
use Rattle.space.specs.held.Points.{points_of, Coords, Known}
use Rattle.ring.specs.Polygon.{one, all, rings_of, entries_from}
use Rattle.ring.specs.laws.Owners.{rings_are as rings-of-polygon}
use Rattle.ring.specs.held.Rings.{ring_at, polygon_of}
use Rattle.volume.specs.Part.{part as ringPart}
use Rattle.volume.specs.laws.PartSizes.{part_small}
use Rattle.even.specs.held.Offs.{Listed}
use Rattle.holes.specs.held.Rings.{Ring, Rings, Filled, Closings}
use Rattle.holes.specs.laws.Passes.{span-next, span_end}
use Rattle.holes.specs.laws.Tables.{rings-from}
use Rattle.polygon.specs.declared.Finding.{Finding}
use Rattle.polygon.specs.declared.Finding.TheVariants.{Sound}
use Rattle.polygon.specs.Ring.{ring_finding, finding_position_of}
use Rattle.polygon.specs.laws.Checks.{ring_closed}
use Rattle.polygon.specs.laws.Rows.{sound_or, ring_position_few}
use Rattle.inner.specs.Finding.{later, rings_rows, part}
use Rattle.inner.specs.held.Told.{Told}
use Rattle.inner.specs.laws.Rows.{rings_finding, ring_passes, ring_fails, all_pass, later_fault}
use Rattle.inner.proofs.laws.Kept.{all_get}

-- ---- where the rings stand
module _ {entries starts : List ℕ} where
  pub ring_length : (r : ℕ) → Ring entries starts r → length (ring_at entries starts r) ≡ get_or starts (r + 1) 0 - get_or starts r 0
  ring_length r h = length-take-le (get_or starts (r + 1) 0 - get_or starts r 0) (drop (get_or starts r 0) entries) (omega (arith, length-drop (get_or starts r 0) entries, h.entries-size, h.inside))

  module _ {from to : ℕ} (h : Rings entries starts from to) where
    order-by : (n : ℕ) → from + n ≤ to → get_or starts from 0 ≤ get_or starts (from + n) 0
    order-by zero l = let e : from ≡ from + 0 = omega arith in subst (λ (q : ℕ). get_or starts from 0 ≤ get_or starts q 0) e (le_refl (get_or starts from 0))
    order-by (suc n) l =
        let e : from + n + 1 ≡ from + suc n = omega arith in
        subst (λ (q : ℕ). get_or starts from 0 ≤ get_or starts q 0) e (omega (arith, order-by n (omega arith), (h.each (from + n) (omega arith) (omega arith)).forward))

    pub order : (q : ℕ) → from ≤ q → q ≤ to → get_or starts from 0 ≤ get_or starts q 0
    order q a b = let e : from + (q - from) ≡ q = omega arith in subst (λ (q : ℕ). get_or starts from 0 ≤ get_or starts q 0) e (order-by (q - from) (omega arith))

    pub start-few : (q : ℕ) → from < q → q ≤ to → get_or starts q 0 ≤ 1024
    start-few q a b = let e : q - 1 + 1 ≡ q = omega arith in subst (λ (n : ℕ). get_or starts n 0 ≤ 1024) e (h.each (q - 1) (omega arith) (omega arith)).inside

-- ---- the finding so far
module _ (points : List Point) (entries starts : List ℕ) (from to : ℕ) where
  -- what the rings from q on show by 01 to 05
  abbrev left : ℕ → Finding
  left q = rings_finding points (get_or starts q 0 - get_or starts from 0) (span (ring_at entries starts) q (to - q))

  pub record Looked (q : ℕ) (found : Finding) : Type 0 where
    pub low : from ≤ q
    pub still : found ≡ Sound → left q ≡ left from
    pub told : (found ≡ Sound → ⊥) → found ≡ left from

  pub looked_none : Looked from Sound
  looked_none = record { low = le_refl from; still = λ e. refl; told = λ h. absurd (h refl) }

  module _ (h : Rings entries starts from to) where
    module _ {q : ℕ} (a : from ≤ q) (b : q < to) where
      abbrev own : Finding
      own = ring_finding points (ring_at entries starts q)

      abbrev before : ℕ
      before = get_or starts q 0 - get_or starts from 0

      next-before : before + length (ring_at entries starts q) ≡ get_or starts (q + 1) 0 - get_or starts from 0
      next-before = omega (arith, ring_length q (h.each q a b), order h q a (omega arith), (h.each q a b).forward)

      pub passes : own ≡ Sound → left q ≡ left (q + 1)
      passes e =
          ap (rings_finding points before) (span-next (ring_at entries starts) q to b)
          ∙ ring_passes points before (ring_at entries starts q) (span (ring_at entries starts) (q + 1) (to - (q + 1))) e
          ∙ ap (λ (n : ℕ). rings_finding points n (span (ring_at entries starts) (q + 1) (to - (q + 1)))) next-before

      pub fails : (own ≡ Sound → ⊥) → left q ≡ later before own
      fails e =
          ap (rings_finding points before) (span-next (ring_at entries starts) q to b)
          ∙ ring_fails points before (ring_at entries starts q) (span (ring_at entries starts) (q + 1) (to - (q + 1))) e

      pub looked-more : {found f r : Finding} → Looked q found → f ≡ own → Told found f before r → Looked (q + 1) r
      unfolding later
      looked-more {found} {f} {r} l e t =
          record {
            low = omega arith;
            still = λ z. go-still z (sound_or found) (sound_or own);
            told = λ z. go-told z (sound_or found) (sound_or own);
          }
        where
          new : found ≡ Sound → r ≡ later before own
          new z = t.new z ∙ ap (later before) e

          go-still : r ≡ Sound → (found ≡ Sound) ⊎ (found ≡ Sound → ⊥) → (own ≡ Sound) ⊎ (own ≡ Sound → ⊥) → left (q + 1) ≡ left from
          go-still z (inl g) (inl s) = sym (passes s) ∙ l.still g
          go-still z (inl g) (inr s) = absurd (s (later_fault before own (sym (new g) ∙ z)))
          go-still z (inr g) s = absurd (g (sym (t.had g) ∙ z))

          later_sound : own ≡ Sound → later before own ≡ Sound
          later_sound s = ap (later before) s

          go-told : (r ≡ Sound → ⊥) → (found ≡ Sound) ⊎ (found ≡ Sound → ⊥) → (own ≡ Sound) ⊎ (own ≡ Sound → ⊥) → r ≡ left from
          go-told z (inl g) (inl s) = absurd (z (new g ∙ later_sound s))
          go-told z (inl g) (inr s) = new g ∙ sym (fails s) ∙ l.still g
          go-told z (inr g) s = t.had g ∙ l.told g

    pub looked-all : {q : ℕ} {found : Finding} → Looked q found → to ≤ q → found ≡ rings_finding points 0 (span (ring_at entries starts) from (to - from))
    unfolding rings_finding rings_rows first
    looked-all {q} {found} l e =
        let z : get_or starts from 0 - get_or starts from 0 ≡ 0 = omega arith in
        go (sound_or found) ∙ ap (λ (n : ℕ). rings_finding points n (span (ring_at entries starts) from (to - from))) z
      where
        none : left q ≡ Sound
        none = ap (rings_finding points (get_or starts q 0 - get_or starts from 0)) (span_end (ring_at entries starts) q to e)

        go : (found ≡ Sound) ⊎ (found ≡ Sound → ⊥) → found ≡ left from
        go (inl f) = f ∙ sym none ∙ l.still f
        go (inr f) = l.told f

-- ---- the sum so far
module _ {flat : List ℤ} (coords : Coords flat) {entries starts : List ℕ} {from to : ℕ} (h : Rings entries starts from to) where
  abbrev parts : ℕ → ℤ
  parts q = sum_of (ringPart (points_of flat)) (span (ring_at entries starts) q (to - q))

  -- with those of the rings from q on it is the whole; and as large at most as the entries that are passed allow
  pub record Summed (q : ℕ) (z : ℤ) : Type 0 where
    pub is : z +ℤ parts q ≡ parts from
    pub size : Small ((get_or starts q 0 - get_or starts from 0) * 6000000000000000) z

  pub summed_none : Summed from (pos 0)
  summed_none = record { is = none (parts from); size = small_zero }
    where
      none : (z : ℤ) → pos 0 +ℤ z ≡ z
      none = ring 1 (λ z. k (pos 0) ⊕ z ≔ z) tt

  module _ {q : ℕ} (a : from ≤ q) (b : q < to) {z y : ℤ} (s : Summed q z) (e : y ≡ ringPart (points_of flat) (ring_at entries starts q)) where
    grown : Small ((get_or starts (q + 1) 0 - get_or starts from 0) * 6000000000000000) (z +ℤ y)
    grown =
        small_more
        (wider (get_or starts q 0 - get_or starts from 0) (length (ring_at entries starts q)) (get_or starts (q + 1) 0 - get_or starts from 0) (omega (arith, ring_length q (h.each q a b), order h q a (omega arith), (h.each q a b).forward)))
        (small_add s.size (subst (λ (x : ℤ). Small ((length (ring_at entries starts q) - 1) * 6000000000000000) x) (sym e) (part_small coords (h.each q a b).known)))
      where
        wider : (m n l : ℕ) → m + n ≡ l → m * 6000000000000000 + (n - 1) * 6000000000000000 ≤ l * 6000000000000000
        wider m n l e = omega arith

    pub sum_fits : SFits w64 (z +ℤ y)
    sum_fits = small_fits {n = 6144000000000000000} tt (small_more (few (get_or starts (q + 1) 0) (get_or starts from 0) (h.each q a b).inside) grown)
      where
        few : (m n : ℕ) → m ≤ 1024 → (m - n) * 6000000000000000 ≤ 6144000000000000000
        few m n e = omega arith

    pub summed_more : Summed (q + 1) (to_z w64 (of_z w64 (z +ℤ y)))
    unfolding sum_of
    summed_more = subst (Summed (q + 1)) (sym (to_z-of_z sum_fits)) (record { is = carried ∙ s.is; size = grown })
      where
        assoc : (x y z : ℤ) → (x +ℤ y) +ℤ z ≡ x +ℤ (y +ℤ z)
        assoc = ring 3 (λ x y z. (x ⊕ y) ⊕ z ≔ x ⊕ (y ⊕ z)) tt

        carried : (z +ℤ y) +ℤ parts (q + 1) ≡ z +ℤ parts q
        carried =
            assoc z y (parts (q + 1))
            ∙ ap (λ (x : ℤ). z +ℤ (x +ℤ parts (q + 1))) e
            ∙ ap (λ (l : List (List ℕ)). z +ℤ sum_of (ringPart (points_of flat)) l) (sym (span-next (ring_at entries starts) q to b))

  pub summed_all : {q : ℕ} {z : ℤ} → Summed q z → to ≤ q → z ≡ parts from
  unfolding sum_of
  summed_all {q} {z} s e = sym (ap (λ (l : List (List ℕ)). z +ℤ sum_of (ringPart (points_of flat)) l) (span_end (ring_at entries starts) q to e) ∙ none z) ∙ s.is
    where
      none : (z : ℤ) → z +ℤ pos 0 ≡ z
      none = ring 1 (λ z. z ⊕ k (pos 0) ≔ z) tt

-- ---- a ring's own finding as it is kept
pub own_few : (points : List Point) (ring : List ℕ) {f : Finding} → Known ring → f ≡ ring_finding points ring → finding_position_of f ≤ 128
own_few points ring h e = omega (arith, h.few, ring_position_few points ring, ap finding_position_of e)

pub own-part : {flat : List ℤ} {ring : List ℕ} → Coords flat → Known ring → {r : ℤ} → r ≡ ringPart (points_of flat) ring → to_z w64 (of_z w64 r) ≡ ringPart (points_of flat) ring
own-part {flat} {ring} c h {r} e = small_back w64 {n = 768000000000000000} tt (subst (λ (x : ℤ). Small 768000000000000000 x) (sym e) (small_more (few (length ring) h.few) (part_small c h))) ∙ e
  where
    few : (n : ℕ) → n ≤ 128 → (n - 1) * 6000000000000000 ≤ 768000000000000000
    few n l = omega arith

-- ---- the polygon of the rings `from` up to `to`
module _ {entries starts : List ℕ} {from to : ℕ} (h : Rings entries starts from to) (some : from < to) where
  pub rings_are : span (ring_at entries starts) from (to - from) ≡ rings_of (polygon_of entries starts from to)
  rings_are = sym (rings-of-polygon entries starts from to some)

  -- where there is one ring
  pub one_is : to ≡ from + 1 → polygon_of entries starts from to ≡ one (ring_at entries starts from)
  unfolding one span
  one_is e = let z : to - from - 1 ≡ 0 = omega arith in ap (λ (n : ℕ). record { outer = ring_at entries starts from; inner = span (ring_at entries starts) (from + 1) n }) z

  -- ---- its entries stand one after another
  stand : (n q : ℕ) → from ≤ q → q + n ≡ to → take (get_or starts to 0 - get_or starts q 0) (drop (get_or starts q 0) entries) ≡ all (λ r. r) (span (ring_at entries starts) q n)
  unfolding span all
  stand zero q a e =
      let z : q ≡ to = omega arith in
      let y : get_or starts to 0 - get_or starts to 0 ≡ 0 = omega arith in
      ap (λ (p : ℕ). take (get_or starts to 0 - get_or starts p 0) (drop (get_or starts p 0) entries)) z ∙ ap (λ (m : ℕ). take m (drop (get_or starts to 0) entries)) y
  stand (suc n) q a e =
      let s = get_or starts q 0 in
      let t = get_or starts (q + 1) 0 in
      let f = (h.each q a (omega arith)).forward in
      let g = order (rings-from h (q + 1) (omega arith)) to (omega arith) (le_refl to) in
      let y : get_or starts to 0 - s ≡ (t - s) + (get_or starts to 0 - t) = omega (arith, f, g) in
      let z : s + (t - s) ≡ t = omega (arith, f) in
      ap (λ (m : ℕ). take m (drop s entries)) y
      ∙ take-add (t - s) (get_or starts to 0 - t) (drop s entries)
      ∙ ap (λ (l : List ℕ). ring_at entries starts q ++ take (get_or starts to 0 - t) l) (drop-drop (t - s) s entries ∙ ap (λ (m : ℕ). drop m entries) z)
      ∙ ap (λ (l : List ℕ). ring_at entries starts q ++ l) (stand n (q + 1) (omega arith) (omega arith))

  pub entries_are : take (get_or starts to 0 - get_or starts from 0) (drop (get_or starts from 0) entries) ≡ entries_from (polygon_of entries starts from to)
  unfolding entries_from
  entries_are = let e : from + (to - from) ≡ to = omega arith in stand (to - from) from (le_refl from) e ∙ ap (all (λ r. r)) rings_are

  pub entries-count : length (entries_from (polygon_of entries starts from to)) ≡ get_or starts to 0 - get_or starts from 0
  entries-count =
      let l = order h to (omega arith) (le_refl to) in
      let f = start-few h to some (le_refl to) in
      sym (ap length entries_are)
      ∙ length-take-le (get_or starts to 0 - get_or starts from 0) (drop (get_or starts from 0) entries) (omega (arith, length-drop (get_or starts from 0) entries, (h.each from (le_refl from) some).entries-size))

  -- each is the number of a point
  of_get : (l : List ℕ) → ((i : ℕ) → i < length l → get_or l i 0 < 512) → All (λ (e : ℕ). e < 512) l
  of_get [] g = all.none
  of_get (e ∷ l) g = all.more (g 0 (omega arith)) (of_get l (λ i b. g (suc i) (omega arith)))

  each_known : (n q : ℕ) → from ≤ q → q + n ≡ to → All (λ (e : ℕ). e < 512) (all (λ r. r) (span (ring_at entries starts) q n))
  unfolding span all
  each_known zero q a e = all.none
  each_known (suc n) q a e = all_append (of_get (ring_at entries starts q) (h.each q a (omega arith)).known.each) (each_known n (q + 1) (omega arith) (omega arith))

  pub entries-listed : Listed (take (get_or starts to 0 - get_or starts from 0) (drop (get_or starts from 0) entries))
  entries-listed =
      let e : from + (to - from) ≡ to = omega arith in
      let a = subst (All (λ (e : ℕ). e < 512)) (sym (stand (to - from) from (le_refl from) e)) (each_known (to - from) from (le_refl from) e) in
      record { each = all_get 512 a }

  pub entries-some : 1 ≤ length (ring_at entries starts from) → 1 ≤ length (take (get_or starts to 0 - get_or starts from 0) (drop (get_or starts from 0) entries))
  entries-some l =
      let r = h.each from (le_refl from) some in
      let o = order (rings-from h (from + 1) (omega arith)) to (omega arith) (le_refl to) in
      subst (λ (n : ℕ). 1 ≤ n) (sym (ap length entries_are ∙ entries-count)) (omega (arith, ring_length from r, r.forward, o))

  -- ---- its part is as large at most as its entries allow
  module _ {flat : List ℤ} (coords : Coords flat) where
    sums-small : (n q : ℕ) → from ≤ q → q + n ≡ to → Small ((get_or starts to 0 - get_or starts q 0) * 6000000000000000) (sum_of (ringPart (points_of flat)) (span (ring_at entries starts) q n))
    unfolding span sum_of
    sums-small zero q a e = small_zero
    sums-small (suc n) q a e =
        let r = h.each q a (omega arith) in
        small_more
        (wider (get_or starts q 0) (get_or starts (q + 1) 0) (get_or starts to 0) (length (ring_at entries starts q)) (ring_length q r) r.forward (order (rings-from h (q + 1) (omega arith)) to (omega arith) (le_refl to)))
        (small_add (part_small coords r.known) (sums-small n (q + 1) (omega arith) (omega arith)))
      where
        wider : (s t l m : ℕ) → m ≡ t - s → s ≤ t → t ≤ l → (m - 1) * 6000000000000000 + (l - t) * 6000000000000000 ≤ (l - s) * 6000000000000000
        wider s t l m e f g = omega arith

    pub part-of-small : Small ((get_or starts to 0 - get_or starts from 0) * 6000000000000000) (part (points_of flat) (polygon_of entries starts from to))
    unfolding part
    part-of-small =
        let e : from + (to - from) ≡ to = omega arith in
        subst (λ (l : List (List ℕ)). Small ((get_or starts to 0 - get_or starts from 0) * 6000000000000000) (sum_of (ringPart (points_of flat)) l)) rings_are (sums-small (to - from) from (le_refl from) e)

    pub part-back : {r : ℤ} → r ≡ part (points_of flat) (polygon_of entries starts from to) → to_z w64 (of_z w64 r) ≡ part (points_of flat) (polygon_of entries starts from to)
    part-back {r} e =
        small_back w64 {n = 6144000000000000000} tt
        (subst (λ (x : ℤ). Small 6144000000000000000 x) (sym e) (small_more (few (get_or starts to 0) (get_or starts from 0) (start-few h to some (le_refl to))) part-of-small)) ∙ e
      where
        few : (m n : ℕ) → m ≤ 1024 → (m - n) * 6000000000000000 ≤ 6144000000000000000
        few m n e = omega arith

  -- ---- where no ring fails 01 to 05
  span_each : (P : List ℕ → Type 0) (n q : ℕ) → All P (span (ring_at entries starts) q n) → (r : ℕ) → q ≤ r → r < q + n → P (ring_at entries starts r)
  unfolding span
  span_each P zero q a r b c = absurd (omega arith)
  span_each P (suc n) q (all.more p a) r b c = go (dec_lt q r) (λ l. span_each P n (q + 1) a r (omega arith) (omega arith))
    where
      go : Dec (q < r) → (q < r → P (ring_at entries starts r)) → P (ring_at entries starts r)
      go (yes l) f = f l
      go (no l) f = let z : q ≡ r = omega arith in subst (λ (n : ℕ). P (ring_at entries starts n)) z p

  module _ (points : List Point) (e : rings_finding points 0 (rings_of (polygon_of entries starts from to)) ≡ Sound) where
    passes_at : (r : ℕ) → from ≤ r → r < to → ring_finding points (ring_at entries starts r) ≡ Sound
    passes_at r a b =
        span_each (λ l. ring_finding points l ≡ Sound) (to - from) from (subst (All (λ (l : List ℕ). ring_finding points l ≡ Sound)) (sym rings_are) (all_pass points 0 (rings_of (polygon_of entries starts from to)) e)) r a (omega arith)

    pub all-filled : Filled entries starts from to
    all-filled = record { each = λ r a b. omega (arith, (ring_closed points (ring_at entries starts r) (passes_at r a b)).0) }

    pub all_closed : Closings entries starts from to
    all_closed = record { each = λ r a b. (ring_closed points (ring_at entries starts r) (passes_at r a b)).1 }
