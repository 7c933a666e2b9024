-- 03 and 05 in the ring that fails first, where it is known which of the two is the finding: a ring in which it is met nowhere passes.
use Rattle.std.specs.Prelude.{ℕ, ◌+◌, ◌-◌, ◌≤◌, ◌<◌, ◌≡◌, refl, Bool, List, [], ◌∷◌, ◌⊎◌, get_or}
use native.Mathlib.Omega.{arith}
use Rattle.std.proofs.Common.{sym, ◌∙◌, true≢false, inl, inr}
use Rattle.std.proofs.Math.Path.{ap, subst}
use Rattle.std.proofs.Math.Bool.{true, false, cond}
use borrow.Author.Tests.{eq-eqb, ne_eqb, ltb-true, ltb-false}
use Rattle.std.proofs.Math.ListN.{length}
use Rattle.whole.specs.Lists.{given, first}
use Rattle.whole.specs.All.{more}
use Rattle.whole.specs.held.Spans.{span}
use Rattle.whole.proofs.laws.First.{NoneGiven}
use Rattle.space.specs.Space.{Point, places}
use Rattle.plane.specs.Plane.{Segment, largest_axis_of}
use Rattle.ring.specs.Entries.{is_unclosed, is_repeated, repeated_at}
use Rattle.ring.specs.laws.Repeated.{repeated_is}
use Rattle.ring.specs.held.Rings.{ring_at}
use Rattle.normal.specs.Normal.{normal, is_zero_of}
use Rattle.crossing.specs.Crossed.{is_crossed, crossed_at}
use Rattle.crossing.proofs.laws.Least.{crossed_is}
use Rattle.holes.specs.held.Rings.{Rings}
use Rattle.holes.specs.laws.Passes.{span_end}
use Rattle.polygon.specs.declared.Finding.{Finding}
use Rattle.polygon.specs.declared.Finding.TheVariants.{Sound, Short, Unclosed, Repeated, NoNormal, Crossed, Uneven, Shared, Misplaced}
use Rattle.polygon.specs.Ring.{is_short, edges_in, ring_rows, ring_finding, finding_number_of, finding_position_of}
use Rattle.polygon.specs.held.Position.{has_position_of}
use Rattle.polygon.specs.laws.Checks.{ring_checks, ring_exactly, ring_closed}
use Rattle.polygon.specs.laws.Position.{edges-length}
use Rattle.polygon.specs.laws.Rows.{sound_or}
use Rattle.inner.specs.Finding.{later, rings_rows}
use Rattle.inner.specs.held.Told.{met_at}
use Rattle.inner.specs.laws.Rows.{rings_finding, later-number}
use Rattle.inner.proofs.laws.Tables.{Looked, passes, fails}

-- ---- one ring
-- which test a finding of 03 or of 05 tells, and where
five_03 : (s u r : Bool) (i : ℕ) (n c : Bool) (j : ℕ) → let f = first Sound (given s Short ∷ given u Unclosed ∷ given r (Repeated i) ∷ given n NoNormal ∷ given c (Crossed j) ∷ []) in finding_number_of f ≡ 3 → (r ≡ true) × (finding_position_of f ≡ i)
unfolding first given finding_number_of finding_position_of
five_03 true u r i n c j e = absurd (omega arith)
five_03 false true r i n c j e = absurd (omega arith)
five_03 false false true i n c j e = (refl, refl)
five_03 false false false i true c j e = absurd (omega arith)
five_03 false false false i false true j e = absurd (omega arith)
five_03 false false false i false false j e = absurd (omega arith)

five_05 : (s u r : Bool) (i : ℕ) (n c : Bool) (j : ℕ) → let f = first Sound (given s Short ∷ given u Unclosed ∷ given r (Repeated i) ∷ given n NoNormal ∷ given c (Crossed j) ∷ []) in finding_number_of f ≡ 5 → (c ≡ true) × (finding_position_of f ≡ j)
unfolding first given finding_number_of finding_position_of
five_05 true u r i n c j e = absurd (omega arith)
five_05 false true r i n c j e = absurd (omega arith)
five_05 false false true i n c j e = absurd (omega arith)
five_05 false false false i true c j e = absurd (omega arith)
five_05 false false false i false true j e = (refl, refl)
five_05 false false false i false false j e = absurd (omega arith)

module _ (points : List Point) (ring : List ℕ) where
  abbrev es : List Segment
  es = edges_in (largest_axis_of (normal (places points ring))) (places points ring)

  abbrev own : Finding
  own = ring_finding points ring

  -- the two checks by their numbers
  pub at_03 : {k : ℕ} → k ≡ 3 → repeated_at ring ≡ met_at k points ring
  unfolding met_at
  at_03 {k} e = ap (λ (b : Bool). cond b (repeated_at ring) (crossed_at es)) (sym (eq-eqb k 3 e))

  pub at_05 : {k : ℕ} → (k ≡ 3 → ⊥) → crossed_at es ≡ met_at k points ring
  unfolding met_at
  at_05 {k} e = ap (λ (b : Bool). cond b (repeated_at ring) (crossed_at es)) (sym (ne_eqb k 3 e))

  -- it is met before the last edge
  met_03 : finding_number_of own ≡ 3 → (repeated_at ring + 1 < length ring) × (finding_position_of own ≡ repeated_at ring)
  unfolding ring_finding ring_rows
  met_03 e =
      let n = normal (places points ring) in
      let r = five_03 (is_short ring) (is_unclosed ring) (is_repeated ring) (repeated_at ring) (is_zero_of n) (is_crossed es) (crossed_at es) e in
      (ltb-true (repeated_at ring + 1) (length ring) (sym (repeated_is ring) ∙ r.0), r.1)

  met_05 : finding_number_of own ≡ 5 → (crossed_at es + 1 < length ring) × (finding_position_of own ≡ crossed_at es)
  unfolding ring_finding ring_rows
  met_05 e =
      let n = normal (places points ring) in
      let r = five_05 (is_short ring) (is_unclosed ring) (is_repeated ring) (repeated_at ring) (is_zero_of n) (is_crossed es) (crossed_at es) e in
      (omega (arith, ltb-true (crossed_at es) (length es) (sym (crossed_is es) ∙ r.0), edges-length points ring), r.1)

  -- in a ring that passes it is met nowhere
  none_03 : own ≡ Sound → length ring ≤ repeated_at ring + 1
  unfolding ring_checks
  none_03 e = go ((ring_exactly points ring).1 e)
    where
      go : NoneGiven (ring_checks points ring) → length ring ≤ repeated_at ring + 1
      go (more a (more b (more c n))) = ltb-false (repeated_at ring + 1) (length ring) (sym (repeated_is ring) ∙ c)

  none_05 : own ≡ Sound → length ring ≤ crossed_at es + 1
  unfolding ring_checks
  none_05 e = go ((ring_exactly points ring).1 e)
    where
      go : NoneGiven (ring_checks points ring) → length ring ≤ crossed_at es + 1
      go (more a (more b (more c (more d (more f n))))) = omega (arith, ltb-false (crossed_at es) (length es) (sym (crossed_is es) ∙ f), edges-length points ring)

  -- whichever it is
  met : {k : ℕ} → (k ≡ 3) ⊎ (k ≡ 5) → finding_number_of own ≡ k → (met_at k points ring + 1 < length ring) × (finding_position_of own ≡ met_at k points ring)
  unfolding met_at
  met (inl e) f = subst (λ (k : ℕ). (met_at k points ring + 1 < length ring) × (finding_position_of own ≡ met_at k points ring)) (sym e) (met_03 (f ∙ e))
  met (inr e) f = subst (λ (k : ℕ). (met_at k points ring + 1 < length ring) × (finding_position_of own ≡ met_at k points ring)) (sym e) (met_05 (f ∙ e))

  none : {k : ℕ} → (k ≡ 3) ⊎ (k ≡ 5) → own ≡ Sound → length ring ≤ met_at k points ring + 1
  unfolding met_at
  none (inl e) f = subst (λ (k : ℕ). length ring ≤ met_at k points ring + 1) (sym e) (none_03 f)
  none (inr e) f = subst (λ (k : ℕ). length ring ≤ met_at k points ring + 1) (sym e) (none_05 f)

-- a finding that has a position and is not of 06 is of one of the two
pub placed_as : (f : Finding) {k : ℕ} → k ≡ finding_number_of f → has_position_of f ≡ true → (k ≡ 6 → ⊥) → (k ≡ 3) ⊎ (k ≡ 5)
unfolding has_position_of finding_number_of
placed_as Sound e h n = absurd (true≢false (sym h))
placed_as Short e h n = absurd (true≢false (sym h))
placed_as Unclosed e h n = absurd (true≢false (sym h))
placed_as (Repeated i) e h n = inl e
placed_as NoNormal e h n = absurd (true≢false (sym h))
placed_as (Crossed i) e h n = inr e
placed_as (Uneven i) e h n = absurd (n e)
placed_as Shared e h n = absurd (true≢false (sym h))
placed_as Misplaced e h n = absurd (true≢false (sym h))

-- a position of 03 or 05 in a later ring
later_position : (before : ℕ) (f : Finding) {k : ℕ} → (k ≡ 3) ⊎ (k ≡ 5) → finding_number_of f ≡ k → finding_position_of (later before f) ≡ before + finding_position_of f
unfolding later finding_number_of finding_position_of
later_position before Sound (inl e) h = absurd (omega arith)
later_position before Sound (inr e) h = absurd (omega arith)
later_position before Short (inl e) h = absurd (omega arith)
later_position before Short (inr e) h = absurd (omega arith)
later_position before Unclosed (inl e) h = absurd (omega arith)
later_position before Unclosed (inr e) h = absurd (omega arith)
later_position before (Repeated i) w h = refl
later_position before NoNormal (inl e) h = absurd (omega arith)
later_position before NoNormal (inr e) h = absurd (omega arith)
later_position before (Crossed i) w h = refl
later_position before (Uneven i) w h = refl
later_position before Shared (inl e) h = absurd (omega arith)
later_position before Shared (inr e) h = absurd (omega arith)
later_position before Misplaced (inl e) h = absurd (omega arith)
later_position before Misplaced (inr e) h = absurd (omega arith)

-- ---- ring by ring
module _ (points : List Point) (entries starts : List ℕ) (from to : ℕ) (h : Rings entries starts from to) {k : ℕ} (which : (k ≡ 3) ⊎ (k ≡ 5))
    (is : k ≡ finding_number_of (rings_finding points 0 (span (ring_at entries starts) from (to - from)))) where
  abbrev whole : Finding
  whole = rings_finding points 0 (span (ring_at entries starts) from (to - from))

  from-none : rings_finding points (get_or starts from 0 - get_or starts from 0) (span (ring_at entries starts) from (to - from)) ≡ whole
  from-none = let z : get_or starts from 0 - get_or starts from 0 ≡ 0 = omega arith in ap (λ (n : ℕ). rings_finding points n (span (ring_at entries starts) from (to - from))) z

  module _ {q : ℕ} (l : Looked points entries starts from to q Sound) where
    abbrev ring : List ℕ
    ring = ring_at entries starts q

    abbrev before : ℕ
    before = get_or starts q 0 - get_or starts from 0

    still : rings_finding points before (span (ring_at entries starts) q (to - q)) ≡ whole
    still = l.still refl ∙ from-none

    module _ (b : q < to) where
      -- a ring that fails has the finding
      failing : (ring_finding points ring ≡ Sound → ⊥) → (whole ≡ later before (ring_finding points ring)) × (finding_number_of (ring_finding points ring) ≡ k)
      failing f =
          let w = sym still ∙ fails points entries starts from to h l.low b f in
          (w, sym (later-number before (ring_finding points ring)) ∙ ap finding_number_of (sym w) ∙ sym is)

      pub ring-some : 1 ≤ length ring
      ring-some = go (sound_or (ring_finding points ring))
        where
          go : (ring_finding points ring ≡ Sound) ⊎ (ring_finding points ring ≡ Sound → ⊥) → 1 ≤ length ring
          go (inl e) = omega (arith, (ring_closed points ring e).0)
          go (inr f) = omega (arith, (met points ring which (failing f).1).0)

      pub found_here : {i : ℕ} → i ≡ met_at k points ring → i + 1 < length ring → before + i ≡ finding_position_of whole
      found_here {i} e s = go (sound_or (ring_finding points ring))
        where
          go : (ring_finding points ring ≡ Sound) ⊎ (ring_finding points ring ≡ Sound → ⊥) → before + i ≡ finding_position_of whole
          go (inl z) = let m = none points ring which z in absurd (omega arith)
          go (inr f) =
              let w = failing f in
              ap (λ (n : ℕ). before + n) (e ∙ sym (met points ring which w.1).1)
              ∙ sym (later_position before (ring_finding points ring) which w.1)
              ∙ ap finding_position_of (sym w.0)

      pub found-later : {i : ℕ} → i ≡ met_at k points ring → length ring ≤ i + 1 → Looked points entries starts from to (q + 1) Sound
      found-later {i} e s = go (sound_or (ring_finding points ring))
        where
          go : (ring_finding points ring ≡ Sound) ⊎ (ring_finding points ring ≡ Sound → ⊥) → Looked points entries starts from to (q + 1) Sound
          go (inl z) = record { low = omega (arith, l.low); still = λ y. sym (passes points entries starts from to h l.low b z) ∙ l.still refl; told = λ y. absurd (y refl) }
          go (inr f) = let m = (met points ring which (failing f).1).0 in absurd (omega arith)

    -- some ring has it
    pub never-past : to ≤ q → ⊥
    unfolding rings_finding rings_rows first finding_number_of
    never-past e = go which (is ∙ ap finding_number_of (sym (sym (ap (rings_finding points before) (span_end (ring_at entries starts) q to e)) ∙ still)))
      where
        go : (k ≡ 3) ⊎ (k ≡ 5) → k ≡ 0 → ⊥
        go (inl a) z = omega arith
        go (inr a) z = omega arith
