-- Findings as the numbers that are kept, and the checks that no correction changes.
use Rattle.std.specs.Prelude.{ℕ, ◌+◌, ◌*◌, ◌/◌, ◌%◌, ◌≤◌, ◌≡◌, Bool, List, [], ◌∷◌, reverse, ltb}
use native.Mathlib.Omega.{arith}
use Rattle.std.proofs.Math.Path.{refl, ap, subst}
use Rattle.std.proofs.Common.{sym, ap₂, ◌∙◌, lt-ltb}
use Rattle.std.proofs.Math.Bool.{true, false}
use Rattle.std.proofs.lemmas.Bool.{false≢true}
use Rattle.whole.specs.Lists.{given, first}
use Rattle.space.specs.Space.{Point, places}
use Rattle.plane.specs.Plane.{largest_axis_of}
use Rattle.polygon.specs.declared.Finding.{Finding}
use Rattle.polygon.specs.declared.Finding.TheVariants.{Sound, Short, Unclosed, Repeated, NoNormal, Crossed, Uneven, Shared, Misplaced}
use Rattle.polygon.specs.Ring.{is_short, edges_in, ring_rows, finding, finding_number_of, finding_position_of}
use Rattle.ring.specs.Polygon.{Polygon, one}
use Rattle.inner.specs.Finding as Inner
use Rattle.inner.specs.laws.One.{one_ring}
use Rattle.ring.specs.Entries.{is_unclosed, is_repeated}
use Rattle.normal.specs.Normal.{normal, is_zero_of}
use Rattle.crossing.specs.Crossed.{is_crossed, crossed_at}
use Rattle.even.specs.Even.{is_uneven, uneven_at}
use Rattle.polygon.specs.laws.TurnFinding.{number-turned}
use Rattle.building.specs.Report.{is_fault}
use Rattle.polygon.specs.held.Findings.{kept_finding, finding_of}
use Rattle.building.specs.held.Holds.{is_broken}

-- ---- what is kept tells the finding
of_number : (f : Finding) → finding_of (finding_number_of f) (finding_position_of f) ≡ f
unfolding finding_of finding_number_of finding_position_of
of_number Sound = refl
of_number Short = refl
of_number Unclosed = refl
of_number (Repeated i) = refl
of_number NoNormal = refl
of_number (Crossed i) = refl
of_number (Uneven i) = refl
of_number Shared = refl
of_number Misplaced = refl

pub number_few : (f : Finding) → finding_number_of f ≤ 15
unfolding finding_number_of
number_few Sound = omega arith
number_few Short = omega arith
number_few Unclosed = omega arith
number_few (Repeated i) = omega arith
number_few NoNormal = omega arith
number_few (Crossed i) = omega arith
number_few (Uneven i) = omega arith
number_few Shared = omega arith
number_few Misplaced = omega arith

module _ (f : Finding) {k : ℕ} (e : k ≡ kept_finding f) where
  pub kept_number : k % 16 ≡ finding_number_of f
  unfolding kept_finding
  kept_number = let h = number_few f in omega arith

  pub kept_position : k / 16 ≡ finding_position_of f
  unfolding kept_finding
  kept_position = let h = number_few f in omega arith

  pub kept_is : finding_of (k % 16) (k / 16) ≡ f
  kept_is = ap₂ finding_of kept_number kept_position ∙ of_number f

-- it is 0 exactly where there is none
pub kept_fault : (f : Finding) → ltb 0 (kept_finding f) ≡ is_fault f
unfolding kept_finding is_fault finding_number_of finding_position_of
kept_fault Sound = refl
kept_fault Short = refl
kept_fault Unclosed = refl
kept_fault (Repeated i) = lt-ltb 0 (16 * i + 3) (omega arith)
kept_fault NoNormal = refl
kept_fault (Crossed i) = lt-ltb 0 (16 * i + 5) (omega arith)
kept_fault (Uneven i) = lt-ltb 0 (16 * i + 6) (omega arith)
kept_fault Shared = refl
kept_fault Misplaced = refl

-- a number of checks 01 to 03
pub record Early (n : ℕ) : Type 0 where
  pub least : 1 ≤ n
  pub most : n ≤ 3

module _ (tolerance : ℕ) (points : List Point) (ring : List ℕ) where
  -- such a ring's finding is one of them, and no other ring's is
  pub broken_early : is_broken ring ≡ true → Early (finding_number_of (finding tolerance points ring))
  unfolding is_broken ring_rows finding first given finding_number_of
  broken_early = go (is_short ring) refl (is_unclosed ring) refl (is_repeated ring) refl
    where
      early : (n : ℕ) → finding_number_of (finding tolerance points ring) ≡ n → Early n → Early (finding_number_of (finding tolerance points ring))
      early n e h = subst Early (sym e) h

      go : (s : Bool) → is_short ring ≡ s → (u : Bool) → is_unclosed ring ≡ u → (r : Bool) → is_repeated ring ≡ r → is_broken ring ≡ true → Early (finding_number_of (finding tolerance points ring))
      go true p u q r t b = early 1 (rw p) (record { least = omega arith; most = omega arith })
      go false p true q r t b = early 2 (rw (p, q)) (record { least = omega arith; most = omega arith })
      go false p false q true t b = early 3 (rw (p, q, t)) (record { least = omega arith; most = omega arith })
      go false p false q false t b = absurd (false≢true (sym (rw (p, q, t)) ∙ b))

  pub early_broken : Early (finding_number_of (finding tolerance points ring)) → is_broken ring ≡ true
  unfolding is_broken ring_rows finding first given finding_number_of
  early_broken = go (is_short ring) refl (is_unclosed ring) refl (is_repeated ring) refl
    where
      late : (n c : Bool) (i : ℕ) (e : Bool) (k : ℕ) → Early (finding_number_of (first Sound (given n NoNormal ∷ given c (Crossed i) ∷ given e (Uneven k) ∷ []))) → ⊥
      late true c i e k h = omega (arith, h.most)
      late false true i e k h = omega (arith, h.most)
      late false false i true k h = omega (arith, h.most)
      late false false i false k h = omega (arith, h.least)

      go : (s : Bool) → is_short ring ≡ s → (u : Bool) → is_unclosed ring ≡ u → (r : Bool) → is_repeated ring ≡ r → Early (finding_number_of (finding tolerance points ring)) → is_broken ring ≡ true
      go true p u q r t h = rw p
      go false p true q r t h = rw (p, q)
      go false p false q true t h = rw (p, q, t)
      go false p false q false t h = (
          let ps = places points ring in
          let n = normal ps in
          let es = edges_in (largest_axis_of n) ps in
          absurd (late (is_zero_of n) (is_crossed es) (crossed_at es) (is_uneven tolerance n ps) (uneven_at tolerance n ps) (rw (p, q, t) at h)))

-- so it is with a polygon of one ring
module _ (tolerance : ℕ) (points : List Point) (p : Polygon) (ring : List ℕ) (e : p ≡ one ring) where
  outer_is : is_broken p.outer ≡ is_broken ring
  unfolding one
  outer_is = ap (λ (q : Polygon). is_broken q.outer) e

  number_is : finding_number_of (Inner.finding tolerance points p) ≡ finding_number_of (finding tolerance points ring)
  number_is = ap (λ (q : Polygon). finding_number_of (Inner.finding tolerance points q)) e ∙ ap finding_number_of (one_ring points ring tolerance)

  pub broken_one : is_broken p.outer ≡ true → Early (finding_number_of (Inner.finding tolerance points p))
  broken_one b = subst Early (sym number_is) (broken_early tolerance points ring (sym outer_is ∙ b))

  pub one_broken : Early (finding_number_of (Inner.finding tolerance points p)) → is_broken p.outer ≡ true
  one_broken h = outer_is ∙ early_broken tolerance points ring (subst Early number_is h)

-- a turn mends none of them
pub broken_turned : (ring : List ℕ) → is_broken ring ≡ true → is_broken (reverse ring) ≡ true
broken_turned ring b = early_broken 0 [] (reverse ring) (subst Early (sym (number-turned 0 [] ring)) (broken_early 0 [] ring b))
