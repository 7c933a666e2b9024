-- Which findings have a position, that each says what `Position` has, and that it is one of the ring.
use Rattle.std.specs.Prelude.{ℕ, zero, suc, ◌+◌, ◌-◌, ◌≤◌, ◌≡◌, Bool, cond, List, [], ◌∷◌, map, eqb, length}
use Rattle.std.proofs.Common.{arith, sym, ◌∙◌, subst, true≢false}
use Rattle.std.proofs.Math.Path.{refl, ap}
use Rattle.std.proofs.Math.Bool.{true, false}
use borrow.Author.Tests.{ltb-true, ltb-false}
use Rattle.std.proofs.Math.ListN.{get_or, length-map}
use Rattle.whole.specs.Lists.{given, first}
use Rattle.whole.specs.Least.{Least}
use Rattle.whole.specs.laws.Places.{steps-length}
use Rattle.space.specs.Space.{Point, origin, places}
use Rattle.plane.specs.Plane.{largest_axis_of, drop_axis, Segment}
use Rattle.polygon.specs.declared.Finding.{Finding}
use Rattle.polygon.specs.declared.Finding.TheVariants.{Sound, Short, Unclosed, Repeated, NoNormal, Crossed, Uneven, Shared, Misplaced}
use Rattle.polygon.specs.Ring.{is_short, edges_in, ring_rows, finding, finding_number_of, finding_position_of}
use Rattle.polygon.specs.held.Findings.{is_placed}
use Rattle.polygon.specs.held.Position.{has_position_of}
use Rattle.ring.specs.Entries.{is_unclosed, is_repeated, repeated_at}
use Rattle.ring.specs.Position.{Stood}
use Rattle.ring.specs.laws.Repeated.{repeated_is, repeated-least}
use Rattle.normal.specs.Normal.{normal, is_zero_of}
use Rattle.crossing.specs.Crossed.{is_crossed, crossed_at}
use Rattle.crossing.specs.Position.{Meets}
use Rattle.crossing.proofs.laws.Least.{crossed_is, crossed_least}
use Rattle.even.specs.Even.{is_uneven, uneven_at}
use Rattle.even.specs.Position.{Off}
use Rattle.even.proofs.laws.Least.{uneven_is, uneven-least}

-- ---- what the position of a ring's finding says
-- "for 03 the least entry index whose number stood earlier, the closing entry aside; for 05 the least edge index, counted from 0, that
-- has a forbidden meeting; for 06 the least failing entry index; else 0"
pub record Position (tolerance : ℕ) (points : List Point) (ring : List ℕ) (f : Finding) : Type 0 where
  pub of_03 : finding_number_of f ≡ 3 → Least (Stood ring) (finding_position_of f)
  pub of_05 : finding_number_of f ≡ 5 → Least (Meets (edges_in (largest_axis_of (normal (places points ring))) (places points ring))) (finding_position_of f)
  pub of_06 : finding_number_of f ≡ 6 → Least (Off tolerance (normal (places points ring)) (places points ring)) (finding_position_of f)
  pub of_others : (finding_number_of f ≡ 3 → ⊥) → (finding_number_of f ≡ 5 → ⊥) → (finding_number_of f ≡ 6 → ⊥) → finding_position_of f ≡ 0

-- ---- which findings have a position
-- its number tells whether a finding has one
pub placed_is : (f : Finding) → is_placed (finding_number_of f) ≡ has_position_of f
unfolding is_placed has_position_of finding_number_of
placed_is Sound = refl
placed_is Short = refl
placed_is Unclosed = refl
placed_is (Repeated i) = refl
placed_is NoNormal = refl
placed_is (Crossed i) = refl
placed_is (Uneven i) = refl
placed_is Shared = refl
placed_is Misplaced = refl

-- the finding without a position of this number
bare : ℕ → Finding
bare zero = Sound
bare (suc zero) = Short
bare (suc (suc zero)) = Unclosed
bare (suc (suc (suc n))) = cond (eqb n 1) NoNormal (cond (eqb n 11) Shared Misplaced)

bare_is : (f : Finding) → has_position_of f ≡ false → bare (finding_number_of f) ≡ f
unfolding has_position_of bare finding_number_of
bare_is Sound h = refl
bare_is Short h = refl
bare_is Unclosed h = refl
bare_is (Repeated i) h = absurd (true≢false h)
bare_is NoNormal h = refl
bare_is (Crossed i) h = absurd (true≢false h)
bare_is (Uneven i) h = absurd (true≢false h)
bare_is Shared h = refl
bare_is Misplaced h = refl

-- a finding that has one and is neither of 03 nor of 05 is of 06
sixth : (f : Finding) → has_position_of f ≡ true → (finding_number_of f ≡ 3 → ⊥) → (finding_number_of f ≡ 5 → ⊥) → finding_number_of f ≡ 6
unfolding has_position_of finding_number_of
sixth Sound h a b = absurd (true≢false (sym h))
sixth Short h a b = absurd (true≢false (sym h))
sixth Unclosed h a b = absurd (true≢false (sym h))
sixth (Repeated i) h a b = absurd (a refl)
sixth NoNormal h a b = absurd (true≢false (sym h))
sixth (Crossed i) h a b = absurd (b refl)
sixth (Uneven i) h a b = refl
sixth Shared h a b = absurd (true≢false (sym h))
sixth Misplaced h a b = absurd (true≢false (sym h))

-- where a finding has none, its number tells it
pub number_same : (f g : Finding) → has_position_of f ≡ false → finding_number_of f ≡ finding_number_of g → f ≡ g
number_same f g h e =
    sym (bare_is f h) ∙ ap bare e ∙ bare_is g (sym (placed_is g) ∙ ap is_placed (sym e) ∙ placed_is f ∙ h)

-- ---- as many places as entries, and an edge less
module _ (points : List Point) (ring : List ℕ) where
  pub places-length : length (places points ring) ≡ length ring
  unfolding places
  places-length = length-map ring (λ e. get_or points e origin)

  pub edges-length : length (edges_in (largest_axis_of (normal (places points ring))) (places points ring)) ≡ length ring - 1
  unfolding edges_in
  edges-length =
      let axis = largest_axis_of (normal (places points ring)) in
      steps-length (map (drop_axis axis) (places points ring)) ∙ ap (λ (m : ℕ). m - 1) (length-map (places points ring) (drop_axis axis) ∙ places-length)

module _ (tolerance : ℕ) (points : List Point) (ring : List ℕ) where
  abbrev ps : List Point
  ps = places points ring

  abbrev n : Point
  n = normal ps

  abbrev es : List Segment
  es = edges_in (largest_axis_of n) ps

  -- ---- a finding of one of the three numbers is met where that check is; its ring is not short, and it is a position of the ring
  record Met (f : Finding) : Type 0 where
    of_03 : finding_number_of f ≡ 3 → (is_repeated ring ≡ true) × (finding_position_of f ≡ repeated_at ring)
    of_05 : finding_number_of f ≡ 5 → (is_crossed es ≡ true) × (finding_position_of f ≡ crossed_at es)
    of_06 : finding_number_of f ≡ 6 → (is_uneven tolerance n ps ≡ true) × (finding_position_of f ≡ uneven_at tolerance n ps)
    of_others : (finding_number_of f ≡ 3 → ⊥) → (finding_number_of f ≡ 5 → ⊥) → (finding_number_of f ≡ 6 → ⊥) → finding_position_of f ≡ 0
    long : has_position_of f ≡ true → is_short ring ≡ false
    few : finding_position_of f ≤ length ring

  -- a finding without one
  plain : (f : Finding) → (finding_number_of f ≡ 3 → ⊥) → (finding_number_of f ≡ 5 → ⊥) → (finding_number_of f ≡ 6 → ⊥) → finding_position_of f ≡ 0 → has_position_of f ≡ false → Met f
  plain f a b c z h =
      record {
        of_03 = λ e. absurd (a e);
        of_05 = λ e. absurd (b e);
        of_06 = λ e. absurd (c e);
        of_others = λ _ _ _. z;
        long = λ t. absurd (true≢false (sym t ∙ h));
        few = omega arith;
      }

  met : Met (finding tolerance points ring)
  unfolding finding ring_rows first given finding_number_of finding_position_of has_position_of
  met = go (is_short ring) refl (is_unclosed ring) (is_repeated ring) refl (is_zero_of n) (is_crossed es) refl (is_uneven tolerance n ps) refl
    where
      at_03 : is_short ring ≡ false → is_repeated ring ≡ true → Met (Repeated (repeated_at ring))
      at_03 hs h = record { of_03 = λ e. (h, refl); of_05 = λ e. absurd (omega arith); of_06 = λ e. absurd (omega arith); of_others = λ a b c. absurd (a refl); long = λ t. hs; few = omega (arith, (repeated-least ring).within) }

      at_05 : is_short ring ≡ false → is_crossed es ≡ true → Met (Crossed (crossed_at es))
      at_05 hs h = record { of_03 = λ e. absurd (omega arith); of_05 = λ e. (h, refl); of_06 = λ e. absurd (omega arith); of_others = λ a b c. absurd (b refl); long = λ t. hs; few = omega (arith, (crossed_least es).within, edges-length points ring) }

      at-06 : is_short ring ≡ false → is_uneven tolerance n ps ≡ true → Met (Uneven (uneven_at tolerance n ps))
      at-06 hs h = record { of_03 = λ e. absurd (omega arith); of_05 = λ e. absurd (omega arith); of_06 = λ e. (h, refl); of_others = λ a b c. absurd (c refl); long = λ t. hs; few = omega (arith, (uneven-least tolerance n ps).within, places-length points ring) }

      go : (s : Bool) → is_short ring ≡ s → (u r : Bool) → is_repeated ring ≡ r → (z c : Bool) → is_crossed es ≡ c → (e : Bool) → is_uneven tolerance n ps ≡ e
          → Met (first Sound (given s Short ∷ given u Unclosed ∷ given r (Repeated (repeated_at ring)) ∷ given z NoNormal ∷ given c (Crossed (crossed_at es)) ∷ given e (Uneven (uneven_at tolerance n ps)) ∷ []))
      go true hs u r hr z c hc e he = plain Short (λ x. omega arith) (λ x. omega arith) (λ x. omega arith) refl refl
      go false hs true r hr z c hc e he = plain Unclosed (λ x. omega arith) (λ x. omega arith) (λ x. omega arith) refl refl
      go false hs false true hr z c hc e he = at_03 hs hr
      go false hs false false hr true c hc e he = plain NoNormal (λ x. omega arith) (λ x. omega arith) (λ x. omega arith) refl refl
      go false hs false false hr false true hc e he = at_05 hs hc
      go false hs false false hr false false hc true he = at-06 hs he
      go false hs false false hr false false hc false he = plain Sound (λ x. omega arith) (λ x. omega arith) (λ x. omega arith) refl refl

  -- ---- what it says, in plain words
  pub position_is : Position tolerance points ring (finding tolerance points ring)
  position_is =
      record {
        of_03 = λ e. subst (Least (Stood ring)) (sym (met.of_03 e).1) ((repeated-least ring).found (omega (arith, ltb-true (repeated_at ring + 1) (length ring) (sym (repeated_is ring) ∙ (met.of_03 e).0))));
        of_05 = λ e. subst (Least (Meets es)) (sym (met.of_05 e).1) ((crossed_least es).found (ltb-true (crossed_at es) (length es) (sym (crossed_is es) ∙ (met.of_05 e).0)));
        of_06 = λ e. subst (Least (Off tolerance n ps)) (sym (met.of_06 e).1) ((uneven-least tolerance n ps).found (ltb-true (uneven_at tolerance n ps) (length ps) (sym (uneven_is tolerance n ps) ∙ (met.of_06 e).0)));
        of_others = met.of_others;
      }

  pub position_few : finding_position_of (finding tolerance points ring) ≤ length ring
  position_few = met.few

  -- ---- where code looks for it
  module _ {k : ℕ} (is : k ≡ finding_number_of (finding tolerance points ring)) where
    pub position-03 : k ≡ 3 → finding_position_of (finding tolerance points ring) ≡ repeated_at ring
    position-03 e = (met.of_03 (sym is ∙ e)).1

    pub position-05 : k ≡ 5 → finding_position_of (finding tolerance points ring) ≡ crossed_at es
    position-05 e = (met.of_05 (sym is ∙ e)).1

    module _ (has : has_position_of (finding tolerance points ring) ≡ true) where
      pub position_06 : (k ≡ 3 → ⊥) → (k ≡ 5 → ⊥) → finding_position_of (finding tolerance points ring) ≡ uneven_at tolerance n ps
      position_06 a b = (met.of_06 (sixth (finding tolerance points ring) has (λ e. a (is ∙ e)) (λ e. b (is ∙ e)))).1

  pub position_long : has_position_of (finding tolerance points ring) ≡ true → 4 ≤ length ring
  unfolding is_short
  position_long h = ltb-false (length ring) 4 (met.long h)
