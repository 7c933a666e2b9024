-- The checks in order: what is told where the first n have passed and the next fails, 03, 05 and 06 by where they are met.
use Prim.Native.Nat.{ℕ, ◌+◌, ◌-◌, ◌≤◌, ◌<◌}
use native.Mathlib.Omega.{arith}
use mathlib.Core.Path.{◌≡◌, sym, ap, ◌∙◌, subst}
use mathlib.Core.Bool.{Bool, true, false}
use mathlib.Core.List.{List, [], ◌∷◌}
use borrow.Author.Tests.{lt-ltb, le-ltb}
use lib.ListN.{length}
use Rattle.whole.specs.All.{none, more}
use Rattle.whole.specs.Lists.{given, first}
use Rattle.whole.specs.held.Rows.{rows}
use Rattle.whole.proofs.laws.First.{first_is, first-none, first_given, first_past}
use Rattle.polygon.specs.declared.Finding.{Finding}
use Rattle.polygon.specs.declared.Finding.TheVariants.{Sound, Short, Unclosed, Repeated, NoNormal, Crossed, Uneven}
use Rattle.space.specs.Space.{Point, places}
use Rattle.plane.specs.Plane.{largest_axis_of, Segment}
use Rattle.polygon.specs.Ring.{ring_finding, finding, is_short, edges_in}
use Rattle.ring.specs.Entries.{is_unclosed, is_repeated, repeated_at}
use Rattle.ring.specs.laws.Repeated.{repeated_is}
use Rattle.normal.specs.Normal.{normal, is_zero_of}
use Rattle.crossing.specs.Crossed.{is_crossed, crossed_at}
use Rattle.crossing.proofs.laws.Least.{crossed_is}
use Rattle.even.specs.Even.{is_uneven, uneven_at}
use Rattle.even.proofs.laws.Least.{uneven_is}
use Rattle.polygon.specs.laws.Checks.{ring_checks, ring_rows_lem}
use Rattle.polygon.specs.laws.Rows.{finding_taken, finding-left}
use Rattle.polygon.specs.laws.Position.{places-length, edges-length}
use Rattle.polygon.specs.laws.Triangle.{triangle_single, triangle_uncrossed}

module _ (points : List Point) (ring : List ℕ) where
  abbrev n : Point
  n = normal (places points ring)

  abbrev es : List Segment
  es = edges_in (largest_axis_of n) (places points ring)

  -- the first three rows
  abbrev short : Bool × Finding
  short = (is_short ring, Short)

  abbrev unclosed : Bool × Finding
  unclosed = (is_unclosed ring, Unclosed)

  abbrev repeated : Bool × Finding
  repeated = (is_repeated ring, Repeated (repeated_at ring))

  by_rows : ring_finding points ring ≡ first Sound (rows (ring_checks points ring))
  unfolding ring_finding
  by_rows = ap (first Sound) (ring_rows_lem points ring)

  pub found_short : length ring < 4 → Short ≡ ring_finding points ring
  unfolding ring_checks is_short
  found_short h = sym (by_rows ∙ first_is Sound [] (is_short ring) Short _ none (lt-ltb (length ring) 4 h))

  module _ (long : 4 ≤ length ring) where
    one : is_short ring ≡ false
    unfolding is_short
    one = le-ltb (length ring) 4 long

    pub found-unclosed : is_unclosed ring ≡ true → Unclosed ≡ ring_finding points ring
    unfolding ring_checks
    found-unclosed h = sym (by_rows ∙ first_is Sound (short ∷ []) (is_unclosed ring) Unclosed _ (more one none) h)

    module _ (two : is_unclosed ring ≡ false) where
      -- 03, by where it is met
      pub found-repeated : {i : ℕ} → i ≡ repeated_at ring → i < length ring - 1 → Repeated i ≡ ring_finding points ring
      unfolding ring_checks
      found-repeated {i} e h =
          ap Repeated e
          ∙ sym (by_rows ∙ first_is Sound (short ∷ unclosed ∷ []) (is_repeated ring) (Repeated (repeated_at ring)) _ (more one (more two none)) (repeated_is ring ∙ lt-ltb (repeated_at ring + 1) (length ring) (subst (λ (n : ℕ). n + 1 < length ring) e (omega arith))))

      module _ (three : is_repeated ring ≡ false) where
        pub found-no-normal : is_zero_of n ≡ true → NoNormal ≡ ring_finding points ring
        unfolding ring_checks
        found-no-normal h = sym (by_rows ∙ first_is Sound (short ∷ unclosed ∷ repeated ∷ []) (is_zero_of n) NoNormal _ (more one (more two (more three none))) h)

        module _ (four : is_zero_of n ≡ false) where
          pub found-crossed : {i : ℕ} → i ≡ crossed_at es → i < length ring - 1 → Crossed i ≡ ring_finding points ring
          unfolding ring_checks
          found-crossed {i} e h =
              ap Crossed e
              ∙ sym (by_rows ∙ first_is Sound (short ∷ unclosed ∷ repeated ∷ (is_zero_of n, NoNormal) ∷ []) (is_crossed es) (Crossed (crossed_at es)) [] (more one (more two (more three (more four none)))) (crossed_is es ∙ lt-ltb (crossed_at es) (length es) (subst (λ (j : ℕ). j < length es) e (omega (arith, edges-length points ring)))))

          pub found_none : is_crossed es ≡ false → Sound ≡ ring_finding points ring
          unfolding ring_checks
          found_none five = sym (by_rows ∙ first-none Sound (ring_checks points ring) (more one (more two (more three (more four (more five none))))))

      -- three corners whose normal is not 0
      pub found-triangle : length ring ≡ 4 → is_zero_of n ≡ false → Sound ≡ ring_finding points ring
      found-triangle h e = found_none (triangle_single points ring h two e) e (triangle_uncrossed points ring h two e)

  -- ---- then 06
  module _ (tolerance : ℕ) where
    -- what is told by 01 to 05 is the finding
    pub found_early : {f : Finding} → f ≡ ring_finding points ring → (f ≡ Sound → ⊥) → f ≡ finding tolerance points ring
    found_early e h = e ∙ sym (finding_taken tolerance points ring (λ z. h (e ∙ z)))

    module _ (e : Sound ≡ ring_finding points ring) where
      passed : finding tolerance points ring ≡ first Sound (given (is_uneven tolerance n (places points ring)) (Uneven (uneven_at tolerance n (places points ring))) ∷ [])
      passed = finding-left tolerance points ring (sym e)

      pub found_uneven : {i : ℕ} → i ≡ uneven_at tolerance n (places points ring) → i < length ring → Uneven i ≡ finding tolerance points ring
      found_uneven {i} f l =
          let k = uneven_at tolerance n (places points ring) in
          ap Uneven f
          ∙ sym (passed ∙ first_given Sound (is_uneven tolerance n (places points ring)) (Uneven k) [] (uneven_is tolerance n (places points ring) ∙ lt-ltb k (length (places points ring)) (subst (λ (j : ℕ). j < length (places points ring)) f (omega (arith, places-length points ring)))))

      pub found-sound : is_uneven tolerance n (places points ring) ≡ false → Sound ≡ finding tolerance points ring
      unfolding first
      found-sound f = sym (passed ∙ first_past Sound _ _ [] f)

  -- ---- a check that is met nowhere passes
  pub single_is : {i : ℕ} → i ≡ repeated_at ring → length ring - 1 ≤ i → is_repeated ring ≡ false
  single_is e h = repeated_is ring ∙ le-ltb (repeated_at ring + 1) (length ring) (subst (λ (n : ℕ). length ring ≤ n + 1) e (omega arith))

  pub uncrossed_is : {i : ℕ} → i ≡ crossed_at es → length ring - 1 ≤ i → is_crossed es ≡ false
  uncrossed_is {i} e h = crossed_is es ∙ le-ltb (crossed_at es) (length es) (subst (λ (j : ℕ). length es ≤ j) e (omega (arith, edges-length points ring)))

  pub even_is : (tolerance : ℕ) {i : ℕ} → i ≡ uneven_at tolerance n (places points ring) → length ring ≤ i → is_uneven tolerance n (places points ring) ≡ false
  even_is tolerance {i} e h =
      let k = uneven_at tolerance n (places points ring) in
      uneven_is tolerance n (places points ring) ∙ le-ltb k (length (places points ring)) (subst (λ (j : ℕ). length (places points ring) ≤ j) e (omega (arith, places-length points ring)))
