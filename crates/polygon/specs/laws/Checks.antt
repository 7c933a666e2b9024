-- A polygon's finding as a table: checks 01 to 06 in order, each with whether it fails.
use Rattle.std.specs.Prelude.{ℕ, ◌<◌, ◌≤◌, ◌≡◌, refl, Bool, true, false, List, [], ◌∷◌, ◌++◌, length, get_or, take}
use Rattle.std.proofs.Common.{sym, ◌∙◌, ltb-false}
use Rattle.whole.specs.All.{more}
use Rattle.whole.specs.Lists.{first, any, any_two}
use Rattle.whole.specs.held.Rows.{rows}
use Rattle.whole.proofs.laws.First.{NoneGiven, Distinct, row-exactly, none-exactly, distinct_of}
use Rattle.polygon.specs.declared.Finding.{Finding}
use Rattle.polygon.specs.declared.Finding.TheVariants.{Sound, Short, Unclosed, Repeated, NoNormal, Crossed, Uneven}
use Rattle.space.specs.Space.{Point, places}
use Rattle.plane.specs.Plane.{largest_axis_of}
use Rattle.polygon.specs.Ring.{ring_rows, ring_finding, finding, finding_number_of, is_short, edges_in}
use Rattle.ring.specs.Entries.{is_unclosed, is_repeated, repeated_at}
use Rattle.normal.specs.Normal.{normal, is_zero_of}
use Rattle.crossing.specs.Crossed.{is_crossed, crossed_at}
use Rattle.even.specs.Even.{is_uneven, uneven_at}

-- 01 to 05
unfoldable pub ring_checks : List Point → List ℕ → List (Bool × Finding)
ring_checks points ring =
    let ps = places points ring in
    let n = normal ps in
    let es = edges_in (largest_axis_of n) ps in
    (is_short ring, Short)
    ∷ (is_unclosed ring, Unclosed)
    ∷ (is_repeated ring, Repeated (repeated_at ring))
    ∷ (is_zero_of n, NoNormal)
    ∷ (is_crossed es, Crossed (crossed_at es))
    ∷ []

pub ring_rows_lem : (points : List Point) (ring : List ℕ) → ring_rows points ring ≡ rows (ring_checks points ring)
unfolding ring_rows ring_checks rows
ring_rows_lem points ring = refl

unfoldable pub checks : ℕ → List Point → List ℕ → List (Bool × Finding)
checks tolerance points ring =
    let ps = places points ring in
    let n = normal ps in
    ring_checks points ring ++ (is_uneven tolerance n ps, Uneven (uneven_at tolerance n ps)) ∷ []

finding-rows : (tolerance : ℕ) (points : List Point) (ring : List ℕ) → finding tolerance points ring ≡ first Sound (rows (checks tolerance points ring))
unfolding finding ring_rows ring_checks checks rows
finding-rows tolerance points ring = refl

-- no two rows have one answer, and none has `Sound`
checks_distinct : (tolerance : ℕ) (points : List Point) (ring : List ℕ) → Distinct Sound (checks tolerance points ring)
unfolding ring_checks checks finding_number_of any any_two
checks_distinct tolerance points ring = distinct_of finding_number_of Sound (checks tolerance points ring) refl refl

-- 01 to 05 show nothing exactly when none of them fails
pub ring_exactly : (points : List Point) (ring : List ℕ) → (NoneGiven (ring_checks points ring) → ring_finding points ring ≡ Sound) × (ring_finding points ring ≡ Sound → NoneGiven (ring_checks points ring))
unfolding ring_finding ring_rows ring_checks rows finding_number_of any any_two
ring_exactly points ring = none-exactly Sound (ring_checks points ring) (distinct_of finding_number_of Sound (ring_checks points ring) refl refl)

-- such a ring is not short, and closed
pub ring_closed : (points : List Point) (ring : List ℕ) → ring_finding points ring ≡ Sound → (4 ≤ length ring) × (is_unclosed ring ≡ false)
unfolding ring_checks is_short
ring_closed points ring e = go ((ring_exactly points ring).1 e)
  where
    go : NoneGiven (ring_checks points ring) → (4 ≤ length ring) × (is_unclosed ring ≡ false)
    go (more a (more b n)) = (ltb-false (length ring) 4 a, b)

-- "the first of checks 01 to 06 that fails": row n's check is the finding exactly when it fails and no earlier one does
module _ (tolerance : ℕ) (points : List Point) (ring : List ℕ) where
  abbrev table : List (Bool × Finding)
  table = checks tolerance points ring

  pub finding_exactly : (n : ℕ) (d : Bool × Finding) → n < length table
      → (NoneGiven (take n table) × ((get_or table n d).0 ≡ true) → finding tolerance points ring ≡ (get_or table n d).1) × (finding tolerance points ring ≡ (get_or table n d).1 → NoneGiven (take n table) × ((get_or table n d).0 ≡ true))
  finding_exactly n d h =
      let e = finding-rows tolerance points ring in
      let r = row-exactly Sound table (checks_distinct tolerance points ring) n d h in
      (λ g. e ∙ r.0 g, λ g. r.1 (sym e ∙ g))

  -- `Sound` exactly when none fails
  pub sound_exactly : (NoneGiven table → finding tolerance points ring ≡ Sound) × (finding tolerance points ring ≡ Sound → NoneGiven table)
  sound_exactly =
      let e = finding-rows tolerance points ring in
      let r = none-exactly Sound table (checks_distinct tolerance points ring) in
      (λ g. e ∙ r.0 g, λ g. r.1 (sym e ∙ g))
