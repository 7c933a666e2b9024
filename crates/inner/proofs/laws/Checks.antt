-- The finding as a table: it is exactly the first row that fails.
use Prim.Native.Nat.{ℕ, zero, suc, ◌+◌, ◌≤◌, ◌<◌}
use Rattle.std.proofs.Common.{zero-add, sym, ◌∙◌, subst, true≢false, inl, inr}
use native.Mathlib.Omega.{arith}
use Rattle.std.specs.Prelude.{◌≡◌, Bool, true, false, List, [], ◌∷◌, ◌++◌, ◌⊎◌, length, get_or, take}
use Rattle.std.proofs.Math.Path.{refl, ap}
use Rattle.whole.specs.Lists.{given, first, any, any_two}
use Rattle.whole.specs.All.{All}
use Rattle.whole.specs.held.Rows.{rows}
use Rattle.whole.proofs.laws.First.{NoneGiven, row-exactly, none-exactly, distinct_of, Distinct}
use Rattle.space.specs.Space.{Point, places}
use Rattle.ring.specs.Polygon.{Polygon, rings_of, entries_from, all}
use Rattle.normal.specs.Normal.{normal}
use Rattle.even.specs.Even.{uneven_at}
use Rattle.polygon.specs.declared.Finding.{Finding}
use Rattle.polygon.specs.declared.Finding.TheVariants.{Sound, Short, Unclosed, Repeated, NoNormal, Crossed, Uneven, Shared, Misplaced}
use Rattle.polygon.specs.Ring.{ring_rows, ring_finding, finding_number_of, finding_position_of}
use Rattle.polygon.specs.held.Position.{has_position_of}
use Rattle.polygon.specs.laws.Rows.{first-after, first-left, first_taken, sound_or}
use Rattle.inner.specs.Finding.{later, rings_rows, finding}
use Rattle.inner.specs.held.LastChecks.{last_checks}
use Rattle.inner.specs.laws.Rows.{rings_finding, rings-others, rings-at, ring_passes, ring_fails, none_fails, all_pass, later-number, later_fault}

-- ---- what the rings show by 01 to 05 is numbered so
five_few : (s u t : Bool) (i : ℕ) (n c : Bool) (j : ℕ) → finding_number_of (first Sound (given s Short ∷ given u Unclosed ∷ given t (Repeated i) ∷ given n NoNormal ∷ given c (Crossed j) ∷ [])) ≤ 5
unfolding first given finding_number_of
five_few true u t i n c j = omega arith
five_few false true t i n c j = omega arith
five_few false false true i n c j = omega arith
five_few false false false i true c j = omega arith
five_few false false false i false true j = omega arith
five_few false false false i false false j = omega arith

pub ring_few : (points : List Point) (r : List ℕ) → finding_number_of (ring_finding points r) ≤ 5
unfolding ring_finding ring_rows
ring_few points r = five_few _ _ _ _ _ _ _

pub rings_few : (points : List Point) (before : ℕ) (rs : List (List ℕ)) → finding_number_of (rings_finding points before rs) ≤ 5
unfolding rings_finding rings_rows first finding_number_of
rings_few points before [] = omega arith
rings_few points before (r ∷ rs) = go (sound_or (ring_finding points r)) (rings_few points (before + length r) rs)
  where
    go : (ring_finding points r ≡ Sound) ⊎ (ring_finding points r ≡ Sound → ⊥) → finding_number_of (rings_finding points (before + length r) rs) ≤ 5 → finding_number_of (rings_finding points before (r ∷ rs)) ≤ 5
    go (inl h) ih = subst (λ (f : Finding). finding_number_of f ≤ 5) (sym (ring_passes points before r rs h)) ih
    go (inr h) ih =
        subst (λ (f : Finding). finding_number_of f ≤ 5) (sym (ring_fails points before r rs h))
        (subst (λ (n : ℕ). n ≤ 5) (sym (later-number before (ring_finding points r))) (ring_few points r))

-- ---- the last checks: 06, 0E and 0F
module _ (tolerance : ℕ) (points : List Point) (p : Polygon) where
  abbrev last : List (Bool × Finding)
  last = last_checks tolerance points p

  -- no ring fails 01 to 05
  abbrev pub AllPass : Type 0
  AllPass = All (λ (r : List ℕ). ring_finding points r ≡ Sound) (rings_of p)

  by_rows : finding tolerance points p ≡ first (first Sound (rows last)) (rings_rows points 0 (rings_of p))
  unfolding finding last_checks rows
  by_rows = first-after Sound (rings_rows points 0 (rings_of p)) _

  -- the finding is what the rings show by 01 to 05, or what these three do where all rings pass
  pub finding-early : (rings_finding points 0 (rings_of p) ≡ Sound → ⊥) → finding tolerance points p ≡ rings_finding points 0 (rings_of p)
  unfolding rings_finding
  finding-early h = by_rows ∙ first_taken Sound _ (rings_rows points 0 (rings_of p)) h

  pub finding_late : rings_finding points 0 (rings_of p) ≡ Sound → finding tolerance points p ≡ first Sound (rows last)
  unfolding rings_finding
  finding_late e = by_rows ∙ first-left Sound _ (rings_rows points 0 (rings_of p)) (rings-others points 0 (rings_of p)) e

  -- where the rings before pass 01 to 05 and this one does not, the finding is this ring's, its position counted from their entries
  pub in_ring : (done : List (List ℕ)) (r : List ℕ) (rest : List (List ℕ)) → rings_of p ≡ done ++ r ∷ rest
      → All (λ (s : List ℕ). ring_finding points s ≡ Sound) done → (ring_finding points r ≡ Sound → ⊥)
      → finding tolerance points p ≡ later (length (all (λ s. s) done)) (ring_finding points r)
  in_ring done r rest e a h =
      let f = ap (rings_finding points 0) e ∙ rings-at points 0 done r rest a h ∙ ap (λ (n : ℕ). later n (ring_finding points r)) (zero-add (length (all (λ s. s) done))) in
      finding-early (λ z. h (later_fault _ (ring_finding points r) (sym f ∙ z))) ∙ f

  distinct : Distinct Sound last
  unfolding last_checks finding_number_of any any_two
  distinct = distinct_of finding_number_of Sound last refl refl

  -- a finding of 06, 0E or 0F is of no ring alone
  beyond : (n : ℕ) (d : Bool × Finding) → n < length last → 5 < finding_number_of (get_or last n d).1
  unfolding last_checks finding_number_of
  beyond zero d h = omega arith
  beyond (suc zero) d h = omega arith
  beyond (suc (suc zero)) d h = omega arith
  beyond (suc (suc (suc n))) d h = absurd (omega arith)

  late : 5 < finding_number_of (finding tolerance points p) → rings_finding points 0 (rings_of p) ≡ Sound
  late l = go (sound_or (rings_finding points 0 (rings_of p)))
    where
      go : (rings_finding points 0 (rings_of p) ≡ Sound) ⊎ (rings_finding points 0 (rings_of p) ≡ Sound → ⊥) → rings_finding points 0 (rings_of p) ≡ Sound
      go (inl h) = h
      go (inr h) = let z = ap finding_number_of (finding-early h) in let f = rings_few points 0 (rings_of p) in absurd (omega arith)

  none : finding tolerance points p ≡ Sound → rings_finding points 0 (rings_of p) ≡ Sound
  none e = go (sound_or (rings_finding points 0 (rings_of p)))
    where
      go : (rings_finding points 0 (rings_of p) ≡ Sound) ⊎ (rings_finding points 0 (rings_of p) ≡ Sound → ⊥) → rings_finding points 0 (rings_of p) ≡ Sound
      go (inl h) = h
      go (inr h) = absurd (h (sym (finding-early h) ∙ e))

  -- "Then 06 ..": each of the three is the finding exactly when it fails, no earlier one of them does, and no ring fails 01 to 05
  pub late_exactly : (n : ℕ) (d : Bool × Finding) → n < length last
      → (AllPass × NoneGiven (take n last) × ((get_or last n d).0 ≡ true) → finding tolerance points p ≡ (get_or last n d).1)
      × (finding tolerance points p ≡ (get_or last n d).1 → AllPass × NoneGiven (take n last) × ((get_or last n d).0 ≡ true))
  late_exactly n d h =
      let r = row-exactly Sound last distinct n d h in (
        λ g. finding_late (none_fails points 0 (rings_of p) g.0) ∙ r.0 (g.1, g.2),
        λ e.
            let z = late (subst (λ (f : Finding). 5 < finding_number_of f) (sym e) (beyond n d h)) in
            let g = r.1 (sym (finding_late z) ∙ e) in
            (all_pass points 0 (rings_of p) z, g.0, g.1),
      )

  -- `Sound` exactly when nothing fails
  pub sound_exactly : (AllPass × NoneGiven last → finding tolerance points p ≡ Sound) × (finding tolerance points p ≡ Sound → AllPass × NoneGiven last)
  sound_exactly =
      let r = none-exactly Sound last distinct in (
        λ g. finding_late (none_fails points 0 (rings_of p) g.0) ∙ r.0 g.1,
        λ e. (all_pass points 0 (rings_of p) (none e), r.1 (sym (finding_late (none e)) ∙ e)),
      )

-- ---- where it is met
-- of the last three, 06 alone has a position
three-placed : (u : Bool) (i : ℕ) (s m : Bool) → let f = first Sound (given u (Uneven i) ∷ given s Shared ∷ given m Misplaced ∷ []) in has_position_of f ≡ true → (finding_number_of f ≡ 6) × (finding_position_of f ≡ i)
unfolding first given has_position_of finding_number_of finding_position_of
three-placed true i s m h = (refl, refl)
three-placed false i true m h = absurd (true≢false (sym h))
three-placed false i false true h = absurd (true≢false (sym h))
three-placed false i false false h = absurd (true≢false (sym h))

module _ (tolerance : ℕ) (points : List Point) (p : Polygon) (has : has_position_of (finding tolerance points p) ≡ true) where
  last-placed : rings_finding points 0 (rings_of p) ≡ Sound → let n = normal (places points p.outer) in (finding_number_of (finding tolerance points p) ≡ 6) × (finding_position_of (finding tolerance points p) ≡ uneven_at tolerance n (places points (entries_from p)))
  unfolding last_checks rows
  last-placed e =
      let f = finding_late tolerance points p e in
      let r = three-placed _ _ _ _ (ap has_position_of (sym f) ∙ has) in
      (ap finding_number_of f ∙ r.0, ap finding_position_of f ∙ r.1)

  -- "for 06 the least failing entry index", of all entries
  pub position_06 : finding_number_of (finding tolerance points p) ≡ 6 → let n = normal (places points p.outer) in
      (rings_finding points 0 (rings_of p) ≡ Sound) × (finding_position_of (finding tolerance points p) ≡ uneven_at tolerance n (places points (entries_from p)))
  position_06 e = let z = late tolerance points p (omega arith) in (z, (last-placed z).1)

  -- 03 and 05 are met in a ring
  pub position_early : (finding_number_of (finding tolerance points p) ≡ 6 → ⊥) → finding tolerance points p ≡ rings_finding points 0 (rings_of p)
  position_early h = finding-early tolerance points p (λ e. h (last-placed e).0)
