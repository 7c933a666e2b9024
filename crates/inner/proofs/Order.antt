-- 06, 0E and 0F in order: what is told where the first n have passed and the next fails; and what is told in all.
use Prim.Native.Nat.{ℕ, ◌≤◌, ◌<◌}
use native.Mathlib.Omega.{arith}
use mathlib.Core.Path.{◌≡◌, sym, ap, ◌∙◌, subst}
use mathlib.Core.Bool.{Bool, true, false}
use mathlib.Core.List.{List, [], ◌∷◌, map}
use borrow.Author.Tests.{lt-ltb, le-ltb}
use lib.ListN.{length}
use Rattle.whole.specs.Lists.{first}
use Rattle.whole.specs.All.{none, more}
use Rattle.whole.specs.held.Rows.{rows}
use Rattle.whole.proofs.laws.First.{first_is, first-none}
use Rattle.space.specs.Space.{Point, places}
use Rattle.space.specs.declared.Axis.{Axis}
use Rattle.plane.specs.Plane.{largest_axis_of}
use Rattle.normal.specs.Normal.{normal}
use Rattle.even.specs.Even.{is_uneven, uneven_at}
use Rattle.even.proofs.laws.Least.{uneven_is}
use Rattle.ring.specs.Polygon.{Polygon, rings_of, entries_from}
use Rattle.holes.specs.Holes.{seen, component, component_of, is_shared, is_misplaced_of}
use Rattle.polygon.specs.declared.Finding.{Finding}
use Rattle.polygon.specs.declared.Finding.TheVariants.{Sound, Uneven, Shared, Misplaced}
use Rattle.polygon.specs.laws.Position.{places-length}
use Rattle.inner.specs.Finding.{finding}
use Rattle.inner.specs.laws.Rows.{rings_finding}
use Rattle.inner.specs.held.LastChecks.{last_checks}
use Rattle.inner.proofs.laws.Checks.{finding-early, finding_late}

module _ (tolerance : ℕ) (points : List Point) (p : Polygon) where
  abbrev n : Point
  n = normal (places points p.outer)

  abbrev axis : Axis
  axis = largest_axis_of n

  abbrev ps : List Point
  ps = places points (entries_from p)

  abbrev told : Finding
  told = first Sound (rows (last_checks tolerance points p))

  abbrev uneven : Bool × Finding
  uneven = (is_uneven tolerance n ps, Uneven (uneven_at tolerance n ps))

  abbrev shared : Bool
  shared = is_shared (map (seen axis points) (rings_of p))

  abbrev misplaced : Bool
  misplaced = is_misplaced_of (seen axis points p.outer) (map (seen axis points) p.inner) (component axis n) (map (component_of axis points) p.inner)

  pub found_uneven : {i : ℕ} → i ≡ uneven_at tolerance n ps → i < length (entries_from p) → Uneven i ≡ told
  unfolding last_checks
  found_uneven {i} e h =
      ap Uneven e
      ∙ sym (first_is Sound [] (is_uneven tolerance n ps) (Uneven (uneven_at tolerance n ps)) _ none (uneven_is tolerance n ps ∙ lt-ltb (uneven_at tolerance n ps) (length ps) (subst (λ (j : ℕ). j < length ps) e (omega (arith, places-length points (entries_from p))))))

  pub even_is : {i : ℕ} → i ≡ uneven_at tolerance n ps → length (entries_from p) ≤ i → is_uneven tolerance n ps ≡ false
  even_is {i} e h = uneven_is tolerance n ps ∙ le-ltb (uneven_at tolerance n ps) (length ps) (subst (λ (j : ℕ). length ps ≤ j) e (omega (arith, places-length points (entries_from p))))

  module _ (even : is_uneven tolerance n ps ≡ false) where
    pub found-shared : shared ≡ true → Shared ≡ told
    unfolding last_checks
    found-shared h = sym (first_is Sound (uneven ∷ []) shared Shared _ (more even none) h)

    module _ (apart : shared ≡ false) where
      pub found-misplaced : misplaced ≡ true → Misplaced ≡ told
      unfolding last_checks
      found-misplaced h = sym (first_is Sound (uneven ∷ (shared, Shared) ∷ []) misplaced Misplaced [] (more even (more apart none)) h)

      pub found_none : misplaced ≡ false → Sound ≡ told
      unfolding last_checks
      found_none h = sym (first-none Sound (last_checks tolerance points p) (more even (more apart (more h none))))

  -- ---- in all
  module _ {f : Finding} (e : f ≡ rings_finding points 0 (rings_of p)) where
    pub told-early : (f ≡ Sound → ⊥) → f ≡ finding tolerance points p
    told-early h = e ∙ sym (finding-early tolerance points p (λ z. h (e ∙ z)))

    pub all_sound : f ≡ Sound → rings_finding points 0 (rings_of p) ≡ Sound
    all_sound h = sym e ∙ h

    pub told-late : f ≡ Sound → {r : Finding} → r ≡ told → r ≡ finding tolerance points p
    told-late h g = g ∙ sym (finding_late tolerance points p (all_sound h))
