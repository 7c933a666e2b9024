-- A move touches only the polygons that list the point.
use Rattle.std.specs.Prelude.{ℕ, ◌≡◌, refl, false, List, [], ◌∷◌, eqb, set}
use Rattle.std.proofs.Common.{sym, ap₂, get_or-set_other}
use Rattle.std.proofs.lemmas.Bool.{eqb-false}
use Rattle.whole.specs.Lists.{lists}
use Rattle.whole.specs.All.{All, none, more}
use Rattle.whole.specs.laws.Alls.{any_none}
use Rattle.space.specs.Space.{Point, origin, places}
use Rattle.polygon.specs.Ring.{ring_rows, finding}
use Rattle.volume.specs.Part.{part}

pub places_kept : (points : List Point) (n : ℕ) (p : Point) (ring : List ℕ) → All (λ (e : ℕ). eqb n e ≡ false) ring → places (set points n p) ring ≡ places points ring
unfolding places
places_kept points n p [] none = refl
places_kept points n p (e ∷ ring) (more q a) =
    ap₂ (λ (x : Point) (l : List Point). x ∷ l) (get_or-set_other points n e p origin (λ z. eqb-false n e q (sym z))) (places_kept points n p ring a)

module _ (points : List Point) (n : ℕ) (p : Point) (ring : List ℕ) (unlisted : lists n ring ≡ false) where
  places_same : places (set points n p) ring ≡ places points ring
  unfolding lists
  places_same = places_kept points n p ring (any_none (eqb n) ring unlisted)

  pub finding_kept : (tolerance : ℕ) → finding tolerance (set points n p) ring ≡ finding tolerance points ring
  unfolding ring_rows finding
  finding_kept tolerance = rw places_same

  pub part_kept : part (set points n p) ring ≡ part points ring
  unfolding part
  part_kept = rw places_same
