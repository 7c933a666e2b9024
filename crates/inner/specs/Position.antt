-- What the position of a polygon's finding says, in plain words. Document 02 (iii) and (iv).
use Rattle.std.specs.Prelude.{ℕ, ◌+◌, ◌≡◌, List, ◌∷◌, ◌++◌, length}
use Rattle.whole.specs.All.{All}
use Rattle.whole.specs.Least.{Least}
use Rattle.space.specs.Space.{Point, places}
use Rattle.plane.specs.Plane.{largest_axis_of}
use Rattle.ring.specs.Polygon.{Polygon, rings_of, entries_from, all}
use Rattle.ring.specs.Position.{Stood}
use Rattle.normal.specs.Normal.{normal}
use Rattle.crossing.specs.Position.{Meets}
use Rattle.even.specs.Position.{Off}
use Rattle.polygon.specs.declared.Finding.{Finding}
use Rattle.polygon.specs.declared.Finding.TheVariants.{Sound}
use Rattle.polygon.specs.Ring.{edges_in, ring_finding, finding_number_of, finding_position_of}

-- "A position in a later ring adds the entries of all rings before it, an edge's too": in a ring, where those before it pass 01 to 05, the
-- least place of which P holds, and i counts it so
pub record Placed (points : List Point) (p : Polygon) (P : List ℕ → ℕ → Type 0) (i : ℕ) : Type 0 where
  pub done : List (List ℕ)
  pub ring : List ℕ
  pub rest : List (List ℕ)
  pub rings : rings_of p ≡ done ++ ring ∷ rest
  pub pass : All (λ (r : List ℕ). ring_finding points r ≡ Sound) done
  pub at : ℕ
  pub counted : i ≡ length (all (λ r. r) done) + at
  pub least : Least (P ring) at

-- "for 03 the least entry index whose number stood earlier, the closing entry aside; for 05 the least edge index, counted from 0, that
-- has a forbidden meeting; for 06 the least failing entry index; else 0"; 06 "for all points with the outer ring's normal and first
-- point"; "0E and 0F give 0"
pub record Position (tolerance : ℕ) (points : List Point) (p : Polygon) (f : Finding) : Type 0 where
  pub of_03 : finding_number_of f ≡ 3 → Placed points p Stood (finding_position_of f)
  pub of_05 : finding_number_of f ≡ 5 → Placed points p (λ ring. Meets (edges_in (largest_axis_of (normal (places points ring))) (places points ring))) (finding_position_of f)
  pub of_06 : finding_number_of f ≡ 6 → Least (Off tolerance (normal (places points p.outer)) (places points (entries_from p))) (finding_position_of f)
  pub of_others : (finding_number_of f ≡ 3 → ⊥) → (finding_number_of f ≡ 5 → ⊥) → (finding_number_of f ≡ 6 → ⊥) → finding_position_of f ≡ 0
