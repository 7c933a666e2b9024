-- Every word that a move writes: no other arrays meet its statement.
use Rattle.std.specs.Prelude.{ℕ, ◌≡◌, List, ℤ}
use Rattle.space.specs.Space.{Point}
use Rattle.places.specs.held.Places.{placed}
use Rattle.building.specs.declared.Arrays.{Arrays}
use Rattle.building.specs.declared.Scalars.{Scalars}
use Rattle.building.specs.held.Holds.{corrected}
use Rattle.moves.specs.held.Steps.{Looked}

module _ (a : Arrays) (s : Scalars) where
  -- a move: one place, and stamp, finding and part of each polygon that lists the point
  pub record MoveWrites (number n : ℕ) (p : Point) (points' : List ℤ) (stamps' findings' : List ℕ) (parts' : List ℤ) (r : Scalars) : Type 0 where
    pub points : points' ≡ placed a.points.flat n p
    pub looked : Looked s.tolerance points' a.rings.entries a.rings.starts a.rings.firsts number n s.polygons a.stamps a.findings a.parts stamps' findings' parts'
    pub scalars : r ≡ corrected s number s.shape
