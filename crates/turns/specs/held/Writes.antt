-- Every word that a turn writes: no other arrays meet its statement.
use Rattle.std.specs.Prelude.{ℕ, ◌-◌, ◌≡◌, List, reverse, get_or, set, ℤ}
use Rattle.polygon.specs.Ring.{finding}
use Rattle.volume.specs.Part.{part}
use Rattle.space.specs.held.Points.{points_of}
use Rattle.ring.specs.held.Rings.{ring_at}
use Rattle.building.specs.declared.Arrays.{Arrays}
use Rattle.building.specs.declared.Scalars.{Scalars}
use Rattle.polygon.specs.held.Findings.{kept_finding}
use Rattle.building.specs.held.Holds.{Shown, corrected}
use Rattle.turns.specs.held.Rings.{turned_entries}

module _ (a : Arrays) (s : Scalars) where
  -- a turn: one ring backwards in its place, its stamp, its finding, its part and its flag, and the shape as the rings stand then
  pub record TurnWrites (number n : ℕ) (entries' stamps' findings' : List ℕ) (parts' : List ℤ) (turned' : List ℕ) (r : Scalars) : Type 0 where
    pub entries : entries' ≡ turned_entries a.rings.entries a.rings.starts n
    pub stamps : stamps' ≡ set a.stamps n number
    pub findings : findings' ≡ set a.findings n (kept_finding (finding s.tolerance (points_of a.points.flat) (reverse (ring_at a.rings.entries a.rings.starts n))))
    pub parts : parts' ≡ set a.parts n (part (points_of a.points.flat) (reverse (ring_at a.rings.entries a.rings.starts n)))
    pub turned : turned' ≡ set a.turned n (1 - get_or a.turned n 0)
    pub scalars : r ≡ corrected s number r.shape
    pub shown : Shown a.table s.edges turned' s.fixed r.shape
