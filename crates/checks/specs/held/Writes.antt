-- Every word that end of load writes: no other arrays meet its statement.
use Rattle.std.specs.Prelude.{ℕ, ◌≡◌, List, leb, ℤ}
use Rattle.shell.specs.declared.Shape.{Shape}
use Rattle.shell.specs.held.Kept.{Built}
use Rattle.building.specs.declared.Arrays.{Arrays}
use Rattle.building.specs.declared.Scalars.{Scalars}
use Rattle.building.specs.held.Holds.{Shown}
use Rattle.whole.specs.held.Stored.{zeroed}
use Rattle.checks.specs.held.Steps.{Checked}
use Rattle.checks.specs.held.Early.{EarlyAt}

-- the scalars after end of load
abbrev pub checked : Scalars → ℕ → Shape → Shape → Scalars
checked s edges fixed shape = record { tolerance = s.tolerance; points = s.points; polygons = s.polygons; last = 0; edges = edges; fixed = fixed; shape = shape }

module _ (a : Arrays) (s : Scalars) where
  -- end of load: stamp and flag 0, finding and part of each polygon, and the edge table, with a verdict where `low`, the first polygon that
  -- fails one of checks 01 to 03, is none of them
  pub record LoadWrites (stamps' findings' : List ℕ) (parts' : List ℤ) (table' turned' : List ℕ) (r : Scalars) : Type 0 where
    pub stamps : stamps' ≡ zeroed a.stamps 256
    pub turned : turned' ≡ zeroed a.turned 256
    pub each : Checked s.tolerance a.points.flat a.rings.entries a.rings.starts a.rings.firsts s.polygons a.findings a.parts findings' parts'
    pub low : ℕ
    pub early : EarlyAt findings' s.polygons low
    pub table : Built a.rings.entries a.rings.starts a.rings.firsts s.polygons a.table table' r.edges (leb s.polygons low) r.fixed
    pub scalars : r ≡ checked s r.edges r.fixed r.shape
    pub shown : Shown table' r.edges turned' r.fixed r.shape
