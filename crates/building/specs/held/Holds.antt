-- How the arrays and the scalars hold a building.
use Rattle.std.specs.Prelude.{ℕ, ◌≤◌, ◌<◌, ◌≡◌, Bool, true, ◌||◌, List, ◌⊎◌, length, get_or, take, ℤ, pos}
use Rattle.polygon.specs.Ring.{is_short}
use Rattle.inner.specs.Finding.{finding, part}
use Rattle.ring.specs.Entries.{is_unclosed, is_repeated}
use Rattle.space.specs.held.Points.{points_of, Coords}
use Rattle.ring.specs.held.Rings.{ring_at, polygon_at, polygons, Layout}
use Rattle.shell.specs.held.Held.{Entries}
use Rattle.shell.specs.declared.Shape.{Shape}
use Rattle.shell.specs.held.Kept.{Listed, Edged, now_of, alike_in}
use Rattle.building.specs.declared.Arrays.{Arrays}
use Rattle.building.specs.declared.Scalars.{Scalars}
use Rattle.polygon.specs.held.Findings.{kept_finding}
use Rattle.building.specs.Tables.{Tables, Building}

-- the tables that the arrays and the scalars hold, in a load and after it
unfoldable pub held_tables : List ℤ → List ℕ → List ℕ → List ℕ → Scalars → Tables
held_tables points entries starts firsts s =
    record {
      tolerance = s.tolerance;
      points = take s.points (points_of points);
      polygons = polygons entries starts firsts s.polygons;
    }

-- the tables that all arrays hold
abbrev pub tables_in : Arrays → Scalars → Tables
tables_in a s = held_tables a.points.flat a.rings.entries a.rings.starts a.rings.firsts s

-- the building that they hold after a load
unfoldable pub held_building : Arrays → Scalars → Building
held_building a s =
    record {
      tables = held_tables a.points.flat a.rings.entries a.rings.starts a.rings.firsts s;
      last = s.last;
      stamps = take s.polygons a.stamps;
    }

-- the bounds of what a load fills
pub record Loaded (points : List ℤ) (entries starts firsts : List ℕ) (s : Scalars) : Type 0 where
  pub coords : Coords points
  pub first : get_or starts 0 0 ≡ 0
  pub layout : Layout entries starts firsts s.polygons
  pub ones : (p : ℕ) → p ≤ s.polygons → get_or firsts p 0 ≡ p
  pub entered : Entries entries (get_or starts (get_or firsts s.polygons 0) 0) s.points
  pub tolerant : s.tolerance ≤ 1000
  pub short : (r : ℕ) → r < get_or firsts s.polygons 0 → length (ring_at entries starts r) ≤ 128

-- the arrays that a load does not fill
pub record Sizes (a : Arrays) : Type 0 where
  pub stamps : length a.stamps ≡ 256
  pub findings : length a.findings ≡ 256
  pub parts : length a.parts ≡ 256
  pub table : length a.table ≡ 1024
  pub turned : length a.turned ≡ 256

-- every kept finding, with its position, is that of the present points and polygons
pub record Found (points : List ℤ) (entries starts firsts findings : List ℕ) (s : Scalars) : Type 0 where
  pub size : length findings ≡ 256
  pub each : (p : ℕ) → p < s.polygons → get_or findings p 0 ≡ kept_finding (finding s.tolerance (points_of points) (polygon_at entries starts firsts p))

-- and so is every kept part
pub record Summed (points : List ℤ) (entries starts firsts : List ℕ) (parts : List ℤ) (s : Scalars) : Type 0 where
  pub size : length parts ≡ 256
  pub each : (p : ℕ) → p < s.polygons → get_or parts p (pos 0) ≡ part (points_of points) (polygon_at entries starts firsts p)

-- whether a ring fails one of checks 01 to 03
unfoldable pub is_broken : List ℕ → Bool
is_broken ring = is_short ring || is_unclosed ring || is_repeated ring

-- the outer ring of some polygon fails one of checks 01 to 03, which no correction mends
pub record Broken (entries starts firsts : List ℕ) (n : ℕ) : Type 0 where
  pub polygon : ℕ
  pub below : polygon < n
  pub broken : is_broken (polygon_at entries starts firsts polygon).outer ≡ true

-- `now` is the shape that the kept table, flags and verdict tell: that of the present polygons, where each ring passes 01 to 03
abbrev pub Shown : List ℕ → ℕ → List ℕ → Shape → Shape → Type 0
Shown table edges turned fixed now = now ≡ now_of fixed (alike_in turned (take edges table))

-- what is kept of a held building is what the definitions give for the present points and rings; the edge table, whatever they are
pub record Kept (points : List ℤ) (entries starts firsts findings : List ℕ) (parts : List ℤ) (table turned : List ℕ) (s : Scalars) : Type 0 where
  pub found : Found points entries starts firsts findings s
  pub summed : Summed points entries starts firsts parts s
  pub table-size : length table ≡ 1024
  pub turned-size : length turned ≡ 256
  pub listed : Listed (polygons entries starts firsts s.polygons) table s.edges turned
  pub shaped : Broken entries starts firsts s.polygons ⊎ Edged (polygons entries starts firsts s.polygons) table s.edges turned s.fixed
  pub shown : Shown table s.edges turned s.fixed s.shape

-- what a load fills is within its bounds
abbrev pub LoadedIn : Arrays → Scalars → Type 0
LoadedIn a s = Loaded a.points.flat a.rings.entries a.rings.starts a.rings.firsts s

-- and what is kept of a held building is what the definitions give
abbrev pub KeptIn : Arrays → Scalars → Type 0
KeptIn a s = Kept a.points.flat a.rings.entries a.rings.starts a.rings.firsts a.findings a.parts a.table a.turned s

-- a held building
pub record Held (a : Arrays) (s : Scalars) : Type 0 where
  pub loaded : LoadedIn a s
  pub stamped : length a.stamps ≡ 256
  pub kept : KeptIn a s

-- what is held after it is the building b
pub record Did (b : Building) (a : Arrays) (s : Scalars) : Type 0 where
  pub held : Held a s
  pub is : held_building a s ≡ b

-- the arrays later, where looking at polygons anew left the points, the rings, the edge table and the flags as they were
pub record Beside (a a' : Arrays) : Type 0 where
  pub points : a'.points.flat ≡ a.points.flat
  pub rings : a'.rings ≡ a.rings
  pub table : a'.table ≡ a.table
  pub turned : a'.turned ≡ a.turned

-- the scalars after a correction: its number is the last
abbrev pub corrected : Scalars → ℕ → Shape → Scalars
corrected s number shape = record { tolerance = s.tolerance; points = s.points; polygons = s.polygons; last = number; edges = s.edges; fixed = s.fixed; shape = shape }
