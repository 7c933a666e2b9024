-- The rings of a polygon as they lie in the tables.
use Rattle.std.specs.Prelude.{ℕ, ◌+◌, ◌≤◌, ◌<◌, ◌≡◌, false, List, length, get_or, ℤ}
use Rattle.space.specs.held.Points.{Known}
use Rattle.plane.specs.Plane.{Spot}
use Rattle.ring.specs.Entries.{is_unclosed}
use Rattle.ring.specs.held.Rings.{ring_at}
use Rattle.rays.specs.held.Seen.{spots_in}

-- ring r lies in the table of entries, each of which is the number of a point
pub record Ring (entries starts : List ℕ) (r : ℕ) : Type 0 where
  pub entries-size : length entries ≡ 1024
  pub starts_size : length starts ≡ 1025
  pub few : r < 1024
  pub forward : get_or starts r 0 ≤ get_or starts (r + 1) 0
  pub inside : get_or starts (r + 1) 0 ≤ 1024
  pub known : Known (ring_at entries starts r)

-- so do the rings from one up to another
pub record Rings (entries starts : List ℕ) (from to : ℕ) : Type 0 where
  pub few : to ≤ 1024
  pub each : (r : ℕ) → from ≤ r → r < to → Ring entries starts r

-- the rings of a polygon, of which there is one, do
pub record Lies (entries starts : List ℕ) (from to : ℕ) : Type 0 where
  pub some : from < to
  pub rings : Rings entries starts from to

-- each of them has an entry
pub record Filled (entries starts : List ℕ) (from to : ℕ) : Type 0 where
  pub each : (r : ℕ) → from ≤ r → r < to → 1 ≤ length (ring_at entries starts r)

-- each of them is closed
pub record Closings (entries starts : List ℕ) (from to : ℕ) : Type 0 where
  pub each : (r : ℕ) → from ≤ r → r < to → is_unclosed (ring_at entries starts r) ≡ false

-- where the entries of ring r stand in the plane of coordinates j and k
abbrev pub spots_at : List ℤ → ℕ → ℕ → List ℕ → List ℕ → ℕ → List Spot
spots_at flat j k entries starts r = spots_in flat j k (ring_at entries starts r)
