-- The thirteen checks one by one.
use Rattle.std.specs.Prelude.{ℕ, ◌≡◌, false, List, map, ltb, length, pos}
use Rattle.std.proofs.Math.Option.{none}
use Rattle.std.specs.Int.Signed.{le_z}
use Rattle.whole.specs.All.{All}
use Rattle.space.specs.declared.Axis.{Axis}
use Rattle.space.specs.Space.{Point, places}
use Rattle.plane.specs.Plane.{largest_axis_of}
use Rattle.polygon.specs.Ring.{is_short, edges_in}
use Rattle.ring.specs.Entries.{is_unclosed, is_repeated}
use Rattle.ring.specs.Polygon.{Polygon, rings_of, entries_from, all_rings}
use Rattle.normal.specs.Normal.{normal, is_zero_of}
use Rattle.crossing.specs.Crossed.{is_crossed}
use Rattle.even.specs.Even.{is_uneven}
use Rattle.holes.specs.Holes.{seen, component_of, is_shared, is_misplaced_of}
use Rattle.edges.specs.Edges.{used_once, used_often, used_alike}
use Rattle.shell.specs.Shell.{not_reached, not_linked}
use Rattle.building.specs.Tables.{Tables}
use Rattle.building.specs.Report.{six_volume_of}

-- a ring that fails none of checks 01 to 05
pub record PassesRing (points : List Point) (ring : List ℕ) : Type 0 where
  pub not_01 : is_short ring ≡ false
  pub not_02 : is_unclosed ring ≡ false
  pub not_03 : is_repeated ring ≡ false
  pub not_04 : is_zero_of (normal (places points ring)) ≡ false
  pub not_05 : is_crossed (edges_in (largest_axis_of (normal (places points ring))) (places points ring)) ≡ false

-- "the outer ring's drop axis"
abbrev pub axis_of : List Point → Polygon → Axis
axis_of points p = largest_axis_of (normal (places points p.outer))

-- a polygon that fails none of checks 01 to 06, 0E and 0F
pub record Passes (tolerance : ℕ) (points : List Point) (p : Polygon) : Type 0 where
  pub rings-pass : All (PassesRing points) (rings_of p)
  pub not_06 : is_uneven tolerance (normal (places points p.outer)) (places points (entries_from p)) ≡ false
  pub not_0E : is_shared (map (seen (axis_of points p) points) (rings_of p)) ≡ false
  pub not_0F : is_misplaced_of (seen (axis_of points p) points p.outer) (map (seen (axis_of points p) points) p.inner) (component_of (axis_of points p) points p.outer) (map (component_of (axis_of points p) points) p.inner) ≡ false

-- polygons that fail none of checks 07 to 0C
pub record Manifold (ps : List Polygon) : Type 0 where
  pub not_07 : ltb (length ps) 4 ≡ false
  pub not_08 : used_once (all_rings ps) ≡ none
  pub not_09 : used_often (all_rings ps) ≡ none
  pub not_0A : used_alike (all_rings ps) ≡ none
  pub not_0B : not_reached ps ≡ none
  pub not_0C : not_linked ps ≡ none

-- a building that fails none of the thirteen
pub record NoneOfThirteen (t : Tables) : Type 0 where
  pub polygons-pass : All (Passes t.tolerance t.points) t.polygons
  pub all_pass : Manifold t.polygons
  pub not_0D : le_z (six_volume_of t) (pos 0) ≡ false
