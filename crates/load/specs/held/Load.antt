-- What frames 01 (begin) and 02 (a point more) ask of the arrays, what they change in them, and the rows that can refuse a point.
use Rattle.std.specs.Prelude.{ℕ, ◌≤◌, ◌<◌, ◌≡◌, List, false, ℤ, Result, ⊤}
use Rattle.whole.specs.held.Stored.{zeroed}
use Rattle.frame.specs.Frame.{point}
use Rattle.taken.specs.held.Chains.{Chained}
use Rattle.places.specs.held.Places.{point3}
use Rattle.places.specs.Points.{is_far_of}
use Rattle.space.specs.declared.Points.{Points}
use Rattle.building.specs.declared.Arrays.{Arrays}
use Rattle.service.specs.declared.Refusal.{Refusal}
use Rattle.modes.specs.declared.Mode.{Mode}
use Rattle.modes.specs.declared.Mode.TheVariants.{Nothing, Loading, Holding}
use Rattle.desk.specs.declared.Desk.{Desk}
use Rattle.desk.specs.held.Row.{Row}

-- the table with no chains: one that has never been used has none
unfoldable pub unchained : Mode → List ℕ → List ℕ
unchained Nothing table = table
unchained Loading table = zeroed table 512
unchained Holding table = zeroed table 512

-- the arrays with other points and another table
abbrev pub with_points : Points → List ℕ → Arrays → Arrays
with_points points table a =
    record { points = points; rings = a.rings; stamps = a.stamps; findings = a.findings; parts = a.parts; table = table; turned = a.turned }

-- what a point more asks of the arrays that it changes
pub record Placing (points : List ℤ) (table : List ℕ) (d : Desk) : Type 0 where
  pub few : d.held.points ≤ 512
  pub chained : d.mode ≡ Loading → Chained points table d.held.points

-- a point more is refused by the first row that holds; accepted, there is room for it, and it is near
abbrev pub PointRow : List ℤ → Desk → ℤ → ℤ → ℤ → Result ⊤ Refusal → Type 0
PointRow points d x y z r = Row d (λ a. a.points.flat ≡ points) (point x y z) ((d.held.points < 512) × (is_far_of (point3 x y z) ≡ false)) r
