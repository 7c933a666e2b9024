-- What frame 03 (a polygon more) asks of its line, what it changes in the arrays, and the rows that can refuse it.
use Rattle.std.specs.Prelude.{ℕ, ◌≤◌, ◌<◌, ◌+◌, ◌≡◌, List, length, drop, get_or, Result, ⊤}
use Rattle.frame.specs.held.Meaning.{Listed}
use Rattle.frame.specs.Frame.{numbers, polygon}
use Rattle.ring.specs.declared.Rings.{Rings}
use Rattle.building.specs.declared.Arrays.{Arrays}
use Rattle.service.specs.declared.Refusal.{Refusal}
use Rattle.desk.specs.declared.Desk.{Desk}
use Rattle.desk.specs.held.Row.{Row}

-- the arrays with other rings
abbrev pub with_rings : Rings → Arrays → Arrays
with_rings rings a =
    record { points = a.points; rings = rings; stamps = a.stamps; findings = a.findings; parts = a.parts; table = a.table; turned = a.turned }

-- the line of a polygon frame of n numbers
pub record PolygonLine (line : List ℕ) (n : ℕ) : Type 0 where
  pub count : n ≡ length (numbers (drop 2 line))
  pub few : n ≤ 128
  pub listed : (i : ℕ) → i < n → Listed line i

-- where the rings of n polygons end, each of which has one
pub record Ends (starts firsts : List ℕ) (n : ℕ) : Type 0 where
  pub few : n ≤ 256
  pub rings : get_or firsts n 0 ≡ n
  pub inside : get_or starts (get_or firsts n 0) 0 ≤ 1024

-- a polygon more; accepted, there is room for it and its entries
abbrev pub PolygonRow : List ℕ → List ℕ → Desk → List ℕ → Result ⊤ Refusal → Type 0
PolygonRow starts firsts d ring r =
    Row d (λ a. (a.rings.starts ≡ starts) × (a.rings.firsts ≡ firsts)) (polygon ring) ((d.held.polygons < 256) × (get_or starts (get_or firsts d.held.polygons 0) 0 + length ring ≤ 1024)) r
