-- What is kept of the edges from end of load on: the table, a flag for each polygon that stands turned, and, where each ring passes 01 to
-- 03, the verdict of all checks but 0A, which alone changes by turns.
use Rattle.std.specs.Prelude.{ℕ, zero, suc, ◌+◌, ◌-◌, ◌%◌, ◌≤◌, ◌<◌, ◌≡◌, Bool, true, false, cond, List, [], ◌∷◌, eqb, ltb, length, get_or, take}
use Rattle.std.proofs.Math.Option.{Option, none, some, map}
use Rattle.whole.specs.Lists.{given, first, tab}
use Rattle.shell.specs.declared.Shape.{Shape}
use Rattle.shell.specs.declared.Shape.TheVariants.{Whole, Few, Once, Often, Alike, Apart, Unlinked}
use Rattle.edges.specs.Edges.{used_once, used_often}
use Rattle.shell.specs.Shell.{by_ends, not_reached, not_linked}
use Rattle.ring.specs.Polygon.{Polygon, all_rings, turned_over}
use Rattle.ring.specs.held.Rings.{ring_at, polygon_at, polygons, Layout}
use Rattle.shell.specs.held.Held.{Entries}
use Rattle.words.specs.held.Words.{key_from, poly_from, dir_of}
use Rattle.edges.specs.held.Table.{words_of, table_of}
use Rattle.edges.specs.Order.{ascending}

-- a ring that passes checks 01, 02 and 03
pub record Sound (ring : List ℕ) : Type 0 where
  pub long : 4 ≤ length ring
  pub closed : get_or ring (length ring - 1) 0 ≡ get_or ring 0 0
  pub once : (i j : ℕ) → i < j → j + 1 < length ring → get_or ring i 0 ≡ get_or ring j 0 → ⊥

-- arrays that hold n polygons, whose rings each pass checks 01 to 03, and of which no two rings of one list the same number: such rings
-- share a point wherever it stands, which 0E reports
pub record Loaded (entries starts firsts : List ℕ) (n : ℕ) : Type 0 where
  pub points : ℕ
  pub layout : Layout entries starts firsts n
  pub held : Entries entries (get_or starts (get_or firsts n 0) 0) points
  pub sound : (r : ℕ) → r < get_or firsts n 0 → Sound (ring_at entries starts r)
  pub apart : (p r s i j : ℕ) → p < n → get_or firsts p 0 ≤ r → r < s → s < get_or firsts (p + 1) 0 → i < length (ring_at entries starts r) → j < length (ring_at entries starts s) → get_or (ring_at entries starts r) i 0 ≡ get_or (ring_at entries starts s) j 0 → ⊥

-- the shape, had check 0A not been asked
unfoldable pub fixed_shape : List Polygon → Shape
fixed_shape ps =
    first Whole
    (given (ltb (length ps) 4) (Few (length ps)) ∷
    map (by_ends Once) (used_once (all_rings ps)) ∷
    map (by_ends Often) (used_often (all_rings ps)) ∷
    map Apart (not_reached ps) ∷
    map Unlinked (not_linked ps) ∷
    [])

-- checks 0B and 0C alone
unfoldable pub hanging : List Polygon → Shape
hanging ps = first Whole (map Apart (not_reached ps) ∷ map Unlinked (not_linked ps) ∷ [])

-- checks 07, 08 and 09 come before 0A, and 0B and 0C after it
unfoldable pub early : Shape → Bool
early (Few n) = true
early (Once a b) = true
early (Often a b) = true
early (Alike a b) = false
early (Apart p) = false
early (Unlinked v) = false
early Whole = false

-- the verdict with 0A asked too, of which o is the least edge that fails it
unfoldable pub or_alike : Shape → Option ℕ → Shape
or_alike fixed none = fixed
or_alike fixed (some e) = by_ends Alike e

unfoldable pub now_of : Shape → Option ℕ → Shape
now_of fixed o = elim (early fixed) [ true ↦ fixed | false ↦ or_alike fixed o ]

-- the direction in which a word's step is gone now: as loaded, or the other way where its polygon stands turned
abbrev pub heading_of : List ℕ → ℕ → ℕ
heading_of turned w = (dir_of w + get_or turned (poly_from w) 0) % 2

-- the edge of the first two words, two by two, whose steps are gone in one direction
unfoldable pub alike_in : List ℕ → List ℕ → Option ℕ
alike_in turned [] = none
alike_in turned (w ∷ []) = none
alike_in turned (w ∷ v ∷ l) = elim (eqb (heading_of turned w) (heading_of turned v)) [ true ↦ some (key_from w) | false ↦ alike_in turned l ]

-- the words of loaded polygons, in order
pub record Table (entries starts firsts : List ℕ) (n : ℕ) (words : List ℕ) : Type 0 where
  pub loaded : Loaded entries starts firsts n
  pub words_are : words ≡ ascending (words_of entries starts firsts n)

-- what end of load leaves: the table, the number of its words, and the verdict that turns do not change; where some polygon is not sound
-- there is none to tell, and `Few 0` stands in for it
pub record Built (entries starts firsts : List ℕ) (n : ℕ) (room table : List ℕ) (count : ℕ) (sound : Bool) (fixed : Shape) : Type 0 where
  pub table_is : table ≡ table_of entries starts firsts n room
  pub count_is : count ≡ length (words_of entries starts firsts n)
  pub fixed_is : fixed ≡ cond sound (fixed_shape (polygons entries starts firsts n)) (Few 0)

-- a polygon under its flag
unfoldable pub turn : ℕ → Polygon → Polygon
turn zero p = p
turn (suc k) p = turned_over p

-- the polygons that were loaded, each under its flag
unfoldable pub turned_polygons : List ℕ → List ℕ → List ℕ → ℕ → List ℕ → List Polygon
turned_polygons entries starts firsts n turned = tab (λ p. turn (get_or turned p 0) (polygon_at entries starts firsts p)) n

-- the table, its number of words and the flags belong to the present polygons ps, whatever their findings
pub record Listed (ps : List Polygon) (table : List ℕ) (count : ℕ) (turned : List ℕ) : Type 0 where
  pub entries : List ℕ
  pub starts : List ℕ
  pub firsts : List ℕ
  pub number : ℕ
  pub layout : Layout entries starts firsts number
  pub flags : (p : ℕ) → get_or turned p 0 ≤ 1
  pub present : ps ≡ turned_polygons entries starts firsts number turned
  pub words : take count table ≡ ascending (words_of entries starts firsts number)
  pub room : count ≤ length table

-- and so does the verdict, where each polygon is sound
pub record Edged (ps : List Polygon) (table : List ℕ) (count : ℕ) (turned : List ℕ) (fixed : Shape) : Type 0 where
  pub listed : Listed ps table count turned
  pub loaded : Loaded listed.entries listed.starts listed.firsts listed.number
  pub fixed_is : fixed ≡ fixed_shape (polygons listed.entries listed.starts listed.firsts listed.number)
