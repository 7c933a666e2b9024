-- How the arrays hold polygons: the entries one after another, where each ring starts, and which ring is each polygon's first.
use Rattle.std.specs.Prelude.{ℕ, zero, suc, ◌+◌, ◌-◌, ◌≤◌, ◌<◌, ◌≡◌, true, false, List, leb, length, get_or, take, drop}
use Rattle.whole.specs.Lists.{tab}
use Rattle.whole.specs.held.Spans.{span}
use Rattle.ring.specs.Polygon.{Polygon}

-- ring r stands from its start up to the next one's
abbrev pub ring_at : List ℕ → List ℕ → ℕ → List ℕ
ring_at entries starts r = take (get_or starts (r + 1) 0 - get_or starts r 0) (drop (get_or starts r 0) entries)

-- the polygon whose outer ring is ring `from`, the inner ones being the rings after it, up to ring `to`
abbrev pub polygon_of : List ℕ → List ℕ → ℕ → ℕ → Polygon
polygon_of entries starts from to = record { outer = ring_at entries starts from; inner = span (ring_at entries starts) (from + 1) (to - from - 1) }

-- polygon p, whose rings stand from its first up to the next one's
abbrev pub polygon_at : List ℕ → List ℕ → List ℕ → ℕ → Polygon
polygon_at entries starts firsts p = polygon_of entries starts (get_or firsts p 0) (get_or firsts (p + 1) 0)

-- the n polygons that the arrays hold
unfoldable pub polygons : List ℕ → List ℕ → List ℕ → ℕ → List Polygon
polygons entries starts firsts n = tab (polygon_at entries starts firsts) n

-- the arrays hold n polygons: each has a ring, no ring starts before the one before it, and the last ends in the table
pub record Layout (entries starts firsts : List ℕ) (n : ℕ) : Type 0 where
  pub entries-size : length entries ≡ 1024
  pub starts_size : length starts ≡ 1025
  pub firsts_size : length firsts ≡ 257
  pub few : n ≤ 256
  pub begin : get_or firsts 0 0 ≡ 0
  pub rising : (p q : ℕ) → p < q → q ≤ n → get_or firsts p 0 < get_or firsts q 0
  pub many : get_or firsts n 0 ≤ 1024
  pub ordered : (r s : ℕ) → r ≤ s → s ≤ get_or firsts n 0 → get_or starts r 0 ≤ get_or starts s 0
  pub inside : get_or starts (get_or firsts n 0) 0 ≤ 1024

-- of n + 1 that start where `starts` says, the one that i belongs to: the last that starts there or before
unfoldable pub owner_of : List ℕ → ℕ → ℕ → ℕ
owner_of starts zero i = 0
owner_of starts (suc n) i = elim (leb (get_or starts (suc n) 0) i) [ true ↦ suc n | false ↦ owner_of starts n i ]
