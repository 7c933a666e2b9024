-- Polygons that stand one after another in the table of entries.
use Rattle.std.specs.Prelude.{ℕ, ◌≤◌, ◌≡◌, List, length, get_or}

-- the rings of the polygons from p up to q lie in the table
pub record Span (entries starts firsts : List ℕ) (p q : ℕ) : Type 0 where
  pub entries-size : length entries ≡ 1024
  pub starts_size : length starts ≡ 1025
  pub firsts_size : length firsts ≡ 257
  pub first : p ≤ 256
  pub last : q ≤ 256
  pub first_ring : get_or firsts p 0 ≤ 1024
  pub last_ring : get_or firsts q 0 ≤ 1024
  pub forward : get_or starts (get_or firsts p 0) 0 ≤ get_or starts (get_or firsts q 0) 0
  pub inside : get_or starts (get_or firsts q 0) 0 ≤ 1024
