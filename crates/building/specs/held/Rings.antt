-- A part of a table, and a polygon that lies in the tables.
use Rattle.std.specs.Prelude.{ℕ, ◌+◌, ◌-◌, ◌<◌, ◌≡◌, List, length, get_or, take, drop}
use Rattle.holes.specs.held.Rings.{Lies}

-- the elements from place a up to place e
abbrev pub cut : {A : Type 0} → ℕ → ℕ → List A → List A
cut a e l = take (e - a) (drop a l)

-- polygon p stands in the tables
pub record Stands (entries starts firsts : List ℕ) (p : ℕ) : Type 0 where
  pub firsts_size : length firsts ≡ 257
  pub few : p < 256
  pub lies : Lies entries starts (get_or firsts p 0) (get_or firsts (p + 1) 0)
