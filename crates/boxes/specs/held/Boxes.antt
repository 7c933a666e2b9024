-- The boxes of edges that code holds for check 05, and of blocks of eight edges: on either axis, the least and the largest step.
use Rattle.std.specs.Prelude.{ℕ, ◌+◌, ◌<◌, ◌≤◌, ◌≡◌, Bool, true, false, ◌&&◌, ◌||◌, ltb, eqb, get_or}
use Rattle.crossing.specs.declared.Columns.{Columns}
use Rattle.extents.specs.declared.Extents.{Extents}
use Rattle.extents.specs.held.Extents.{Sides}

-- the boxes of edges and of their blocks
pub record Boxes (c : Columns) (u v : Extents) : Type 0 where
  pub few : c.m ≤ 128
  pub on_u : Sides c.us.now c.m u
  pub on-v : Sides c.vs.now c.m v

-- on one axis, boxes i and k have no step in common
abbrev pub parted : Extents → ℕ → ℕ → Bool
parted x i k = ltb (get_or x.highs i 0) (get_or x.lows k 0) || ltb (get_or x.highs k 0) (get_or x.lows i 0)

-- where r holds, the boxes from j up to e are parted from box i
pub record Parted (u v : Extents) (i j e : ℕ) (r : Bool) : Type 0 where
  pub each : r ≡ true → (k : ℕ) → j ≤ k → k < e → (parted u i k || parted v i k) ≡ true

-- none before e is the last of m edges where i is the first: past the next one, these are no neighbours of edge i
pub record Apart (m i e : ℕ) : Type 0 where
  pub each : (k : ℕ) → k < e → (eqb i 0 && eqb (k + 1) m) ≡ false
