-- The ends of boxes as code holds them: on one axis, the least and the largest step of each edge, and of each block of eight edges.
use Rattle.std.specs.Prelude.{ℕ, ◌+◌, ◌/◌, ◌<◌, ◌≤◌, min, max, ◌≡◌, Bool, true, false, cond, List, get_or, length, ℤ, pos, nat_abs, ◌+ℤ◌}
use Rattle.whole.specs.held.Small.{Small}
use Rattle.extents.specs.declared.Extents.{Extents}

-- the step that a coordinate is on, four to a step, counted from the least coordinate
abbrev pub step : ℤ → ℕ
step z = nat_abs (z +ℤ pos 100000) / 4

-- the largest of two numbers, or the least
abbrev pub ending : Bool → ℕ → ℕ → ℕ
ending high p q = cond high (max p q) (min p q)

-- the numbers of m edges on one axis are there, and are coordinates
pub record Line (us : List ℤ) (m : ℕ) : Type 0 where
  pub room : m < length us
  pub close : (i : ℕ) → i ≤ m → Small 100000 (get_or us i (pos 0))

-- room that holds the steps of the places of m edges
pub record Steps (us : List ℤ) (m : ℕ) (ps : List ℕ) : Type 0 where
  pub all : length ps ≡ 176
  pub each : (i : ℕ) → i ≤ m → get_or ps i 0 ≡ step (get_or us i (pos 0))

-- room that holds the largest of each two numbers that follow one another, m times, or the least
pub record Endings (ps : List ℕ) (m : ℕ) (high : Bool) (room : List ℕ) : Type 0 where
  pub all : length room ≡ 176
  pub each : (i : ℕ) → i < m → get_or room i 0 ≡ ending high (get_or ps i 0) (get_or ps (i + 1) 0)

-- x is not below y, or not above
pub record Beyond (high : Bool) (x y : ℕ) : Type 0 where
  pub above : high ≡ true → y ≤ x
  pub below : high ≡ false → x ≤ y

-- x is beyond each number from j up to e
pub record Ahead (room : List ℕ) (high : Bool) (j e x : ℕ) : Type 0 where
  pub each : (k : ℕ) → j ≤ k → k < e → Beyond high x (get_or room k 0)

-- room where each end of a block, from 144 on, is beyond the ends of its edges, m in all, which stand as they did
pub record Blocks (m : ℕ) (high : Bool) (old room : List ℕ) : Type 0 where
  pub all : length room ≡ 176
  pub same : (k : ℕ) → k < 144 → get_or room k 0 ≡ get_or old k 0
  pub each : (k : ℕ) → k < m → Beyond high (get_or room (144 + k / 8) 0) (get_or room k 0)

-- on one axis, the box of each block covers the boxes of its edges
pub record Covered (m : ℕ) (x : Extents) : Type 0 where
  pub low-all : length x.lows ≡ 176
  pub high-all : length x.highs ≡ 176
  pub low : (k : ℕ) → k < m → get_or x.lows (144 + k / 8) 0 ≤ get_or x.lows k 0
  pub high : (k : ℕ) → k < m → get_or x.highs k 0 ≤ get_or x.highs (144 + k / 8) 0

-- on one axis, the least and the largest step of each of m edges, and of each block
pub record Sides (us : List ℤ) (m : ℕ) (x : Extents) : Type 0 where
  pub line : Line us m
  pub blocks : Covered m x
  pub low : (k : ℕ) → k < m → get_or x.lows k 0 ≡ ending false (step (get_or us k (pos 0))) (step (get_or us (k + 1) (pos 0)))
  pub high : (k : ℕ) → k < m → get_or x.highs k 0 ≡ ending true (step (get_or us k (pos 0))) (step (get_or us (k + 1) (pos 0)))
