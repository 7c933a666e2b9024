-- What a word of the edge table holds, and where the other word of its pair stands.
use Rattle.std.specs.Prelude.{ℕ, zero, suc, ◌+◌, ◌/◌, ◌%◌, ◌≤◌, ◌<◌, ◌≡◌}
use Rattle.words.specs.declared.Node.{Node}
use Rattle.words.specs.declared.Node.TheVariants.{Polygon, Smaller, Larger}

-- a word holds the edge, the polygon, the entry where the step starts, the one where it ends, and the direction: 0 from the smaller
-- number to the larger
abbrev pub key_from : ℕ → ℕ
key_from w = w / 536870912

abbrev pub poly_from : ℕ → ℕ
poly_from w = w / 2097152 % 256

abbrev pub step_of : ℕ → ℕ
step_of w = w / 2048 % 1024

abbrev pub next_of : ℕ → ℕ
next_of w = w / 2 % 1024

abbrev pub dir_of : ℕ → ℕ
dir_of w = w % 2

abbrev pub pick : ℕ → ℕ → ℕ → ℕ
pick zero a b = a
pick (suc d) a b = b

-- the corners of a word at its edge's smaller and larger end
abbrev pub low_of : ℕ → ℕ
low_of w = pick (dir_of w) (step_of w) (next_of w)

abbrev pub high_of : ℕ → ℕ
high_of w = pick (dir_of w) (next_of w) (step_of w)

-- what a word joins: 0 its polygon, 1 and 2 its corners
abbrev pub node_of : ℕ → ℕ → ℕ
node_of zero w = poly_from w
node_of (suc zero) w = low_of w
node_of (suc (suc n)) w = high_of w

-- the number of each of the three
abbrev pub number_of : Node → ℕ
number_of Polygon = 0
number_of Smaller = 1
number_of Larger = 2

-- where the other word of the i-th of n words stands: pairs begin at even places, and the last word may have none
pub record Mate (n i r : ℕ) : Type 0 where
  pub within : r < n
  pub up : i % 2 ≡ 0 → i + 1 < n → r ≡ i + 1
  pub down : i % 2 ≡ 1 → r + 1 ≡ i
  pub none : i % 2 ≡ 0 → n ≤ i + 1 → r ≡ i
