-- Where check 06 is met, in plain words.
use Rattle.std.specs.Prelude.{ℕ, ◌<◌, ◌≡◌, true, List, length, get_or}
use Rattle.space.specs.Space.{Point, origin, relative_to, dot}
use Rattle.even.specs.Even.{exceeds}

-- entry i fails: "the square of N·(p - first) exceeds tolerance squared times the sum of the squares of N's components"
pub record Off (tolerance : ℕ) (n : Point) (ps : List Point) (i : ℕ) : Type 0 where
  pub inside : i < length ps
  pub off : exceeds tolerance n (dot n (relative_to (get_or ps 0 origin) (get_or ps i origin))) ≡ true
