-- How far the entries of a ring are off its plane, as code holds it.
use Rattle.std.specs.Prelude.{ℕ, ◌<◌, ◌≤◌, max, List, get_or, length, ℤ, nat_abs}
use Rattle.space.specs.Space.{Point, relative_to, dot}
use Rattle.space.specs.held.Points.{place_at}

-- the largest of the sizes of a point's numbers
unfoldable pub largest : Point → ℕ
largest n = max (nat_abs n.x) (max (nat_abs n.y) (nat_abs n.z))

-- entries each of which is the number of a point, however many they are
pub record Listed (ring : List ℕ) : Type 0 where
  pub each : (i : ℕ) → i < length ring → get_or ring i 0 < 512

-- the size of N·(p - first) for entry i
abbrev pub off_at : List ℤ → Point → List ℕ → ℕ → ℕ
off_at flat n ring i = nat_abs (dot n (relative_to (place_at flat (get_or ring 0 0)) (place_at flat (get_or ring i 0))))

-- entries from i up to j are off by no more than a reach
pub record Within (flat : List ℤ) (n : Point) (ring : List ℕ) (reach i j : ℕ) : Type 0 where
  pub start : i ≤ j
  pub upto : j ≤ length ring
  pub each : (k : ℕ) → i ≤ k → k < j → off_at flat n ring k ≤ reach

-- j is the first from i on that is off by more, or the length
pub record Next (flat : List ℤ) (n : Point) (ring : List ℕ) (reach i j : ℕ) : Type 0 where
  pub within : Within flat n ring reach i j
  pub beyond : j < length ring → reach < off_at flat n ring j
