-- While a load runs, the room of the edge table holds the points by their places: words 0 to 511 are the heads of chains, one to a
-- bucket, and word 512 + i is the link of point i. A head or link is 0, or one more than the number of a point; each link names a lower
-- point than its own, so that a chain ends.
use Rattle.std.specs.Prelude.{ℕ, zero, suc, ◌+◌, ◌<◌, ◌≡◌, cond, List, eqb, length, get_or, set, ℤ}
use Rattle.space.specs.Space.{Point}
use Rattle.space.specs.held.Points.{place_at}
use Rattle.taken.specs.held.Buckets.{bucket_of}

-- one more than the number of the last point below n in bucket b; 0 if there is none
unfoldable pub last_below : List ℤ → ℕ → ℕ → ℕ
last_below points b zero = 0
last_below points b (suc n) = cond (eqb (bucket_of (place_at points n)) b) (suc n) (last_below points b n)

-- the chains of the first n points
pub record Chained (points : List ℤ) (table : List ℕ) (n : ℕ) : Type 0 where
  pub size : length table ≡ 1024
  pub heads : (b : ℕ) → b < 512 → get_or table b 0 ≡ last_below points b n
  pub links : (i : ℕ) → i < n → get_or table (512 + i) 0 ≡ last_below points (bucket_of (place_at points i)) i

-- the table with point n, which stands at p, before the first of its bucket
abbrev pub linked : List ℕ → ℕ → Point → List ℕ
linked table n p = set (set table (512 + n) (get_or table (bucket_of p) 0)) (bucket_of p) (n + 1)
