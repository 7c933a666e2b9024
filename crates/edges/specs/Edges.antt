-- Edges of rings of point numbers, and how often they are used: checks 08, 09 and 0A.
use Rattle.std.specs.Prelude.{ℕ, ◌+◌, ◌*◌, ◌/◌, ◌%◌, min, max, Bool, ◌||◌, List, map, eqb, leb, ltb}
use Rattle.std.proofs.Math.Option.{Option}
use Rattle.whole.specs.Lists.{steps, tally, keep, least}
use Rattle.ring.specs.Polygon.{all}

-- a step from a to b, as one number
unfoldable pub way : ℕ → ℕ → ℕ
way a b = a * 65536 + b

-- "An edge is reported as the smaller number a and the larger b; the edge reported is the one with least a, then least b":
-- one number, whose order is that one
unfoldable pub edge : ℕ → ℕ → ℕ
edge a b = way (min a b) (max a b)

-- "the smaller number a"
unfoldable pub smaller : ℕ → ℕ
smaller e = e / 65536

-- "and the larger b"
unfoldable pub larger : ℕ → ℕ
larger e = e % 65536

-- the edges of a ring, and the ways it goes along them
unfoldable pub edges_of : List ℕ → List ℕ
edges_of ring = map (λ s. edge s.0 s.1) (steps ring)

unfoldable pub ways_of : List ℕ → List ℕ
ways_of ring = map (λ s. way s.0 s.1) (steps ring)

-- how often a number stands in a list
unfoldable pub count : ℕ → List ℕ → ℕ
count n l = tally (eqb n) l

-- the least edge of the rings of which a test of the number of its uses holds
unfoldable pub least_used : (ℕ → Bool) → List (List ℕ) → Option ℕ
least_used t rings = let es = all edges_of rings in least (keep (λ e. t (count e es)) es)

-- 08: "an edge is used once"
unfoldable pub used_once : List (List ℕ) → Option ℕ
used_once rings = least_used (λ n. eqb n 1) rings

-- 09: "an edge is used more than twice"
unfoldable pub used_often : List (List ℕ) → Option ℕ
used_often rings = least_used (λ n. ltb 2 n) rings

-- 0A: "an edge is used twice in the same direction"
unfoldable pub used_alike : List (List ℕ) → Option ℕ
used_alike rings =
    let ws = all ways_of rings in
    least (keep (λ e. leb 2 (count e ws) || leb 2 (count (way (larger e) (smaller e)) ws)) (all edges_of rings))

unfoldable pub edges_compute : Unit {0}
unfolding way edge smaller larger edges_of ways_of count least_used used_once used_often used_alike
edges_compute = tt
