-- Check 05: which two edges have in common what they may not, and where 05 is met.
use Rattle.std.specs.Prelude.{ℕ, suc, Bool, true, false, ◌&&◌, ◌||◌, List, eqb, ltb, length}
use Rattle.whole.specs.Lists.{any, any_two, least_index, numbered}
use Rattle.plane.specs.Plane.{Segment, share, share_more_of}

-- of m edges, counted from 0, edge j comes after edge i, and the first after the last
unfoldable pub follows : ℕ → ℕ → ℕ → Bool
follows m i j = eqb j (suc i) || eqb j 0 && eqb (suc i) m

-- "two edges that aren't neighbours share a point, or two neighbours share more than their common end"
unfoldable pub forbidden : ℕ → ℕ × Segment → ℕ × Segment → Bool
forbidden m e f =
    elim (follows m e.0 f.0) [
      | true ↦ share_more_of e.1 f.1
      | false ↦ elim (follows m f.0 e.0) [ true ↦ share_more_of f.1 e.1 | false ↦ share e.1 f.1 ]
    ]

-- 05
unfoldable pub is_crossed : List Segment → Bool
is_crossed es = any_two (forbidden (length es)) (numbered es)

-- whether two edges have a forbidden meeting, whichever of them comes first
unfoldable pub meets : ℕ → ℕ × Segment → ℕ × Segment → Bool
meets m e f = ltb e.0 f.0 && forbidden m e f || ltb f.0 e.0 && forbidden m f e

-- document 02 (iii): "for 05 the least edge index, counted from 0, that has a forbidden meeting"; where there is none, how many edges
-- there are
unfoldable pub crossed_at : List Segment → ℕ
crossed_at es = least_index (λ e. any (meets (length es) e) (numbered es)) (numbered es)

unfoldable pub crossed_computes : Unit {0}
unfolding follows forbidden is_crossed meets crossed_at
crossed_computes = tt
