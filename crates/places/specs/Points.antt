-- The table of points: how a place is held against its bound and against the other points' places.
use Rattle.std.specs.Prelude.{ℕ, zero, suc, Bool, true, false, ◌||◌, List, [], ◌∷◌, ltb, nat_abs}
use Rattle.whole.specs.Lists.{any}
use Rattle.space.specs.Space.{Point, same_place_of}

-- "coordinate, in mm: -100,000 to 100,000, both included"
unfoldable pub is_far_of : Point → Bool
is_far_of p = ltb 100000 (nat_abs p.x) || ltb 100000 (nat_abs p.y) || ltb 100000 (nat_abs p.z)

-- "the place is that of another point": of any, or of any but number n
unfoldable pub stands : Point → List Point → Bool
stands p ps = any (same_place_of p) ps

unfoldable pub stands_else_of : ℕ → Point → List Point → Bool
stands_else_of n p [] = false
stands_else_of zero p (q ∷ ps) = stands p ps
stands_else_of (suc n) p (q ∷ ps) = elim (same_place_of p q) [ true ↦ true | false ↦ stands_else_of n p ps ]

unfoldable pub points_compute : Unit {0}
unfolding is_far_of stands stands_else_of
points_compute = tt
