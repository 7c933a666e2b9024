-- Whether a place is that of another point.
use Rattle.std.specs.Prelude.{ℕ, Bool, false, cond, eqb}
use Rattle.space.specs.Space.{Point, same_place_of}

-- whether a place is that of point k, unless that is number n
unfoldable pub else_at_of : ℕ → ℕ → Point → Point → Bool
else_at_of k n p q = cond (eqb k n) false (same_place_of p q)
