-- Places that fan out: seen from the first, each comes after the one before it on one turn, and all within a half-turn of the
-- second.
use Rattle.std.specs.Prelude.{ℕ, zero, suc, ◌+◌, ◌*◌, Bool, true, false, ◌&&◌, ◌||◌, List, get_or, ℤ, pos}
use Rattle.std.specs.Int.Signed.{lt_z}
use Rattle.plane.specs.Plane.{Spot, side}
use Rattle.plane.specs.held.Edges.{spot}

-- where point p stands in the plane of coordinates i and j
abbrev pub spot_in : List ℤ → ℕ → ℕ → ℕ → Spot
spot_in flat i j p = spot (get_or flat (3 * p + i) (pos 0)) (get_or flat (3 * p + j) (pos 0))

-- a test holds of every number below n
unfoldable pub every : (ℕ → Bool) → ℕ → Bool
every t zero = true
every t (suc n) = every t n && t n

-- above 0; or, going the other way round, below
abbrev pub above : Bool → ℤ → Bool
above true z = lt_z (pos 0) z
above false z = lt_z z (pos 0)

-- place i + 2 comes after place i + 1, and is within a half-turn of place 1
abbrev pub fans : Bool → (ℕ → Spot) → ℕ → Bool
fans way at i = above way (side (at 0) (at (i + 1)) (at (i + 2))) && above way (side (at 0) (at 1) (at (i + 2)))

-- whether n + 2 places after the first fan out
abbrev pub is_fan_of : (ℕ → Spot) → ℕ → Bool
is_fan_of at n = every (fans true at) n || every (fans false at) n
