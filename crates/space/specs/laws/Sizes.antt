-- How large the numbers of points and ways grow.
use Rattle.std.specs.Prelude.{ℕ, ◌+◌, ◌*◌, ◌≤◌, ◌<◌, ◌≡◌, List, get_or, ℤ}
use Rattle.std.proofs.Common.{arith, sym, subst}
use Rattle.whole.specs.held.Small.{Small}
use Rattle.whole.specs.laws.Size.{small_add, small_sub, small_mul, small_more}
use Rattle.space.specs.Space.{Point, origin, relative_to, dot}
use Rattle.space.specs.held.Points.{points_of, place_at, Coords, Near}
use Rattle.space.specs.laws.Points.{points_of-at}

-- the points of a table, by number
pub near-place : {flat : List ℤ} → Coords flat → (p : ℕ) → Near 100000 (place_at flat p)
near-place h p = record { x = h.small (3 * p); y = h.small (3 * p + 1); z = h.small (3 * p + 2) }

pub near_same : {n : ℕ} {p q : Point} → p ≡ q → Near n q → Near n p
near_same {n} e h = subst (λ (r : Point). Near n r) (sym e) h

pub point_at : {flat : List ℤ} → Coords flat → (p : ℕ) → p < 512 → get_or (points_of flat) p origin ≡ place_at flat p
point_at {flat} h p k = points_of-at flat p (omega (arith, h.room))

pub near_point : {flat : List ℤ} → Coords flat → (p : ℕ) → p < 512 → Near 100000 (get_or (points_of flat) p origin)
near_point h p k = near_same (point_at h p k) (near-place h p)

-- from one point to another
pub near-way : {p q : Point} → Near 100000 p → Near 100000 q → Near 200000 (relative_to p q)
unfolding relative_to
near-way p q = record { x = small_sub q.x p.x; y = small_sub q.y p.y; z = small_sub q.z p.z }

pub near_more : {m n : ℕ} {p : Point} → m ≤ n → Near m p → Near n p
near_more l h = record { x = small_more l h.x; y = small_more l h.y; z = small_more l h.z }

-- N·p is at most 6.1·10^18 in size
pub dot_small : {n p : Point} → Near 10160000000000 n → Near 200000 p → Small 6096000000000000000 (dot n p)
unfolding dot
dot_small n p = small_add (small_add (small_mul n.x p.x) (small_mul n.y p.y)) (small_mul n.z p.z)
