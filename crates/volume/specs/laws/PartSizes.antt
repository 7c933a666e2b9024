-- How large a polygon's part grows.
use Prim.Native.Nat.{ℕ, suc, ◌+◌, ◌*◌, ◌-◌, ◌≤◌, ◌<◌}
use native.Mathlib.Omega.{arith}
use mathlib.Core.List.{List, [], ◌∷◌, map}
use Rattle.std.specs.Prelude.{length, get_or, ℤ}
use Rattle.whole.specs.Lists.{steps, steps_from, sum_of}
use Rattle.whole.specs.held.Small.{Small}
use Rattle.whole.specs.laws.Size.{small_zero, small_add, small_sub, small_mul, small_more}
use Rattle.space.specs.Space.{Point, origin, determinant, places}
use Rattle.volume.specs.Part.{part_about, part}
use Rattle.space.specs.held.Points.{points_of, Coords, Known, Near}
use Rattle.space.specs.laws.Sizes.{near_point}

-- a determinant of three points is at most 6·10^15 in size
pub part_step_small : {a p q : Point} → Near 100000 a → Near 100000 p → Near 100000 q → Small 6000000000000000 (determinant a p q)
unfolding determinant
part_step_small a p q =
    small_add
    (small_sub
    (small_mul a.x (small_sub (small_mul p.y q.z) (small_mul p.z q.y)))
    (small_mul a.y (small_sub (small_mul p.x q.z) (small_mul p.z q.x))))
    (small_mul a.z (small_sub (small_mul p.x q.y) (small_mul p.y q.x)))

module _ (points : List Point) (a : Point) (near-a : Near 100000 a) where
  abbrev from : ℕ → List ℕ → ℤ
  from p l = sum_of (λ s. determinant a s.0 s.1) (steps_from (get_or points p origin) (map (λ n. get_or points n origin) l))

  steps_small : (p : ℕ) (l : List ℕ) → Near 100000 (get_or points p origin) → ((i : ℕ) → i < length l → Near 100000 (get_or points (get_or l i 0) origin))
      → Small (length l * 6000000000000000) (from p l)
  unfolding sum_of steps_from
  steps_small p [] h k = small_zero
  steps_small p (q ∷ l) h k =
      let near-q : Near 100000 (get_or points q origin) = k 0 (omega arith) in
      small_more (more (length l)) (small_add (part_step_small near-a h near-q) (steps_small q l near-q (λ i g. k (suc i) (omega arith))))
    where
      more : (n : ℕ) → 6000000000000000 + n * 6000000000000000 ≤ suc n * 6000000000000000
      more n = omega arith

-- a ring of n entries has a part of at most (n - 1) times that
pub part_small : {flat : List ℤ} {ring : List ℕ} → Coords flat → Known ring → Small ((length ring - 1) * 6000000000000000) (part (points_of flat) ring)
unfolding part part_about places steps
part_small {ring = []} h k = small_zero
part_small {flat} {ring = a ∷ l} h k =
    let near-a : Near 100000 (get_or (points_of flat) a origin) = near_point h a (k.each 0 (omega arith)) in
    small_more (less (length l)) (steps_small (points_of flat) (get_or (points_of flat) a origin) near-a a l near-a (λ i g. near_point h (get_or l i 0) (k.each (suc i) (omega arith))))
  where
    less : (n : ℕ) → n * 6000000000000000 ≤ (suc n - 1) * 6000000000000000
    less n = omega arith
