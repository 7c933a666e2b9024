-- A place within the bounds, and the flat table with a point there.
use Rattle.std.specs.Prelude.{ℕ, ◌+◌, ◌*◌, ◌<◌, ◌≡◌, false, List, ltb, length, get_or, set, ℤ, pos, nat_abs}
use Rattle.std.proofs.Common.{arith, ◌∙◌, ltb-false, length-set, get_or-set_same, get_or-set_other, of_z, to_z}
use Rattle.std.specs.Int.{w64}
use Rattle.whole.specs.laws.Bools.{none_of}
use Rattle.whole.specs.held.Small.{Small}
use Rattle.whole.specs.laws.Size.{small_back}
use Rattle.whole.specs.laws.Stores.{all_set}
use Rattle.space.specs.Space.{Point}
use Rattle.space.specs.held.Points.{points_of, place_at, Coords}
use Rattle.space.specs.laws.Points.{points_of-set}
use Rattle.places.specs.Points.{is_far_of}
use Rattle.places.specs.held.Places.{point3, placed, NearPlace}

pub near-place : (p : Point) → is_far_of p ≡ false → NearPlace p
unfolding is_far_of
near-place p e =
    let n = none_of (ltb 100000 (nat_abs p.x)) (ltb 100000 (nat_abs p.y)) (ltb 100000 (nat_abs p.z)) e in
    record {
      x = record { small = ltb-false 100000 (nat_abs p.x) n.0 };
      y = record { small = ltb-false 100000 (nat_abs p.y) n.1 };
      z = record { small = ltb-false 100000 (nat_abs p.z) n.2 };
    }

-- as the machine reads it
pub near-bits : (x y z : ℤ) → is_far_of (point3 x y z) ≡ false → point3 (to_z w64 (of_z w64 x)) (to_z w64 (of_z w64 y)) (to_z w64 (of_z w64 z)) ≡ point3 x y z
near-bits x y z e i =
    let n : NearPlace (point3 x y z) = near-place (point3 x y z) e in
    point3 (small_back w64 tt n.x i) (small_back w64 tt n.y i) (small_back w64 tt n.z i)

-- ---- the flat table with a point at another place
module _ (points : List ℤ) (n : ℕ) (p : Point) where
  pub placed-points : 3 * n + 2 < length points → points_of (placed points n p) ≡ set (points_of points) n p
  placed-points h = points_of-set points n p.x p.y p.z h

  pub placed_coords : Coords points → NearPlace p → Coords (placed points n p)
  placed_coords co near =
      record {
        room = length-set (set (set points (3 * n) p.x) (3 * n + 1) p.y) (3 * n + 2) p.z ∙ length-set (set points (3 * n) p.x) (3 * n + 1) p.y ∙ length-set points (3 * n) p.x ∙ co.room;
        small = λ i.
            all_set (λ (v : ℤ). Small 100000 v) (pos 0) (set (set points (3 * n) p.x) (3 * n + 1) p.y) (i + 1) (3 * n + 2) p.z
            (all_set (λ (v : ℤ). Small 100000 v) (pos 0) (set points (3 * n) p.x) (i + 1) (3 * n + 1) p.y
            (all_set (λ (v : ℤ). Small 100000 v) (pos 0) points (i + 1) (3 * n) p.x (λ j l. co.small j) near.x) near.y) near.z i (omega arith);
      }

  -- the other numbers are as they were
  placed_else : (j : ℕ) → (j ≡ 3 * n → ⊥) → (j ≡ 3 * n + 1 → ⊥) → (j ≡ 3 * n + 2 → ⊥) → get_or (placed points n p) j (pos 0) ≡ get_or points j (pos 0)
  placed_else j e f g =
      get_or-set_other (set (set points (3 * n) p.x) (3 * n + 1) p.y) (3 * n + 2) j p.z (pos 0) g
      ∙ get_or-set_other (set points (3 * n) p.x) (3 * n + 1) j p.y (pos 0) f
      ∙ get_or-set_other points (3 * n) j p.x (pos 0) e

  pub placed_other : (i : ℕ) → (i ≡ n → ⊥) → place_at (placed points n p) i ≡ place_at points i
  placed_other i h =
      let x = placed_else (3 * i) (λ e. h (omega arith)) (λ e. omega arith) (λ e. omega arith) in
      let y = placed_else (3 * i + 1) (λ e. omega arith) (λ e. h (omega arith)) (λ e. omega arith) in
      let z = placed_else (3 * i + 2) (λ e. omega arith) (λ e. omega arith) (λ e. h (omega arith)) in
      λ k. point3 (x k) (y k) (z k)

  pub placed-own : 3 * n + 2 < length points → place_at (placed points n p) n ≡ p
  placed-own h =
      let a : List ℤ = set points (3 * n) p.x in
      let b : List ℤ = set a (3 * n + 1) p.y in
      let la : length a ≡ length points = length-set points (3 * n) p.x in
      let lb : length b ≡ length points = length-set a (3 * n + 1) p.y ∙ la in
      let x : get_or (placed points n p) (3 * n) (pos 0) ≡ p.x = get_or-set_other b (3 * n + 2) (3 * n) p.z (pos 0) (λ e. omega arith) ∙ get_or-set_other a (3 * n + 1) (3 * n) p.y (pos 0) (λ e. omega arith) ∙ get_or-set_same points (3 * n) p.x (pos 0) (omega arith) in
      let y : get_or (placed points n p) (3 * n + 1) (pos 0) ≡ p.y = get_or-set_other b (3 * n + 2) (3 * n + 1) p.z (pos 0) (λ e. omega arith) ∙ get_or-set_same a (3 * n + 1) p.y (pos 0) (omega arith) in
      let z : get_or (placed points n p) (3 * n + 2) (pos 0) ≡ p.z = get_or-set_same b (3 * n + 2) p.z (pos 0) (omega arith) in
      λ k. point3 (x k) (y k) (z k)
