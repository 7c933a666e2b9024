-- How large the cross products and the normal of a ring of known points grow.
use Rattle.std.specs.Prelude.{ℕ, suc, ◌+◌, ◌*◌, ◌≤◌, ◌<◌, length, get_or, ℤ}
use Rattle.std.proofs.Common.{arith, ◌∙◌, subst}
use mathlib.Core.List.{List, [], ◌∷◌, map, foldr}
use Rattle.std.proofs.lemmas.List.{length-map}
use Rattle.whole.specs.Lists.{steps, steps_from}
use Rattle.whole.specs.laws.Size.{small_zero, small_add, small_sub, small_mul}
use Rattle.whole.specs.All.{All, none, more}
use Rattle.space.specs.Space.{Point, origin, plus, relative_to, cross, places}
use Rattle.normal.specs.Normal.{relative, normal}
use Rattle.space.specs.held.Points.{points_of, Coords, Known, Near}
use Rattle.space.specs.laws.Sizes.{near_more, near_point, near-way}

-- a cross product of two ways is at most 8·10^10 in size
pub near-cross : {p q : Point} → Near 200000 p → Near 200000 q → Near 80000000000 (cross p q)
unfolding cross
near-cross p q =
    record {
      x = small_sub (small_mul p.y q.z) (small_mul p.z q.y);
      y = small_sub (small_mul p.z q.x) (small_mul p.x q.z);
      z = small_sub (small_mul p.x q.y) (small_mul p.y q.x);
    }

near-plus : {m n : ℕ} {p q : Point} → Near m p → Near n q → Near (m + n) (plus p q)
unfolding plus
near-plus h l = record { x = small_add h.x l.x; y = small_add h.y l.y; z = small_add h.z l.z }

steps-near : (p : Point) (l : List Point) → Near 200000 p → All (Near 200000) l → Near (length l * 80000000000) (foldr (λ s n. plus (cross s.0 s.1) n) origin (steps_from p l))
unfolding steps_from origin
steps-near p [] h none = record { x = small_zero; y = small_zero; z = small_zero }
steps-near p (q ∷ l) h (more k a) = near_more (up (length l)) (near-plus (near-cross h k) (steps-near q l k a))
  where
    up : (n : ℕ) → 80000000000 + n * 80000000000 ≤ suc n * 80000000000
    up n = omega arith

-- a ring of n entries has a normal of at most (n - 1) times that, in each component
pub normal-near : {flat : List ℤ} {ring : List ℕ} → Coords flat → Known ring → Near 10160000000000 (normal (places (points_of flat) ring))
unfolding normal relative places steps origin
normal-near {ring = []} h k = record { x = small_zero; y = small_zero; z = small_zero }
normal-near {flat} {ring = a ∷ l} h k =
    near_more (few (length l) k.few) (subst (λ (n : ℕ). Near (n * 80000000000) total) (length-map ps (relative_to A) ∙ length-map l g) (steps-near (relative_to A A) (map (relative_to A) ps) (near-way near-a near-a) ways))
  where
    g : ℕ → Point
    g = λ n. get_or (points_of flat) n origin

    A : Point
    A = get_or (points_of flat) a origin

    ps : List Point
    ps = map g l

    total : Point
    total = foldr (λ s n. plus (cross s.0 s.1) n) origin (steps_from (relative_to A A) (map (relative_to A) ps))

    near-a : Near 100000 A
    near-a = near_point h a (k.each 0 (omega arith))

    ways-of : (m : List ℕ) → ((i : ℕ) → i < length m → get_or m i 0 < 512) → All (Near 200000) (map (relative_to A) (map g m))
    ways-of [] f = none
    ways-of (q ∷ m) f = more (near-way near-a (near_point h q (f 0 (omega arith)))) (ways-of m (λ i e. f (suc i) (omega arith)))

    ways : All (Near 200000) (map (relative_to A) ps)
    ways = ways-of l (λ i e. k.each (suc i) (omega arith))

    few : (n : ℕ) → suc n ≤ 128 → n * 80000000000 ≤ 10160000000000
    few n e = omega arith
