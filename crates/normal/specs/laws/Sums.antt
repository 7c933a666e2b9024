-- The normal summed over consecutive entries, one component at a time.
use Rattle.std.specs.Prelude.{ℕ, ◌+◌, ◌<◌, ◌≤◌, ◌≡◌, refl, get_or, length, ℤ, pos, ◌+ℤ◌}
use Rattle.std.proofs.Common.{sym, ap, ◌∙◌, arith, subst}
use mathlib.Core.List.{List, [], map, ◌∷◌, foldr}
use Rattle.std.proofs.Math.IntN.{+ℤ_idl}
use Rattle.whole.specs.held.Small.{Small}
use Rattle.whole.specs.laws.Size.{small_zero}
use Rattle.space.specs.declared.Axis.{Axis}
use Rattle.space.specs.declared.Axis.TheVariants.{X, Y, Z}
use Rattle.space.specs.Space.{Point, origin, plus, relative_to, cross, places}
use Rattle.whole.specs.Lists.{steps, steps_from}
use Rattle.whole.specs.laws.Sum.{next, Acc, acc_step, acc_small}
use Rattle.normal.specs.Normal.{relative, normal}
use Rattle.space.specs.held.Points.{at, points_of, place_at, Coords, Known, Near}
use Rattle.space.specs.laws.Sizes.{near-place, near_same, near-way, point_at}
use Rattle.normal.specs.laws.Sizes.{near-cross}
use Rattle.space.specs.laws.Sums.{Going, going_next, rest, rest_is}

-- a point's number on an axis
abbrev pub on : Axis → Point → ℤ
on X p = p.x
on Y p = p.y
on Z p = p.z

-- ---- the normal, one component at a time
on-plus : (axis : Axis) (p q : Point) → on axis (plus p q) ≡ on axis p +ℤ on axis q
unfolding plus
on-plus X p q = refl
on-plus Y p q = refl
on-plus Z p q = refl

on-origin : (axis : Axis) → on axis origin ≡ pos 0
unfolding origin
on-origin X = refl
on-origin Y = refl
on-origin Z = refl

on-near : {n : ℕ} {p : Point} (axis : Axis) → Near n p → Small n (on axis p)
on-near X h = h.x
on-near Y h = h.y
on-near Z h = h.z

-- the cross product of two entries, relative to the first
abbrev pub cross_step : List Point → ℕ → ℕ → ℕ → Point
cross_step points a p q = cross (relative_to (get_or points a origin) (get_or points p origin)) (relative_to (get_or points a origin) (get_or points q origin))

abbrev pub normal_step : List Point → ℕ → Axis → ℕ → ℕ → ℤ
normal_step points a axis = λ p q. on axis (cross_step points a p q)

normal-next : (points : List Point) (a : ℕ) (axis : Axis) (p : ℕ) (l : List ℕ)
    → on axis (foldr (λ s n. plus (cross s.0 s.1) n) origin (steps_from (relative_to (get_or points a origin) (get_or points p origin)) (map (relative_to (get_or points a origin)) (map (λ n. get_or points n origin) l))))
    ≡ next (normal_step points a axis) p l
unfolding steps_from next
normal-next points a axis p [] = on-origin axis
normal-next points a axis p (q ∷ l) = on-plus axis (cross_step points a p q) _ ∙ ap (λ (z : ℤ). on axis (cross_step points a p q) +ℤ z) (normal-next points a axis q l)

-- the sum of no steps
abbrev pub nowhere : Point
nowhere = at (pos 0) (pos 0) (pos 0)

on-nowhere : (axis : Axis) → on axis nowhere ≡ pos 0
on-nowhere X = refl
on-nowhere Y = refl
on-nowhere Z = refl

pub normal_start : (points : List Point) (ring : List ℕ) (axis : Axis) → 1 ≤ length ring
    → Acc (normal_step points (get_or ring 0 0) axis) 80000000000 (on axis (normal (places points ring))) ring (get_or ring 0 0) 1 (pos 0)
unfolding normal relative places steps
normal_start points [] axis h = absurd (omega arith)
normal_start points (a ∷ l) axis h = record { is = +ℤ_idl (next (normal_step points a axis) a l) ∙ sym (normal-next points a axis a l); size = small_zero }

-- the three sums of the loop
pub record Sums (points : List Point) (ring : List ℕ) (first last i : ℕ) (x y z : ℤ) : Type 0 where
  pub on-x : Acc (normal_step points first X) 80000000000 (on X (normal (places points ring))) ring last i x
  pub on-y : Acc (normal_step points first Y) 80000000000 (on Y (normal (places points ring))) ring last i y
  pub on_z : Acc (normal_step points first Z) 80000000000 (on Z (normal (places points ring))) ring last i z

-- how far the loop has come: the way to the last entry passed, and the three sums
pub record Walk (flat : List ℤ) (ring : List ℕ) (n first : ℕ) (way : Point) (i : ℕ) (x y z : ℤ) : Type 0 where
  pub last : ℕ
  pub going : Going ring n first last i
  pub reached : way ≡ relative_to (place_at flat first) (place_at flat last)
  pub sums : Sums (points_of flat) ring first last i x y z

-- ---- the same over the entries after the first, on all axes at once
pub normal_first : (points : List Point) (ring : List ℕ) (axis : Axis) → 1 ≤ length ring
    → Acc (normal_step points (get_or ring 0 0) axis) 80000000000 (on axis (normal (places points ring))) (rest ring) (get_or ring 0 0) 0 (on axis nowhere)
unfolding normal relative places steps
normal_first points [] axis h = absurd (omega arith)
normal_first points (a ∷ l) axis h =
    subst (λ (z : ℤ). Acc (normal_step points a axis) 80000000000 (on axis (normal (places points (a ∷ l)))) (rest (a ∷ l)) a 0 z)
    (sym (on-nowhere axis))
    (subst (λ (r : List ℕ). Acc (normal_step points a axis) 80000000000 (on axis (normal (places points (a ∷ l)))) r a 0 (pos 0))
    (sym (rest_is (a ∷ l)))
    (record { is = +ℤ_idl (next (normal_step points a axis) a l) ∙ sym (normal-next points a axis a l); size = small_zero }))

-- how far the loop has come: the way to the last entry passed, and the sum on each axis
pub record Walked (flat : List ℤ) (ring : List ℕ) (first : ℕ) (way : Point) (i : ℕ) (sum : Point) : Type 0 where
  pub last : ℕ
  pub known : last < 512
  pub reached : way ≡ relative_to (place_at flat first) (place_at flat last)
  pub sums : (axis : Axis) → Acc (normal_step (points_of flat) first axis) 80000000000 (on axis (normal (places (points_of flat) ring))) (rest ring) last i (on axis sum)

-- what is summed so far stays small
pub sum_near : {flat : List ℤ} {ring : List ℕ} {first i : ℕ} {way sum : Point} → Walked flat ring first way i sum → i ≤ 127 → Near 10160000000000 sum
sum_near w le = record { x = acc_small 127 (w.sums X) le; y = acc_small 127 (w.sums Y) le; z = acc_small 127 (w.sums Z) le }

-- the ways of a step, as code finds them
way_of : {flat : List ℤ} {p : Point} → Coords flat → (a e : ℕ) → a < 512 → e < 512 → p ≡ relative_to (place_at flat a) (place_at flat e) → p ≡ relative_to (get_or (points_of flat) a origin) (get_or (points_of flat) e origin)
way_of h a e k l q = q ∙ (λ i. relative_to (sym (point_at h a k) i) (sym (point_at h e l) i))

-- and their cross product
pub cross-of : {flat : List ℤ} {p q : Point} → Coords flat → (a e f : ℕ) → a < 512 → e < 512 → f < 512
    → p ≡ relative_to (place_at flat a) (place_at flat e) → q ≡ relative_to (place_at flat a) (place_at flat f) → cross p q ≡ cross_step (points_of flat) a e f
cross-of h a e f ka ke kf x y = λ j. cross (way_of h a e ka ke x j) (way_of h a f ka kf y j)

pub way-near : {flat : List ℤ} {p : Point} (a e : ℕ) → Coords flat → p ≡ relative_to (place_at flat a) (place_at flat e) → Near 200000 p
way-near a e h q = near_same q (near-way (near-place h a) (near-place h e))

-- the cross product that the loop adds
pub cross_more : {flat : List ℤ} {a e f : ℕ} {p q r : Point} → Coords flat → a < 512 → e < 512 → f < 512
    → p ≡ relative_to (place_at flat a) (place_at flat e) → q ≡ relative_to (place_at flat a) (place_at flat f) → r ≡ cross p q
    → (axis : Axis) → (on axis r ≡ normal_step (points_of flat) a axis e f) × Small 80000000000 (on axis r)
cross_more {flat} {a} {e} {f} {p} {q} {r} h ka ke kf x y c axis =
    let same : r ≡ cross_step (points_of flat) a e f = c ∙ cross-of h a e f ka ke kf x y in
    (ap (on axis) same, on-near axis (near_same c (near-cross (way-near a e h x) (way-near a f h y))))

-- the same by how far a loop has come
pub cross-next : {flat : List ℤ} {ring : List ℕ} {n first last i : ℕ} {p q r : Point} → Coords flat → Known ring → Going ring n first last i → i < n
    → p ≡ relative_to (place_at flat first) (place_at flat last) → q ≡ relative_to (place_at flat first) (place_at flat (get_or ring i 0)) → r ≡ cross p q
    → (axis : Axis) → (on axis r ≡ normal_step (points_of flat) first axis last (get_or ring i 0)) × Small 80000000000 (on axis r)
cross-next {flat} {ring} {n} {first} {last} {i} {p} {q} {r} h k g l e f c axis =
    let same : r ≡ cross_step (points_of flat) first last (get_or ring i 0) = c ∙ cross-of h first last (get_or ring i 0) g.head_known g.last_known (going_next k g l).last_known e f in
    (ap (on axis) same, on-near axis (near_same c (near-cross (way-near first last h e) (way-near first (get_or ring i 0) h f))))

-- one turn of the loop: a sum of points is one on each axis
pub sum_next : {f : ℕ → ℕ → ℤ} {total : ℤ} {l : List ℕ} {p i : ℕ} (s r : Point) {t : Point} (axis : Axis) → Acc f 80000000000 total l p i (on axis s) → i < length l
    → (on axis r ≡ f p (get_or l i 0)) × Small 80000000000 (on axis r) → t ≡ plus s r → Acc f 80000000000 total l (get_or l i 0) (i + 1) (on axis t)
sum_next {f} {total} {l} {p} {i} s r {t} axis a lt e is =
    subst (λ (z : ℤ). Acc f 80000000000 total l (get_or l i 0) (i + 1) z)
    (sym (ap (on axis) is ∙ on-plus axis s r))
    (acc_step a lt (on axis r) e.0 (subst (λ (z : ℤ). Small 80000000000 z) e.0 e.1))
