-- A polygon's part of the six-volume, from its normal: one sum over consecutive entries serves both.
use Rattle.std.specs.Prelude.{ℕ, ◌≤◌, ◌≡◌, length, get_or, ℤ, pos, ◌+ℤ◌, ◌-ℤ◌, ◌*ℤ◌}
use Rattle.std.proofs.Common.{arith, ap, ◌∙◌, sym}
use mathlib.Core.List.{List, [], ◌∷◌, map, foldr}
use Rattle.whole.specs.laws.Solve.{k, ◌⊕◌, ◌⊖◌, ◌⊗◌, ring, ◌≔◌}
use Rattle.whole.specs.Lists.{steps, steps_from, sum_of}
use Rattle.space.specs.Space.{Point, origin, plus, relative_to, cross, dot, determinant, places}
use Rattle.normal.specs.Normal.{relative, normal}
use Rattle.volume.specs.Part.{part_about, part}
use Rattle.space.specs.held.Points.{points_of, place_at, Coords, Known}
use Rattle.space.specs.laws.Sizes.{point_at}

-- what a step from p to q adds to the part is what it adds to the normal, times the place a that both are about
step_adds : (a p q n : Point) → determinant a p q +ℤ dot n a ≡ dot (plus (cross (relative_to a p) (relative_to a q)) n) a
unfolding determinant relative_to cross plus dot
step_adds a p q n = go a.x a.y a.z p.x p.y p.z q.x q.y q.z n.x n.y n.z
  where
    go : (a b c d e f g h i l m n : ℤ) →
        a *ℤ (e *ℤ i -ℤ f *ℤ h) -ℤ b *ℤ (d *ℤ i -ℤ f *ℤ g) +ℤ c *ℤ (d *ℤ h -ℤ e *ℤ g) +ℤ (l *ℤ a +ℤ m *ℤ b +ℤ n *ℤ c)
        ≡ ((e -ℤ b) *ℤ (i -ℤ c) -ℤ (f -ℤ c) *ℤ (h -ℤ b) +ℤ l) *ℤ a +ℤ ((f -ℤ c) *ℤ (g -ℤ a) -ℤ (d -ℤ a) *ℤ (i -ℤ c) +ℤ m) *ℤ b +ℤ ((d -ℤ a) *ℤ (h -ℤ b) -ℤ (e -ℤ b) *ℤ (g -ℤ a) +ℤ n) *ℤ c
    go = ring 12 (λ a b c d e f g h i l m n.
        a ⊗ (e ⊗ i ⊖ f ⊗ h) ⊖ b ⊗ (d ⊗ i ⊖ f ⊗ g) ⊕ c ⊗ (d ⊗ h ⊖ e ⊗ g) ⊕ (l ⊗ a ⊕ m ⊗ b ⊕ n ⊗ c)
        ≔ ((e ⊖ b) ⊗ (i ⊖ c) ⊖ (f ⊖ c) ⊗ (h ⊖ b) ⊕ l) ⊗ a ⊕ ((f ⊖ c) ⊗ (g ⊖ a) ⊖ (d ⊖ a) ⊗ (i ⊖ c) ⊕ m) ⊗ b ⊕ ((d ⊖ a) ⊗ (h ⊖ b) ⊖ (e ⊖ b) ⊗ (g ⊖ a) ⊕ n) ⊗ c) tt

none_adds : (a : Point) → pos 0 ≡ dot origin a
unfolding dot origin
none_adds a = go a.x a.y a.z
  where
    go : (a b c : ℤ) → pos 0 ≡ pos 0 *ℤ a +ℤ pos 0 *ℤ b +ℤ pos 0 *ℤ c
    go = ring 3 (λ a b c. k (pos 0) ≔ k (pos 0) ⊗ a ⊕ k (pos 0) ⊗ b ⊕ k (pos 0) ⊗ c) tt

steps_add : (a p : Point) (l : List Point)
    → sum_of (λ s. determinant a s.0 s.1) (steps_from p l)
    ≡ dot (foldr (λ s n. plus (cross s.0 s.1) n) origin (steps_from (relative_to a p) (map (relative_to a) l))) a
unfolding sum_of steps_from
steps_add a p [] = none_adds a
steps_add a p (q ∷ l) =
    ap (λ (z : ℤ). determinant a p q +ℤ z) (steps_add a q l)
    ∙ step_adds a p q (foldr (λ s n. plus (cross s.0 s.1) n) origin (steps_from (relative_to a q) (map (relative_to a) l)))

-- "the sum, over consecutive entries p, q, of the determinant of first, p, q" is first·N, closed or not
pub part_is_dot : (a : Point) (l : List Point) → part_about (a ∷ l) ≡ dot (normal (a ∷ l)) a
unfolding part_about normal relative steps
part_is_dot a l = steps_add a a l

pub part-from-normal : (points : List Point) (ring : List ℕ) → 1 ≤ length ring → part points ring ≡ dot (normal (places points ring)) (get_or points (get_or ring 0 0) origin)
unfolding part places
part-from-normal points [] h = absurd (omega arith)
part-from-normal points (a ∷ l) h = part_is_dot (get_or points a origin) (map (λ n. get_or points n origin) l)

-- first·N, as code finds the two, is the part
pub about_first : {flat : List ℤ} {ring : List ℕ} {n p : Point} → Coords flat → Known ring → 1 ≤ length ring → n ≡ normal (places (points_of flat) ring) → p ≡ place_at flat (get_or ring 0 0) → dot n p ≡ part (points_of flat) ring
about_first {flat} {ring} h known some e f =
    (λ i. dot (e i) ((f ∙ sym (point_at h (get_or ring 0 0) (known.each 0 some))) i)) ∙ sym (part-from-normal (points_of flat) ring some)
