-- Turning a closed ring negates its part, and never changes a finding.
use Rattle.std.specs.Prelude.{ℕ, ◌≡◌, false, eqb, get_or, ℤ, ◌+ℤ◌, ◌-ℤ◌, ◌*ℤ◌}
use Rattle.std.proofs.Math.Path.{refl, sym, ap}
use Rattle.std.proofs.Common.{◌∙◌, eqb-true}
use mathlib.Core.List.{List, [], ◌∷◌, map, reverse, reverse_aux}
use Rattle.std.proofs.lemmas.Bool.{not-false}
use Rattle.std.proofs.Math.IntN.{neg_ℤ, +ℤ_idr, +ℤ_idl}
use Rattle.whole.specs.laws.Reverse.{map_reverse_aux}
use Rattle.whole.specs.laws.Solve.{◌⊕◌, ◌⊖◌, ◌⊗◌, ⊝◌, ring, ◌≔◌}
use Rattle.whole.specs.Lists.{steps, steps_from, sum_of, last_of}
use Rattle.space.specs.Space.{Point, origin, determinant, places}
use Rattle.ring.specs.Entries.{is_unclosed}
use Rattle.volume.specs.Part.{part_about, part}

-- the sum over consecutive entries, of what changes its sign when the two change places
module _ {A : Type 0} (f : A × A → ℤ) (odd : (p q : A) → f (p, q) ≡ neg_ℤ (f (q, p))) where
  regroup : (a b c : ℤ) → neg_ℤ a +ℤ (neg_ℤ b +ℤ c) ≡ neg_ℤ (b +ℤ a) +ℤ c
  regroup = ring 3 (λ a b c. ⊝ a ⊕ (⊝ b ⊕ c) ≔ ⊝ (b ⊕ a) ⊕ c) tt

  sum-reverse_aux : (l : List A) (y : A) (r : List A) → sum_of f (steps (reverse_aux l (y ∷ r))) ≡ neg_ℤ (sum_of f (steps (y ∷ l))) +ℤ sum_of f (steps (y ∷ r))
  unfolding steps steps_from sum_of
  sum-reverse_aux [] y r = sym (+ℤ_idl (sum_of f (steps_from y r)))
  sum-reverse_aux (x ∷ l) y r =
      sum-reverse_aux l x (y ∷ r)
      ∙ ap (λ (z : ℤ). neg_ℤ (sum_of f (steps_from x l)) +ℤ (z +ℤ sum_of f (steps_from y r))) (odd x y)
      ∙ regroup (sum_of f (steps_from x l)) (f (y, x)) (sum_of f (steps_from y r))

  pub sum-reverse : (l : List A) → sum_of f (steps (reverse l)) ≡ neg_ℤ (sum_of f (steps l))
  unfolding steps steps_from sum_of
  sum-reverse [] = refl
  sum-reverse (y ∷ l) = sum-reverse_aux l y [] ∙ +ℤ_idr (neg_ℤ (sum_of f (steps_from y l)))

determinant-odd : (a p q : Point) → determinant a p q ≡ neg_ℤ (determinant a q p)
unfolding determinant
determinant-odd a p q = odd a.x a.y a.z p.x p.y p.z q.x q.y q.z
  where
    odd : (a b c d e f g h i : ℤ) →
        a *ℤ (e *ℤ i -ℤ f *ℤ h) -ℤ b *ℤ (d *ℤ i -ℤ f *ℤ g) +ℤ c *ℤ (d *ℤ h -ℤ e *ℤ g)
        ≡ neg_ℤ (a *ℤ (h *ℤ f -ℤ i *ℤ e) -ℤ b *ℤ (g *ℤ f -ℤ i *ℤ d) +ℤ c *ℤ (g *ℤ e -ℤ h *ℤ d))
    odd = ring 9 (λ a b c d e f g h i.
        a ⊗ (e ⊗ i ⊖ f ⊗ h) ⊖ b ⊗ (d ⊗ i ⊖ f ⊗ g) ⊕ c ⊗ (d ⊗ h ⊖ e ⊗ g)
        ≔ ⊝ (a ⊗ (h ⊗ f ⊖ i ⊗ e) ⊖ b ⊗ (g ⊗ f ⊖ i ⊗ d) ⊕ c ⊗ (g ⊗ e ⊖ h ⊗ d))) tt

-- the part about a point
pub part_from : Point → List Point → ℤ
part_from a ps = sum_of (λ s. determinant a s.0 s.1) (steps ps)

unfoldable pub first_of : {A : Type 0} → A → List A → A
first_of d [] = d
first_of d (a ∷ l) = a

about_first : (ps : List Point) → part_about ps ≡ part_from (first_of origin ps) ps
unfolding part_about part_from first_of steps sum_of
about_first [] = refl
about_first (a ∷ l) = refl

pub first-reverse_aux : {A : Type 0} (d : A) (l : List A) (y : A) (r : List A) → first_of d (reverse_aux l (y ∷ r)) ≡ last_of y l
unfolding first_of last_of
first-reverse_aux d [] y r = refl
first-reverse_aux d (x ∷ l) y r = first-reverse_aux d l x (y ∷ r)

pub last-map : {A B : Type 0} (g : A → B) (a : A) (l : List A) → last_of (g a) (map g l) ≡ g (last_of a l)
unfolding last_of
last-map g a [] = refl
last-map g a (b ∷ l) = last-map g b l

-- of points whose last is the first
about_turned : (a : Point) (l : List Point) → last_of a l ≡ a → part_about (reverse (a ∷ l)) ≡ neg_ℤ (part_about (a ∷ l))
unfolding part_from part_about
about_turned a l e =
    about_first (reverse (a ∷ l))
    ∙ ap (λ (c : Point). part_from c (reverse (a ∷ l))) (first-reverse_aux origin l a [] ∙ e)
    ∙ sum-reverse (λ s. determinant a s.0 s.1) (λ p q. determinant-odd a p q) (a ∷ l)

-- Turning negates the part of a closed ring.
pub part_turned : (points : List Point) (r : List ℕ) → is_unclosed r ≡ false → part points (reverse r) ≡ neg_ℤ (part points r)
unfolding part places is_unclosed part_about
part_turned points [] e = refl
part_turned points (n ∷ l) e =
    let g : ℕ → Point = λ i. get_or points i origin in
    let c : last_of n l ≡ n = sym (eqb-true n (last_of n l) (not-false (eqb n (last_of n l)) e)) in
    ap part_about (map_reverse_aux g l (n ∷ []))
    ∙ about_turned (g n) (map g l) (last-map g n l ∙ ap g c)
