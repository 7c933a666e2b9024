-- A closed ring of five entries: of 06 there is one number to try, since N is at right angles to the way to the third corner, and
-- the second and the fourth are equally far off.
use Rattle.std.specs.Prelude.{ℕ, ◌≡◌, refl, Bool, true, false, List, [], ◌∷◌, length, get_or, ℤ, ◌+ℤ◌, ◌-ℤ◌, ◌*ℤ◌}
use Rattle.std.proofs.Common.{arith, sym, ap, ap₂, ◌∙◌}
use Rattle.std.proofs.Math.IntN.{pos}
use Rattle.whole.specs.laws.Solve.{k, ◌⊕◌, ◌⊖◌, ◌⊗◌, ring, ◌≔◌}
use Rattle.whole.specs.Lists.{any}
use Rattle.whole.specs.laws.Search.{any_here, any_next}
use Rattle.whole.specs.All.{none, more}
use Rattle.whole.specs.laws.Alls.{none_any}
use Rattle.space.specs.Space.{Point, origin, plus, relative_to, cross, dot, places}
use Rattle.ring.specs.Entries.{is_unclosed}
use Rattle.normal.specs.Normal.{relative, normal}
use Rattle.even.specs.Even.{exceeds, is_uneven}
use Rattle.even.proofs.laws.Distance.{upright_own, within, far}
use Rattle.normal.specs.laws.Quad.{square, sum, places-four, quad_normal}

-- ---- N·(p - first): that of the third corner is 0, and those of the second and the fourth are the same
module _ (p q r : Point) where
  upright_third : dot (plus (cross p q) (cross q r)) q ≡ pos 0
  unfolding dot plus cross
  upright_third = go p.x p.y p.z q.x q.y q.z r.x r.y r.z
    where
      go : (a b c d e f g h i : ℤ) → (b *ℤ f -ℤ c *ℤ e +ℤ (e *ℤ i -ℤ f *ℤ h)) *ℤ d +ℤ (c *ℤ d -ℤ a *ℤ f +ℤ (f *ℤ g -ℤ d *ℤ i)) *ℤ e +ℤ (a *ℤ e -ℤ b *ℤ d +ℤ (d *ℤ h -ℤ e *ℤ g)) *ℤ f ≡ pos 0
      go = ring 9 (λ a b c d e f g h i. (b ⊗ f ⊖ c ⊗ e ⊕ (e ⊗ i ⊖ f ⊗ h)) ⊗ d ⊕ (c ⊗ d ⊖ a ⊗ f ⊕ (f ⊗ g ⊖ d ⊗ i)) ⊗ e ⊕ (a ⊗ e ⊖ b ⊗ d ⊕ (d ⊗ h ⊖ e ⊗ g)) ⊗ f ≔ k (pos 0)) tt

  alike : dot (plus (cross p q) (cross q r)) r ≡ dot (plus (cross p q) (cross q r)) p
  unfolding dot plus cross
  alike = go p.x p.y p.z q.x q.y q.z r.x r.y r.z
    where
      go : (a b c d e f g h i : ℤ) →
          (b *ℤ f -ℤ c *ℤ e +ℤ (e *ℤ i -ℤ f *ℤ h)) *ℤ g +ℤ (c *ℤ d -ℤ a *ℤ f +ℤ (f *ℤ g -ℤ d *ℤ i)) *ℤ h +ℤ (a *ℤ e -ℤ b *ℤ d +ℤ (d *ℤ h -ℤ e *ℤ g)) *ℤ i
          ≡ (b *ℤ f -ℤ c *ℤ e +ℤ (e *ℤ i -ℤ f *ℤ h)) *ℤ a +ℤ (c *ℤ d -ℤ a *ℤ f +ℤ (f *ℤ g -ℤ d *ℤ i)) *ℤ b +ℤ (a *ℤ e -ℤ b *ℤ d +ℤ (d *ℤ h -ℤ e *ℤ g)) *ℤ c
      go = ring 9 (λ a b c d e f g h i.
          (b ⊗ f ⊖ c ⊗ e ⊕ (e ⊗ i ⊖ f ⊗ h)) ⊗ g ⊕ (c ⊗ d ⊖ a ⊗ f ⊕ (f ⊗ g ⊖ d ⊗ i)) ⊗ h ⊕ (a ⊗ e ⊖ b ⊗ d ⊕ (d ⊗ h ⊖ e ⊗ g)) ⊗ i
          ≔ (b ⊗ f ⊖ c ⊗ e ⊕ (e ⊗ i ⊖ f ⊗ h)) ⊗ a ⊕ (c ⊗ d ⊖ a ⊗ f ⊕ (f ⊗ g ⊖ d ⊗ i)) ⊗ b ⊕ (a ⊗ e ⊖ b ⊗ d ⊕ (d ⊗ h ⊖ e ⊗ g)) ⊗ c) tt

-- of five tests, the outer two and the middle one fail, and the other two are one
second_only : {A : Type 0} (t : A → Bool) (o p q r : A) → t o ≡ false → t q ≡ false → t r ≡ t p → any t (o ∷ p ∷ q ∷ r ∷ o ∷ []) ≡ t p
second_only {A} t o p q r e f g = go (t p) refl
  where
    all : List A
    all = o ∷ p ∷ q ∷ r ∷ o ∷ []

    go : (u : Bool) → t p ≡ u → any t all ≡ u
    go true h = any_next t all 0 o (omega arith) e ∙ any_here t all 1 o (omega arith) h
    go false h = none_any t all (more e (more h (more f (more (g ∙ h) (more e none)))))

module _ (a b c d : Point) where
  uneven_is : (tolerance : ℕ) → is_uneven tolerance (sum a b c d) (square a b c d) ≡ far tolerance (sum a b c d) (relative_to a b)
  unfolding is_uneven relative
  uneven_is tolerance =
      let n = sum a b c d in
      let p = relative_to a b in
      let q = relative_to a c in
      let r = relative_to a d in
      second_only (far tolerance n) (relative_to a a) p q r
      (within tolerance n (relative_to a a) (upright_own n a))
      (within tolerance n q (upright_third p q r))
      (ap (exceeds tolerance n) (alike p q r))

module _ (points : List Point) (ring : List ℕ) (five : length ring ≡ 5) (closed : is_unclosed ring ≡ false) where
  abbrev ps : List Point
  ps = places points ring

  -- where its entry i stands
  abbrev place_of : ℕ → Point
  place_of i = get_or points (get_or ring i 0) origin

  -- 06 is told by the second corner alone
  pub quad_uneven : (tolerance : ℕ) → is_uneven tolerance (normal ps) ps ≡ exceeds tolerance (normal ps) (dot (normal ps) (relative_to (place_of 0) (place_of 1)))
  quad_uneven tolerance =
      ap₂ (is_uneven tolerance) (quad_normal points ring five closed) (places-four points ring five closed)
      ∙ uneven_is (place_of 0) (place_of 1) (place_of 2) (place_of 3) tolerance
      ∙ ap (λ (n : Point). exceeds tolerance n (dot n (relative_to (place_of 0) (place_of 1)))) (sym (quad_normal points ring five closed))
