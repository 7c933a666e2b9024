-- A closed ring of four entries: N is one cross product.
use Rattle.std.specs.Prelude.{ℕ, ◌≡◌, false, List, [], ◌∷◌, eqb, length, get_or, ℤ, ◌+ℤ◌, ◌-ℤ◌, ◌*ℤ◌}
use Rattle.std.proofs.Common.{arith, sym, ◌∙◌, eqb-true}
use Rattle.std.proofs.Math.Path.{ap}
use Rattle.std.proofs.lemmas.Bool.{not-false}
use Rattle.std.proofs.Math.IntN.{pos}
use Rattle.whole.specs.laws.Solve.{k, ◌⊕◌, ◌⊖◌, ◌⊗◌, ring, ◌≔◌}
use Rattle.whole.specs.Lists.{steps, steps_from, last_of}
use Rattle.space.specs.Space.{Point, origin, plus, relative_to, cross, places}
use Rattle.ring.specs.Entries.{is_unclosed}
use Rattle.normal.specs.Normal.{relative, normal}
use Rattle.space.specs.held.Points.{at}

-- three, and the first again
abbrev pub round : {A : Type 0} → A → A → A → List A
round a b c = a ∷ b ∷ c ∷ a ∷ []

-- ---- N of a triangle
module _ (a b c : Point) where
  -- the two steps from the first point and to it add nothing
  pub normal_is : normal (round a b c) ≡ cross (relative_to a b) (relative_to a c)
  unfolding normal relative steps steps_from relative_to cross plus origin
  normal_is =
      λ i. at (go a.y a.z b.y b.z c.y c.z i) (go a.z a.x b.z b.x c.z c.x i) (go a.x a.y b.x b.y c.x c.y i)
    where
      go : (p q r s t w : ℤ) →
          (p -ℤ p) *ℤ (s -ℤ q) -ℤ (q -ℤ q) *ℤ (r -ℤ p) +ℤ ((r -ℤ p) *ℤ (w -ℤ q) -ℤ (s -ℤ q) *ℤ (t -ℤ p) +ℤ ((t -ℤ p) *ℤ (q -ℤ q) -ℤ (w -ℤ q) *ℤ (p -ℤ p) +ℤ pos 0))
          ≡ (r -ℤ p) *ℤ (w -ℤ q) -ℤ (s -ℤ q) *ℤ (t -ℤ p)
      go = ring 6 (λ p q r s t w.
          (p ⊖ p) ⊗ (s ⊖ q) ⊖ (q ⊖ q) ⊗ (r ⊖ p) ⊕ ((r ⊖ p) ⊗ (w ⊖ q) ⊖ (s ⊖ q) ⊗ (t ⊖ p) ⊕ ((t ⊖ p) ⊗ (q ⊖ q) ⊖ (w ⊖ q) ⊗ (p ⊖ p) ⊕ k (pos 0)))
          ≔ (r ⊖ p) ⊗ (w ⊖ q) ⊖ (s ⊖ q) ⊗ (t ⊖ p)) tt

-- ---- a closed ring of four entries
pub ring_three : (ring : List ℕ) → length ring ≡ 4 → is_unclosed ring ≡ false → ring ≡ round (get_or ring 0 0) (get_or ring 1 0) (get_or ring 2 0)
unfolding is_unclosed last_of
ring_three [] e f = absurd (omega arith)
ring_three (a ∷ []) e f = absurd (omega arith)
ring_three (a ∷ b ∷ []) e f = absurd (omega arith)
ring_three (a ∷ b ∷ c ∷ []) e f = absurd (omega arith)
ring_three (a ∷ b ∷ c ∷ d ∷ []) e f = ap (λ (x : ℕ). a ∷ b ∷ c ∷ x ∷ []) (sym (eqb-true a d (not-false (eqb a d) f)))
ring_three (a ∷ b ∷ c ∷ d ∷ x ∷ l) e f = absurd (omega arith)

module _ (points : List Point) (ring : List ℕ) (four : length ring ≡ 4) (closed : is_unclosed ring ≡ false) where
  abbrev ps : List Point
  ps = places points ring

  -- where its entry i stands
  abbrev spot_of : ℕ → Point
  spot_of i = get_or points (get_or ring i 0) origin

  pub places-three : ps ≡ round (spot_of 0) (spot_of 1) (spot_of 2)
  unfolding places
  places-three = ap (places points) (ring_three ring four closed)

  -- N is one cross product
  pub triangle_normal : normal ps ≡ cross (relative_to (spot_of 0) (spot_of 1)) (relative_to (spot_of 0) (spot_of 2))
  triangle_normal = ap normal places-three ∙ normal_is (spot_of 0) (spot_of 1) (spot_of 2)
