-- A closed ring of five entries: N is the sum of two cross products.
use Rattle.std.specs.Prelude.{ℕ, ◌≡◌, false, List, [], ◌∷◌, eqb, length, get_or, ℤ, ◌+ℤ◌, ◌-ℤ◌, ◌*ℤ◌}
use Rattle.std.proofs.Common.{arith, sym, ◌∙◌, eqb-true}
use Rattle.std.proofs.Math.Path.{ap}
use Rattle.std.proofs.lemmas.Bool.{not-false}
use Rattle.std.proofs.Math.IntN.{pos}
use Rattle.whole.specs.laws.Solve.{k, ◌⊕◌, ◌⊖◌, ◌⊗◌, ring, ◌≔◌}
use Rattle.whole.specs.Lists.{steps, steps_from, last_of}
use Rattle.space.specs.Space.{Point, origin, plus, relative_to, cross, places}
use Rattle.ring.specs.Entries.{is_unclosed}
use Rattle.normal.specs.Normal.{relative, normal}
use Rattle.space.specs.held.Points.{at}

-- four, and the first again
abbrev pub square : {A : Type 0} → A → A → A → A → List A
square a b c d = a ∷ b ∷ c ∷ d ∷ a ∷ []

-- ---- N of four corners
module _ (a b c d : Point) where
  abbrev pub sum : Point
  sum = plus (cross (relative_to a b) (relative_to a c)) (cross (relative_to a c) (relative_to a d))

  -- the two steps from the first point and to it add nothing
  normal_is : normal (square a b c d) ≡ sum
  unfolding normal relative steps steps_from relative_to cross plus origin
  normal_is =
      λ i. at (go a.y a.z b.y b.z c.y c.z d.y d.z i) (go a.z a.x b.z b.x c.z c.x d.z d.x i) (go a.x a.y b.x b.y c.x c.y d.x d.y i)
    where
      go : (p q r s t w x y : ℤ) →
          (p -ℤ p) *ℤ (s -ℤ q) -ℤ (q -ℤ q) *ℤ (r -ℤ p) +ℤ ((r -ℤ p) *ℤ (w -ℤ q) -ℤ (s -ℤ q) *ℤ (t -ℤ p) +ℤ ((t -ℤ p) *ℤ (y -ℤ q) -ℤ (w -ℤ q) *ℤ (x -ℤ p) +ℤ ((x -ℤ p) *ℤ (q -ℤ q) -ℤ (y -ℤ q) *ℤ (p -ℤ p) +ℤ pos 0)))
          ≡ ((r -ℤ p) *ℤ (w -ℤ q) -ℤ (s -ℤ q) *ℤ (t -ℤ p)) +ℤ ((t -ℤ p) *ℤ (y -ℤ q) -ℤ (w -ℤ q) *ℤ (x -ℤ p))
      go = ring 8 (λ p q r s t w x y.
          (p ⊖ p) ⊗ (s ⊖ q) ⊖ (q ⊖ q) ⊗ (r ⊖ p) ⊕ ((r ⊖ p) ⊗ (w ⊖ q) ⊖ (s ⊖ q) ⊗ (t ⊖ p) ⊕ ((t ⊖ p) ⊗ (y ⊖ q) ⊖ (w ⊖ q) ⊗ (x ⊖ p) ⊕ ((x ⊖ p) ⊗ (q ⊖ q) ⊖ (y ⊖ q) ⊗ (p ⊖ p) ⊕ k (pos 0))))
          ≔ ((r ⊖ p) ⊗ (w ⊖ q) ⊖ (s ⊖ q) ⊗ (t ⊖ p)) ⊕ ((t ⊖ p) ⊗ (y ⊖ q) ⊖ (w ⊖ q) ⊗ (x ⊖ p))) tt

-- ---- a closed ring of five entries
ring_four : (ring : List ℕ) → length ring ≡ 5 → is_unclosed ring ≡ false → ring ≡ square (get_or ring 0 0) (get_or ring 1 0) (get_or ring 2 0) (get_or ring 3 0)
unfolding is_unclosed last_of
ring_four [] e f = absurd (omega arith)
ring_four (a ∷ []) e f = absurd (omega arith)
ring_four (a ∷ b ∷ []) e f = absurd (omega arith)
ring_four (a ∷ b ∷ c ∷ []) e f = absurd (omega arith)
ring_four (a ∷ b ∷ c ∷ d ∷ []) e f = absurd (omega arith)
ring_four (a ∷ b ∷ c ∷ d ∷ x ∷ []) e f = ap (λ (y : ℕ). a ∷ b ∷ c ∷ d ∷ y ∷ []) (sym (eqb-true a x (not-false (eqb a x) f)))
ring_four (a ∷ b ∷ c ∷ d ∷ x ∷ y ∷ l) e f = absurd (omega arith)

module _ (points : List Point) (ring : List ℕ) (five : length ring ≡ 5) (closed : is_unclosed ring ≡ false) where
  abbrev ps : List Point
  ps = places points ring

  -- where its entry i stands
  abbrev place_of : ℕ → Point
  place_of i = get_or points (get_or ring i 0) origin

  pub places-four : ps ≡ square (place_of 0) (place_of 1) (place_of 2) (place_of 3)
  unfolding places
  places-four = ap (places points) (ring_four ring five closed)

  -- N is the sum of two cross products
  pub quad_normal : normal ps ≡ sum (place_of 0) (place_of 1) (place_of 2) (place_of 3)
  quad_normal = ap normal places-four ∙ normal_is (place_of 0) (place_of 1) (place_of 2) (place_of 3)
