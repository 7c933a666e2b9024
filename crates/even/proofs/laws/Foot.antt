-- Check 06 in the words of a reader: "distance perpendicular to the plane". A place of the plane is one of whole numbers in parts
-- of some whole d. A point is thrown out where every such place is further from it than the tolerance; one that is not has a
-- place of the plane within the tolerance, the foot of its perpendicular.
use Rattle.std.specs.Prelude.{ℕ, zero, suc, ◌*◌, ◌≤◌, ◌≡◌, true, false, ◌⊎◌, ℤ, pos, neg_ℤ, ◌+ℤ◌, ◌-ℤ◌, ◌*ℤ◌, ◌≤ℤ◌, ◌<ℤ◌}
use Rattle.std.proofs.Common.{le_trans, arith, sym, ap, ◌∙◌, subst, true≢false, inl, inr, leb→le}
use Rattle.whole.specs.laws.Solve.{k, ◌⊕◌, ◌⊖◌, ◌⊗◌, ⊝◌, ring, ◌≔◌}
use Rattle.whole.specs.laws.Linear.{lin, ◌≼◌, ◌≺◌, ◌≈◌, ◌⇒◌, never}
use Rattle.whole.specs.laws.Tests as tests
use Rattle.whole.specs.laws.Tests.{lt_yes, lt_no, mul_pos-pos, mul_nonneg, three_ways}
use Rattle.space.specs.Space.{Point, relative_to, cross, dot}
use Rattle.normal.specs.Normal.{is_zero_of}
use Rattle.even.specs.Even.{square, squares, exceeds}
use Rattle.space.specs.held.Points.{at}
use Rattle.even.specs.held.Offs.{largest}
use Rattle.even.proofs.laws.Distance.{sum_of, squares_abs, largest-squares, all-zero}

-- q, in parts of d, is a place of the plane through a at right angles to n
pub record OnPlane (n a : Point) (d : ℤ) (q : Point) : Type 0 where
  pub positive : pos 0 <ℤ d
  pub on : dot n q ≡ d *ℤ dot n a

-- the way from there to p, in parts of d
abbrev pub way : ℤ → Point → Point → Point
way d q p = at (d *ℤ p.x -ℤ q.x) (d *ℤ p.y -ℤ q.y) (d *ℤ p.z -ℤ q.z)

-- ---- squares are not below 0
square-low : (z : ℤ) → pos 0 ≤ℤ square z
unfolding square
square-low = tests.square

square_positive : {d : ℤ} → pos 0 <ℤ d → pos 0 <ℤ square d
unfolding square
square_positive h = mul_pos-pos h h

squares-low : (n : Point) → pos 0 ≤ℤ squares n
unfolding squares
squares-low n = lin 3 (λ x y z. k (pos 0) ≼ x ⇒ k (pos 0) ≼ y ⇒ k (pos 0) ≼ z ⇒ k (pos 0) ≼ x ⊕ y ⊕ z) (omega arith) (square n.x) (square n.y) (square n.z) (square-low n.x) (square-low n.y) (square-low n.z)

-- ---- N·(p - first) by the two places
dot-way : (n a p : Point) → dot n (relative_to a p) ≡ dot n p -ℤ dot n a
unfolding dot relative_to
dot-way n a p = go n.x n.y n.z a.x a.y a.z p.x p.y p.z
  where
    go : (a b c d e f g h i : ℤ) → a *ℤ (g -ℤ d) +ℤ b *ℤ (h -ℤ e) +ℤ c *ℤ (i -ℤ f) ≡ a *ℤ g +ℤ b *ℤ h +ℤ c *ℤ i -ℤ (a *ℤ d +ℤ b *ℤ e +ℤ c *ℤ f)
    go = ring 9 (λ a b c d e f g h i. a ⊗ (g ⊖ d) ⊕ b ⊗ (h ⊖ e) ⊕ c ⊗ (i ⊖ f) ≔ a ⊗ g ⊕ b ⊗ h ⊕ c ⊗ i ⊖ (a ⊗ d ⊕ b ⊗ e ⊕ c ⊗ f)) tt

dot-parts : (n p q : Point) (d : ℤ) → dot n (way d q p) ≡ d *ℤ dot n p -ℤ dot n q
unfolding dot
dot-parts n p q d = go n.x n.y n.z p.x p.y p.z q.x q.y q.z d
  where
    go : (a b c p q r x y z d : ℤ) → a *ℤ (d *ℤ p -ℤ x) +ℤ b *ℤ (d *ℤ q -ℤ y) +ℤ c *ℤ (d *ℤ r -ℤ z) ≡ d *ℤ (a *ℤ p +ℤ b *ℤ q +ℤ c *ℤ r) -ℤ (a *ℤ x +ℤ b *ℤ y +ℤ c *ℤ z)
    go = ring 10 (λ a b c p q r x y z d. a ⊗ (d ⊗ p ⊖ x) ⊕ b ⊗ (d ⊗ q ⊖ y) ⊕ c ⊗ (d ⊗ r ⊖ z) ≔ d ⊗ (a ⊗ p ⊕ b ⊗ q ⊕ c ⊗ r) ⊖ (a ⊗ x ⊕ b ⊗ y ⊕ c ⊗ z)) tt

-- ---- the way to p is at least as long as its part along N
shadow : (n w : Point) → squares n *ℤ squares w ≡ square (dot n w) +ℤ squares (cross n w)
unfolding squares square dot cross
shadow n w = go n.x n.y n.z w.x w.y w.z
  where
    go : (a b c d e f : ℤ) →
        (a *ℤ a +ℤ b *ℤ b +ℤ c *ℤ c) *ℤ (d *ℤ d +ℤ e *ℤ e +ℤ f *ℤ f)
        ≡ (a *ℤ d +ℤ b *ℤ e +ℤ c *ℤ f) *ℤ (a *ℤ d +ℤ b *ℤ e +ℤ c *ℤ f) +ℤ ((b *ℤ f -ℤ c *ℤ e) *ℤ (b *ℤ f -ℤ c *ℤ e) +ℤ (c *ℤ d -ℤ a *ℤ f) *ℤ (c *ℤ d -ℤ a *ℤ f) +ℤ (a *ℤ e -ℤ b *ℤ d) *ℤ (a *ℤ e -ℤ b *ℤ d))
    go = ring 6 (λ a b c d e f.
        (a ⊗ a ⊕ b ⊗ b ⊕ c ⊗ c) ⊗ (d ⊗ d ⊕ e ⊗ e ⊕ f ⊗ f)
        ≔ (a ⊗ d ⊕ b ⊗ e ⊕ c ⊗ f) ⊗ (a ⊗ d ⊕ b ⊗ e ⊕ c ⊗ f) ⊕ ((b ⊗ f ⊖ c ⊗ e) ⊗ (b ⊗ f ⊖ c ⊗ e) ⊕ (c ⊗ d ⊖ a ⊗ f) ⊗ (c ⊗ d ⊖ a ⊗ f) ⊕ (a ⊗ e ⊖ b ⊗ d) ⊗ (a ⊗ e ⊖ b ⊗ d))) tt

square-product : (a b : ℤ) → square (a *ℤ b) ≡ square a *ℤ square b
unfolding square
square-product = ring 2 (λ a b. a ⊗ b ⊗ (a ⊗ b) ≔ a ⊗ a ⊗ (b ⊗ b)) tt

-- numbers that cannot be: s the squares of N, t that of the tolerance, d of the parts, e of N·(p - first), w of the way
outdone : (s t d e w c : ℤ) → pos 0 ≤ℤ s → pos 0 <ℤ d → pos 0 ≤ℤ c → (t *ℤ s) <ℤ e → w ≤ℤ (t *ℤ d) → s *ℤ w ≡ d *ℤ e +ℤ c → ⊥
outdone s t d e w c hs hd hc far near is =
    lin 3 (λ x y c. k (pos 0) ≼ x ⇒ k (pos 0) ≺ y ⇒ k (pos 0) ≼ c ⇒ x ≈ ⊝ y ⊖ c ⇒ never) (omega arith)
    (s *ℤ (t *ℤ d -ℤ w)) (d *ℤ (e -ℤ t *ℤ s)) c
    (mul_nonneg hs (lin 2 (λ x y. x ≼ y ⇒ k (pos 0) ≼ y ⊖ x) (omega arith) w (t *ℤ d) near))
    (mul_pos-pos hd (lin 2 (λ x y. x ≺ y ⇒ k (pos 0) ≺ y ⊖ x) (omega arith) (t *ℤ s) e far))
    hc
    (left s t d w ∙ ap (λ (z : ℤ). d *ℤ (t *ℤ s) -ℤ z) is ∙ right s t d e c)
  where
    left : (s t d w : ℤ) → s *ℤ (t *ℤ d -ℤ w) ≡ d *ℤ (t *ℤ s) -ℤ s *ℤ w
    left = ring 4 (λ s t d w. s ⊗ (t ⊗ d ⊖ w) ≔ d ⊗ (t ⊗ s) ⊖ s ⊗ w) tt

    right : (s t d e c : ℤ) → d *ℤ (t *ℤ s) -ℤ (d *ℤ e +ℤ c) ≡ neg_ℤ (d *ℤ (e -ℤ t *ℤ s)) -ℤ c
    right = ring 5 (λ s t d e c. d ⊗ (t ⊗ s) ⊖ (d ⊗ e ⊕ c) ≔ ⊝ (d ⊗ (e ⊖ t ⊗ s)) ⊖ c) tt

-- a point that is thrown out is further from every place of the plane than the tolerance
pub far-from-all : (tolerance : ℕ) (n a p : Point) → exceeds tolerance n (dot n (relative_to a p)) ≡ true
    → (d : ℤ) (q : Point) → OnPlane n a d q → (square (pos tolerance) *ℤ square d) <ℤ squares (way d q p)
unfolding exceeds
far-from-all tolerance n a p h d q o = go (three_ways (t *ℤ square d) (squares w))
  where
    t : ℤ
    t = square (pos tolerance)

    w : Point
    w = way d q p

    along : dot n w ≡ d *ℤ dot n (relative_to a p)
    along = dot-parts n p q d ∙ ap (λ (z : ℤ). d *ℤ dot n p -ℤ z) o.on ∙ out d (dot n p) (dot n a) ∙ ap (λ (z : ℤ). d *ℤ z) (sym (dot-way n a p))
      where
        out : (d x y : ℤ) → d *ℤ x -ℤ d *ℤ y ≡ d *ℤ (x -ℤ y)
        out = ring 3 (λ d x y. d ⊗ x ⊖ d ⊗ y ≔ d ⊗ (x ⊖ y)) tt

    is : squares n *ℤ squares w ≡ square d *ℤ square (dot n (relative_to a p)) +ℤ squares (cross n w)
    is = shadow n w ∙ ap (λ (z : ℤ). square z +ℤ squares (cross n w)) along ∙ ap (λ (z : ℤ). z +ℤ squares (cross n w)) (square-product d (dot n (relative_to a p)))

    none : squares w ≤ℤ (t *ℤ square d) → ⊥
    none l = outdone (squares n) t (square d) (square (dot n (relative_to a p))) (squares w) (squares (cross n w)) (squares-low n) (square_positive o.positive) (squares-low (cross n w)) (lt_yes (tests.lit _) (tests.lit _) h) l is

    go : ((t *ℤ square d) <ℤ squares w) ⊎ ((t *ℤ square d ≡ squares w) ⊎ (squares w <ℤ (t *ℤ square d))) → (t *ℤ square d) <ℤ squares w
    go (inl l) = l
    go (inr (inl e)) = absurd (none (lin 2 (λ x y. x ≈ y ⇒ y ≼ x) (omega arith) (t *ℤ square d) (squares w) e))
    go (inr (inr l)) = absurd (none (tests.lt_le l))

-- the foot of the perpendicular from p, in parts of the squares of N
abbrev pub foot : Point → Point → Point → Point
foot n a p =
    let d = squares n in
    let e = dot n (relative_to a p) in
    at (d *ℤ p.x -ℤ e *ℤ n.x) (d *ℤ p.y -ℤ e *ℤ n.y) (d *ℤ p.z -ℤ e *ℤ n.z)

-- where N is not 0, it is a place of the plane
positive_squares : (n : Point) → is_zero_of n ≡ false → pos 0 <ℤ squares n
positive_squares n h = go (three_ways (pos 0) (squares n))
  where
    no-square : (m : ℕ) → m * m ≤ 0 → m ≤ 0
    no-square zero h = omega arith
    no-square (suc m) h = absurd (omega arith)

    below : (m : ℕ) → pos m ≤ℤ pos 0 → m ≤ 0
    below m l = leb→le m 0 l.le

    none : squares n ≤ℤ pos 0 → ⊥
    none l =
        true≢false
        (sym (all-zero n (no-square (largest n) (le_trans (largest-squares n) (below (sum_of n) (subst (λ (z : ℤ). z ≤ℤ pos 0) (squares_abs n) l))))) ∙ h)

    go : (pos 0 <ℤ squares n) ⊎ ((pos 0 ≡ squares n) ⊎ (squares n <ℤ pos 0)) → pos 0 <ℤ squares n
    go (inl l) = l
    go (inr (inl e)) = absurd (none (lin 1 (λ x. k (pos 0) ≈ x ⇒ x ≼ k (pos 0)) (omega arith) (squares n) e))
    go (inr (inr l)) = absurd (none (tests.lt_le l))

moved : (n p : Point) (d e : ℤ) → dot n (at (d *ℤ p.x -ℤ e *ℤ n.x) (d *ℤ p.y -ℤ e *ℤ n.y) (d *ℤ p.z -ℤ e *ℤ n.z)) ≡ d *ℤ dot n p -ℤ e *ℤ squares n
unfolding dot squares square
moved n p d e = go n.x n.y n.z p.x p.y p.z d e
  where
    go : (a b c p q r d e : ℤ) → a *ℤ (d *ℤ p -ℤ e *ℤ a) +ℤ b *ℤ (d *ℤ q -ℤ e *ℤ b) +ℤ c *ℤ (d *ℤ r -ℤ e *ℤ c) ≡ d *ℤ (a *ℤ p +ℤ b *ℤ q +ℤ c *ℤ r) -ℤ e *ℤ (a *ℤ a +ℤ b *ℤ b +ℤ c *ℤ c)
    go = ring 8 (λ a b c p q r d e. a ⊗ (d ⊗ p ⊖ e ⊗ a) ⊕ b ⊗ (d ⊗ q ⊖ e ⊗ b) ⊕ c ⊗ (d ⊗ r ⊖ e ⊗ c) ≔ d ⊗ (a ⊗ p ⊕ b ⊗ q ⊕ c ⊗ r) ⊖ e ⊗ (a ⊗ a ⊕ b ⊗ b ⊕ c ⊗ c)) tt

pub foot-on : (n a p : Point) → is_zero_of n ≡ false → OnPlane n a (squares n) (foot n a p)
foot-on n a p h =
    record {
      positive = positive_squares n h;
      on = moved n p (squares n) (dot n (relative_to a p)) ∙ ap (λ (z : ℤ). squares n *ℤ dot n p -ℤ z *ℤ squares n) (dot-way n a p) ∙ out (squares n) (dot n p) (dot n a);
    }
  where
    out : (s x y : ℤ) → s *ℤ x -ℤ (x -ℤ y) *ℤ s ≡ s *ℤ y
    out = ring 3 (λ s x y. s ⊗ x ⊖ (x ⊖ y) ⊗ s ≔ s ⊗ y) tt

-- the way from it has the length of N·(p - first) parts of N
length_is : (n p : Point) (d e : ℤ) → squares (way d (at (d *ℤ p.x -ℤ e *ℤ n.x) (d *ℤ p.y -ℤ e *ℤ n.y) (d *ℤ p.z -ℤ e *ℤ n.z)) p) ≡ square e *ℤ squares n
unfolding squares square
length_is n p d e = go n.x n.y n.z p.x p.y p.z d e
  where
    go : (a b c p q r d e : ℤ) →
        (d *ℤ p -ℤ (d *ℤ p -ℤ e *ℤ a)) *ℤ (d *ℤ p -ℤ (d *ℤ p -ℤ e *ℤ a)) +ℤ (d *ℤ q -ℤ (d *ℤ q -ℤ e *ℤ b)) *ℤ (d *ℤ q -ℤ (d *ℤ q -ℤ e *ℤ b)) +ℤ (d *ℤ r -ℤ (d *ℤ r -ℤ e *ℤ c)) *ℤ (d *ℤ r -ℤ (d *ℤ r -ℤ e *ℤ c))
        ≡ e *ℤ e *ℤ (a *ℤ a +ℤ b *ℤ b +ℤ c *ℤ c)
    go = ring 8 (λ a b c p q r d e.
        (d ⊗ p ⊖ (d ⊗ p ⊖ e ⊗ a)) ⊗ (d ⊗ p ⊖ (d ⊗ p ⊖ e ⊗ a)) ⊕ (d ⊗ q ⊖ (d ⊗ q ⊖ e ⊗ b)) ⊗ (d ⊗ q ⊖ (d ⊗ q ⊖ e ⊗ b)) ⊕ (d ⊗ r ⊖ (d ⊗ r ⊖ e ⊗ c)) ⊗ (d ⊗ r ⊖ (d ⊗ r ⊖ e ⊗ c))
        ≔ e ⊗ e ⊗ (a ⊗ a ⊕ b ⊗ b ⊕ c ⊗ c)) tt

scaled_by : (s t e : ℤ) → pos 0 ≤ℤ s → e ≤ℤ (t *ℤ s) → (e *ℤ s) ≤ℤ (t *ℤ square s)
unfolding square
scaled_by s t e hs h =
    lin 3 (λ x y z. k (pos 0) ≼ z ⇒ z ≈ y ⊖ x ⇒ x ≼ y) (omega arith) (e *ℤ s) (t *ℤ (s *ℤ s)) (s *ℤ (t *ℤ s -ℤ e))
    (mul_nonneg hs (lin 2 (λ x y. x ≼ y ⇒ k (pos 0) ≼ y ⊖ x) (omega arith) e (t *ℤ s) h))
    (out s t e)
  where
    out : (s t e : ℤ) → s *ℤ (t *ℤ s -ℤ e) ≡ t *ℤ (s *ℤ s) -ℤ e *ℤ s
    out = ring 3 (λ s t e. s ⊗ (t ⊗ s ⊖ e) ≔ t ⊗ (s ⊗ s) ⊖ e ⊗ s) tt

-- and a point that is not thrown out is no further from it than the tolerance
pub near_its_foot : (tolerance : ℕ) (n a p : Point) → exceeds tolerance n (dot n (relative_to a p)) ≡ false
    → squares (way (squares n) (foot n a p) p) ≤ℤ (square (pos tolerance) *ℤ square (squares n))
unfolding exceeds
near_its_foot tolerance n a p h =
    subst (λ (z : ℤ). z ≤ℤ (square (pos tolerance) *ℤ square (squares n))) (sym (length_is n p (squares n) (dot n (relative_to a p))))
    (scaled_by (squares n) (square (pos tolerance)) (square (dot n (relative_to a p))) (squares-low n) (lt_no (tests.lit _) (tests.lit _) h))
