-- Two neighbours "share more than their common end": the test of Plane says exactly whether they have a point in common that
-- is not that end.
use Rattle.std.specs.Prelude.{◌≡◌, true, false, ◌⊎◌, ℕ, ℤ, pos, negsuc, neg_ℤ, ◌+ℤ◌, ◌-ℤ◌, ◌*ℤ◌, ◌≤ℤ◌, ◌<ℤ◌}
use Rattle.std.proofs.Math.Path.{refl, ap₂}
use Rattle.std.proofs.Common.{sym, ◌∙◌, ap, subst, inl, inr, arith, eqb-true}
use Rattle.std.proofs.Math.Bool.{◌&&◌}
use Rattle.std.specs.Int.Signed.{lt_z}
use Rattle.whole.specs.Lists.{same_z}
use Rattle.whole.specs.laws.Solve.{E, k, ◌⊕◌, ◌⊖◌, ◌⊗◌, ⊝◌, ring, ◌≔◌}
use Rattle.whole.specs.laws.Ring.{combine}
use Rattle.whole.specs.laws.Linear.{◌≼◌, ◌≺◌, ◌≈◌, never, ◌⇒◌, lin}
use Rattle.whole.specs.laws.Tests.{three_ways, lt_le, square, mul_nonneg, mul_pos-pos, lt_yes, lt_test}
use Rattle.plane.specs.Plane.{Spot, turn_off_of, ahead, share_more_of}
use Rattle.whole.specs.laws.Bools.{and_left, and_right}
use Rattle.plane.specs.laws.Common.{along, CommonPoint}

-- the neighbours from a to b and from b to c have a point in common that is not b
pub record SharesMore (a b c : Spot) : Type 0 where
  pub point : CommonPoint (a, b) (b, c)
  pub other : ¬ ((along point.d point.s a.u b.u ≡ point.d *ℤ b.u) × (along point.d point.s a.v b.v ≡ point.d *ℤ b.v))

-- ---- how a and c lie, seen from b
abbrev orient : Spot → Spot → Spot → ℤ
orient a b c = (b.u -ℤ a.u) *ℤ (c.v -ℤ a.v) -ℤ (b.v -ℤ a.v) *ℤ (c.u -ℤ a.u)

abbrev facing : Spot → Spot → Spot → ℤ
facing a b c = (a.u -ℤ b.u) *ℤ (c.u -ℤ b.u) +ℤ (a.v -ℤ b.v) *ℤ (c.v -ℤ b.v)

abbrev qalong : E → E → E → E → E
qalong m s p q = m ⊗ p ⊕ s ⊗ (q ⊖ p)

abbrev qorient : E → E → E → E → E → E → E
qorient ax ay bx by cx cy = (bx ⊖ ax) ⊗ (cy ⊖ ay) ⊖ (by ⊖ ay) ⊗ (cx ⊖ ax)

abbrev qfacing : E → E → E → E → E → E → E
qfacing ax ay bx by cx cy = (ax ⊖ bx) ⊗ (cx ⊖ bx) ⊕ (ay ⊖ by) ⊗ (cy ⊖ by)

-- ---- ℤ
le_or_lt : (a b : ℤ) → (a ≤ℤ b) ⊎ (b <ℤ a)
le_or_lt a b = go (three_ways a b)
  where
    go : (a <ℤ b) ⊎ ((a ≡ b) ⊎ (b <ℤ a)) → (a ≤ℤ b) ⊎ (b <ℤ a)
    go (inl h) = inl (lt_le h)
    go (inr (inl e)) = inl (lin 2 (λ a b. a ≈ b ⇒ a ≼ b) (omega arith) a b e)
    go (inr (inr h)) = inr h

cancel : {m p q : ℤ} → pos 0 <ℤ m → (m *ℤ p) ≤ℤ (m *ℤ q) → p ≤ℤ q
cancel {m} {p} {q} h l = go (le_or_lt p q)
  where
    go : (p ≤ℤ q) ⊎ (q <ℤ p) → p ≤ℤ q
    go (inl g) = g
    go (inr g) =
        absurd
        (lin 3 (λ x y z. x ≼ y ⇒ z ≈ x ⊖ y ⇒ k (pos 0) ≺ z ⇒ never) (omega arith) (m *ℤ p) (m *ℤ q) (m *ℤ (p -ℤ q)) l
        (ring 3 (λ m p q. m ⊗ (p ⊖ q) ≔ m ⊗ p ⊖ m ⊗ q) tt m p q)
        (mul_pos-pos h (lin 2 (λ p q. q ≺ p ⇒ k (pos 0) ≺ p ⊖ q) (omega arith) p q g)))

-- ---- squares
square-zero : (z : ℤ) → (z *ℤ z) ≤ℤ pos 0 → z ≡ pos 0
square-zero z h = go (three_ways z (pos 0))
  where
    clash : (x : ℤ) → x ≤ℤ pos 0 → pos 0 <ℤ x → ⊥
    clash = lin 1 (λ x. x ≼ k (pos 0) ⇒ k (pos 0) ≺ x ⇒ never) (omega arith)

    go : (z <ℤ pos 0) ⊎ ((z ≡ pos 0) ⊎ (pos 0 <ℤ z)) → z ≡ pos 0
    go (inl g) =
        let n : pos 0 <ℤ neg_ℤ z = lin 1 (λ z. z ≺ k (pos 0) ⇒ k (pos 0) ≺ ⊝ z) (omega arith) z g in
        absurd
        (clash (z *ℤ z) h (subst (λ (x : ℤ). pos 0 <ℤ x) (ring 1 (λ z. ⊝ z ⊗ ⊝ z ≔ z ⊗ z) tt z) (mul_pos-pos n n)))
    go (inr (inl e)) = e
    go (inr (inr g)) = absurd (clash (z *ℤ z) h (mul_pos-pos g g))

squares-zero : (x y : ℤ) → (x *ℤ x +ℤ y *ℤ y) ≤ℤ pos 0 → (x ≡ pos 0) × (y ≡ pos 0)
squares-zero x y h = (
  square-zero x (lin 2 (λ p q. p ⊕ q ≼ k (pos 0) ⇒ k (pos 0) ≼ q ⇒ p ≼ k (pos 0)) (omega arith) (x *ℤ x) (y *ℤ y) h (square y)),
  square-zero y (lin 2 (λ p q. p ⊕ q ≼ k (pos 0) ⇒ k (pos 0) ≼ p ⇒ q ≼ k (pos 0)) (omega arith) (x *ℤ x) (y *ℤ y) h (square x)),
)

-- ---- a common point that is not b passes the test
-- the point, seen from b: m - s parts of a are t parts of c
from-b : (m s t p q r : ℤ) → along m s p q ≡ along m t q r → (m -ℤ s) *ℤ (p -ℤ q) ≡ t *ℤ (r -ℤ q)
from-b m s t p q r e =
    combine (pos 1) ((m -ℤ s) *ℤ (p -ℤ q)) (t *ℤ (r -ℤ q)) e
    (ring 6 (λ m s t p q r. (m ⊖ s) ⊗ (p ⊖ q) ⊖ t ⊗ (r ⊖ q) ≔ k (pos 1) ⊗ (qalong m s p q ⊖ qalong m t q r)) tt m s t p q r)

at_b : (m s t p q r : ℤ) → along m s p q ≡ along m t q r → t *ℤ (r -ℤ q) ≡ pos 0 → along m s p q ≡ m *ℤ q
at_b m s t p q r e z =
    e
    ∙ combine (pos 1) (along m t q r) (m *ℤ q) z
    (ring 4 (λ m t q r. qalong m t q r ⊖ m ⊗ q ≔ k (pos 1) ⊗ (t ⊗ (r ⊖ q) ⊖ k (pos 0))) tt m t q r)

positive : (z : ℤ) → pos 0 ≤ℤ z → (z ≡ pos 0 → ⊥) → pos 0 <ℤ z
positive z h f = go (three_ways (pos 0) z)
  where
    go : (pos 0 <ℤ z) ⊎ ((pos 0 ≡ z) ⊎ (z <ℤ pos 0)) → pos 0 <ℤ z
    go (inl g) = g
    go (inr (inl e)) = absurd (f (sym e))
    go (inr (inr g)) = absurd (lin 1 (λ z. k (pos 0) ≼ z ⇒ z ≺ k (pos 0) ⇒ never) (omega arith) z h g)

times_zero : {t : ℤ} (z : ℤ) → t ≡ pos 0 → t *ℤ z ≡ pos 0
times_zero {t} z e = ap (λ (x : ℤ). x *ℤ z) e ∙ ring 1 (λ z. k (pos 0) ⊗ z ≔ k (pos 0)) tt z

zero_times : (t : ℤ) {z : ℤ} → z ≡ pos 0 → t *ℤ z ≡ pos 0
zero_times t e = ap (λ (x : ℤ). t *ℤ x) e ∙ ring 1 (λ t. t ⊗ k (pos 0) ≔ k (pos 0)) tt t

cancel_zero : {n z : ℤ} → pos 0 <ℤ n → n *ℤ z ≡ pos 0 → z ≡ pos 0
cancel_zero {n} {z} h e =
    let f : n *ℤ z ≡ n *ℤ pos 0 = e ∙ ring 1 (λ n. k (pos 0) ≔ n ⊗ k (pos 0)) tt n in
    lin 1 (λ z. z ≼ k (pos 0) ⇒ k (pos 0) ≼ z ⇒ z ≈ k (pos 0)) (omega arith) z
    (cancel h (lin 2 (λ a b. a ≈ b ⇒ a ≼ b) (omega arith) (n *ℤ z) (n *ℤ pos 0) f))
    (cancel h (lin 2 (λ a b. a ≈ b ⇒ b ≼ a) (omega arith) (n *ℤ z) (n *ℤ pos 0) f))

-- what is above 0 times what is above 0: the other factor
pub cancel_positive : {n z : ℤ} → pos 0 <ℤ n → pos 0 <ℤ (n *ℤ z) → pos 0 <ℤ z
cancel_positive {n} {z} h l = go (le_or_lt z (pos 0))
  where
    go : (z ≤ℤ pos 0) ⊎ (pos 0 <ℤ z) → pos 0 <ℤ z
    go (inr g) = g
    go (inl g) =
        absurd
        (lin 2 (λ x y. k (pos 0) ≺ x ⇒ y ≈ ⊝ x ⇒ k (pos 0) ≼ y ⇒ never) (omega arith) (n *ℤ z) (n *ℤ neg_ℤ z) l
        (ring 2 (λ n z. n ⊗ ⊝ z ≔ ⊝ (n ⊗ z)) tt n z)
        (mul_nonneg (lt_le h) (lin 1 (λ z. z ≼ k (pos 0) ⇒ k (pos 0) ≼ ⊝ z) (omega arith) z g)))

-- with u from b to a and w from b to c
abbrev cross : ℤ → ℤ → ℤ → ℤ → ℤ
cross ux uy wx wy = ux *ℤ wy -ℤ uy *ℤ wx

abbrev dot : ℤ → ℤ → ℤ → ℤ → ℤ
dot ux uy wx wy = ux *ℤ wx +ℤ uy *ℤ wy

module _ (n t ux uy wx wy : ℤ) (ex : n *ℤ ux ≡ t *ℤ wx) (ey : n *ℤ uy ≡ t *ℤ wy) where
  no_cross : n *ℤ cross ux uy wx wy ≡ pos 0
  no_cross =
      ring 5 (λ n ux uy wx wy. n ⊗ (ux ⊗ wy ⊖ uy ⊗ wx) ≔ (n ⊗ ux) ⊗ wy ⊖ (n ⊗ uy) ⊗ wx) tt n ux uy wx wy
      ∙ ap₂ (λ (x y : ℤ). x *ℤ wy -ℤ y *ℤ wx) ex ey
      ∙ ring 3 (λ t wx wy. (t ⊗ wx) ⊗ wy ⊖ (t ⊗ wy) ⊗ wx ≔ k (pos 0)) tt t wx wy

  as_square : n *ℤ dot ux uy wx wy ≡ t *ℤ (wx *ℤ wx +ℤ wy *ℤ wy)
  as_square =
      ring 5 (λ n ux uy wx wy. n ⊗ (ux ⊗ wx ⊕ uy ⊗ wy) ≔ (n ⊗ ux) ⊗ wx ⊕ (n ⊗ uy) ⊗ wy) tt n ux uy wx wy
      ∙ ap₂ (λ (x y : ℤ). x *ℤ wx +ℤ y *ℤ wy) ex ey
      ∙ ring 3 (λ t wx wy. (t ⊗ wx) ⊗ wx ⊕ (t ⊗ wy) ⊗ wy ≔ t ⊗ (wx ⊗ wx ⊕ wy ⊗ wy)) tt t wx wy

  -- where n and t are positive and w is not 0
  forward : pos 0 <ℤ n → pos 0 <ℤ t → ¬ ((wx ≡ pos 0) × (wy ≡ pos 0)) → pos 0 <ℤ dot ux uy wx wy
  forward hn ht f = cancel_positive hn (subst (λ (x : ℤ). pos 0 <ℤ x) (sym as_square) (mul_pos-pos ht (long (le_or_lt (wx *ℤ wx +ℤ wy *ℤ wy) (pos 0)))))
    where
      long : ((wx *ℤ wx +ℤ wy *ℤ wy) ≤ℤ pos 0) ⊎ (pos 0 <ℤ (wx *ℤ wx +ℤ wy *ℤ wy)) → pos 0 <ℤ (wx *ℤ wx +ℤ wy *ℤ wy)
      long (inl l) = absurd (f (squares-zero wx wy l))
      long (inr l) = l

record Same-way (a b c : Spot) : Type 0 where
  flat : orient b a c ≡ pos 0
  ahead : pos 0 <ℤ facing a b c

complete : {a b c : Spot} → SharesMore a b c → Same-way a b c
complete {a} {b} {c} h =
    let p = h.point in
    let n : ℤ = p.d -ℤ p.s in
    let ex = from-b p.d p.s p.t a.u b.u c.u p.same_u in
    let ey = from-b p.d p.s p.t a.v b.v c.v p.same-v in
    let here : p.t *ℤ (c.u -ℤ b.u) ≡ pos 0 → p.t *ℤ (c.v -ℤ b.v) ≡ pos 0 → ⊥ =
    λ z w. h.other (at_b p.d p.s p.t a.u b.u c.u p.same_u z, at_b p.d p.s p.t a.v b.v c.v p.same-v w) in
    let hn : pos 0 <ℤ n =
    positive n (lin 2 (λ m s. s ≼ m ⇒ k (pos 0) ≼ m ⊖ s) (omega arith) p.d p.s p.s_top)
    (λ z. here (sym ex ∙ times_zero (a.u -ℤ b.u) z) (sym ey ∙ times_zero (a.v -ℤ b.v) z)) in
    let ht : pos 0 <ℤ p.t = positive p.t p.t_low (λ z. here (times_zero (c.u -ℤ b.u) z) (times_zero (c.v -ℤ b.v) z)) in
    record {
      flat = cancel_zero hn (no_cross n p.t (a.u -ℤ b.u) (a.v -ℤ b.v) (c.u -ℤ b.u) (c.v -ℤ b.v) ex ey);
      ahead =
          forward n p.t (a.u -ℤ b.u) (a.v -ℤ b.v) (c.u -ℤ b.u) (c.v -ℤ b.v) ex ey hn ht
          (λ w. here (zero_times p.t w.0) (zero_times p.t w.1));
    }

-- ---- a passed test yields a common point that is not b: with u from b to a and w from b to c, w·w parts of u are u·w parts of w
module _ {a b c : Spot} (h : Same-way a b c) where
  long : pos 0 ≤ℤ facing c b c
  long =
      lin 2 (λ p q. k (pos 0) ≼ p ⇒ k (pos 0) ≼ q ⇒ k (pos 0) ≼ p ⊕ q) (omega arith)
      ((c.u -ℤ b.u) *ℤ (c.u -ℤ b.u)) ((c.v -ℤ b.v) *ℤ (c.v -ℤ b.v)) (square (c.u -ℤ b.u)) (square (c.v -ℤ b.v))

  abbrev all : ℤ
  all = facing c b c +ℤ facing a b c

  top : facing a b c ≤ℤ all
  top = lin 2 (λ w f. k (pos 0) ≼ w ⇒ f ≼ w ⊕ f) (omega arith) (facing c b c) (facing a b c) long

  same_u : along all (facing a b c) a.u b.u ≡ along all (facing a b c) b.u c.u
  same_u =
      combine (c.v -ℤ b.v) (along all (facing a b c) a.u b.u) (along all (facing a b c) b.u c.u) h.flat
      (ring 6 (λ ax ay bx by cx cy.
      qalong (qfacing cx cy bx by cx cy ⊕ qfacing ax ay bx by cx cy) (qfacing ax ay bx by cx cy) ax bx
      ⊖ qalong (qfacing cx cy bx by cx cy ⊕ qfacing ax ay bx by cx cy) (qfacing ax ay bx by cx cy) bx cx
      ≔ (cy ⊖ by) ⊗ (qorient bx by ax ay cx cy ⊖ k (pos 0)))
      tt a.u a.v b.u b.v c.u c.v)

  same-v : along all (facing a b c) a.v b.v ≡ along all (facing a b c) b.v c.v
  same-v =
      combine (b.u -ℤ c.u) (along all (facing a b c) a.v b.v) (along all (facing a b c) b.v c.v) h.flat
      (ring 6 (λ ax ay bx by cx cy.
      qalong (qfacing cx cy bx by cx cy ⊕ qfacing ax ay bx by cx cy) (qfacing ax ay bx by cx cy) ay by
      ⊖ qalong (qfacing cx cy bx by cx cy ⊕ qfacing ax ay bx by cx cy) (qfacing ax ay bx by cx cy) by cy
      ≔ (bx ⊖ cx) ⊗ (qorient bx by ax ay cx cy ⊖ k (pos 0)))
      tt a.u a.v b.u b.v c.u c.v)

  -- were it b, u·w parts of w would be none, and so u·w times u·w
  gone : (f p q r : ℤ) → along all f p q ≡ along all f q r → along all f p q ≡ all *ℤ q → f *ℤ (r -ℤ q) ≡ pos 0
  gone f p q r e g =
      combine (pos 1) (f *ℤ (r -ℤ q)) (pos 0) (sym e ∙ g)
      (ring 4 (λ m f q r. f ⊗ (r ⊖ q) ⊖ k (pos 0) ≔ k (pos 1) ⊗ (qalong m f q r ⊖ m ⊗ q)) tt all f q r)

  not-b : ¬ ((along all (facing a b c) a.u b.u ≡ all *ℤ b.u) × (along all (facing a b c) a.v b.v ≡ all *ℤ b.v))
  not-b e =
      let f : ℤ = facing a b c in
      let z : f *ℤ f ≡ pos 0 =
      ring 5 (λ f ux uy wx wy. f ⊗ (ux ⊗ wx ⊕ uy ⊗ wy) ≔ ux ⊗ (f ⊗ wx) ⊕ uy ⊗ (f ⊗ wy)) tt f (a.u -ℤ b.u) (a.v -ℤ b.v) (c.u -ℤ b.u) (c.v -ℤ b.v)
      ∙ ap₂ (λ (x y : ℤ). (a.u -ℤ b.u) *ℤ x +ℤ (a.v -ℤ b.v) *ℤ y) (gone f a.u b.u c.u same_u e.0) (gone f a.v b.v c.v same-v e.1)
      ∙ ring 2 (λ ux uy. ux ⊗ k (pos 0) ⊕ uy ⊗ k (pos 0) ≔ k (pos 0)) tt (a.u -ℤ b.u) (a.v -ℤ b.v) in
      lin 1 (λ x. x ≈ k (pos 0) ⇒ k (pos 0) ≺ x ⇒ never) (omega arith) (f *ℤ f) z (mul_pos-pos h.ahead h.ahead)

  sound : SharesMore a b c
  sound =
      record {
        point =
            record {
              d = all;
              s = facing a b c;
              t = facing a b c;
              positive = lin 2 (λ w f. k (pos 0) ≼ w ⇒ k (pos 0) ≺ f ⇒ k (pos 0) ≺ w ⊕ f) (omega arith) (facing c b c) (facing a b c) long h.ahead;
              s-low = lt_le h.ahead;
              s_top = top;
              t_low = lt_le h.ahead;
              t_top = top;
              same_u = same_u;
              same-v = same-v;
            };
        other = not-b;
      }

-- ---- the test and the facts
same-zero : (z : ℤ) → same_z z (pos 0) ≡ true → z ≡ pos 0
unfolding same_z
same-zero (pos n) e = ap pos (eqb-true n 0 e)
same-zero (negsuc n) e = absurd (never-same e)
  where
    never-same : false ≡ true → ⊥
    never-same e = let z : ◌≡◌ {A = ℕ} 0 1 = cc in omega arith

zero_same : (z : ℤ) → z ≡ pos 0 → same_z z (pos 0) ≡ true
unfolding same_z
zero_same z e = ap (λ (y : ℤ). same_z y (pos 0)) e

module _ (a b c : Spot) where
  turn_is : turn_off_of (a, b) (b, c) ≡ neg_ℤ (orient b a c)
  unfolding turn_off_of
  turn_is = ring 6 (λ ax ay bx by cx cy. (bx ⊖ ax) ⊗ (cy ⊖ by) ⊖ (by ⊖ ay) ⊗ (cx ⊖ bx) ≔ ⊝ qorient bx by ax ay cx cy) tt a.u a.v b.u b.v c.u c.v

  ahead_is : ahead (a, b) (b, c) ≡ neg_ℤ (facing a b c)
  unfolding ahead
  ahead_is = ring 6 (λ ax ay bx by cx cy. (bx ⊖ ax) ⊗ (cx ⊖ bx) ⊕ (by ⊖ ay) ⊗ (cy ⊖ by) ≔ ⊝ qfacing ax ay bx by cx cy) tt a.u a.v b.u b.v c.u c.v

  neg_zero : (z : ℤ) → neg_ℤ z ≡ pos 0 → z ≡ pos 0
  neg_zero = lin 1 (λ z. ⊝ z ≈ k (pos 0) ⇒ z ≈ k (pos 0)) (omega arith)

  zero_neg : (z : ℤ) → z ≡ pos 0 → neg_ℤ z ≡ pos 0
  zero_neg = lin 1 (λ z. z ≈ k (pos 0) ⇒ ⊝ z ≈ k (pos 0)) (omega arith)

  neg_below : (z : ℤ) → neg_ℤ z <ℤ pos 0 → pos 0 <ℤ z
  neg_below = lin 1 (λ z. ⊝ z ≺ k (pos 0) ⇒ k (pos 0) ≺ z) (omega arith)

  below_neg : (z : ℤ) → pos 0 <ℤ z → neg_ℤ z <ℤ pos 0
  below_neg = lin 1 (λ z. k (pos 0) ≺ z ⇒ ⊝ z ≺ k (pos 0)) (omega arith)

  found_way : share_more_of (a, b) (b, c) ≡ true → Same-way a b c
  unfolding share_more_of
  found_way e =
      let z = and_left (same_z (turn_off_of (a, b) (b, c)) (pos 0)) (lt_z (ahead (a, b) (b, c)) (pos 0)) e in
      let l = and_right (same_z (turn_off_of (a, b) (b, c)) (pos 0)) (lt_z (ahead (a, b) (b, c)) (pos 0)) e in
      record { flat = neg_zero (orient b a c) (sym turn_is ∙ same-zero (turn_off_of (a, b) (b, c)) z); ahead = neg_below (facing a b c) (lt_yes ahead_is refl l) }

  way_found : Same-way a b c → share_more_of (a, b) (b, c) ≡ true
  unfolding share_more_of
  way_found w =
      ap₂ ◌&&◌
      (zero_same (turn_off_of (a, b) (b, c)) (turn_is ∙ zero_neg (orient b a c) w.flat))
      (ap (λ (z : ℤ). lt_z z (pos 0)) ahead_is ∙ lt_test (below_neg (facing a b c) w.ahead))

  -- two neighbours share more than their common end exactly when the test says so
  pub share_more_is : (share_more_of (a, b) (b, c) ≡ true → SharesMore a b c) × (SharesMore a b c → share_more_of (a, b) (b, c) ≡ true)
  share_more_is = (λ e. sound (found_way e), λ s. way_found (complete s))
