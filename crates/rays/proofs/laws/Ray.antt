-- The half-open rule of `crosses` is that of an actual ray: the one from q in the direction (m, 1), with m larger than the way to
-- any corner on the first axis, passes through no corner, and an edge crosses exactly when it has a point in common with it.
use Rattle.std.specs.Prelude.{ℕ, suc, ◌+◌, ◌≤◌, ◌<◌, ◌≡◌, Bool, ◌⊎◌, ℤ, pos, negsuc, neg_ℤ, nat_abs, ◌+ℤ◌, ◌-ℤ◌, ◌*ℤ◌, ◌≤ℤ◌, ◌<ℤ◌, List, [], ◌∷◌}
use Rattle.std.proofs.Common.{arith, ap, ap₂, ◌∙◌, subst, true≢false, inl, inr, le→leb, lt→ltb}
use Rattle.std.proofs.Math.Path.{refl, sym}
use Rattle.std.proofs.Math.Bool.{true, false}
use Rattle.std.specs.Int.Signed.{le_z, le_z_yes, lt_z_yes}
use Rattle.whole.specs.Lists.{steps, steps_from}
use Rattle.whole.specs.All.{All, none, more}
use Rattle.whole.specs.laws.Alls.{all_imp}
use Rattle.whole.specs.laws.Size.{abs_neg}
use Rattle.whole.specs.laws.Solve.{k, ◌⊕◌, ◌⊖◌, ◌⊗◌, ⊝◌, ring, ◌≔◌}
use Rattle.whole.specs.laws.Ring.{combine}
use Rattle.whole.specs.laws.Linear.{◌≼◌, ◌≺◌, ◌≈◌, never, ◌⇒◌, lin}
use Rattle.whole.specs.laws.Tests.{lt_yes, le_yes, le_no, lt_test, le_test, gt_test, lt_le, mul_nonneg, mul_pos-pos}
use Rattle.plane.specs.Plane.{Spot, Segment, side}
use Rattle.plane.specs.laws.Common.{along}
use Rattle.rays.specs.Inside.{crosses}
use Rattle.rays.proofs.laws.Heights.{going_up, both-low, both_high}
use Rattle.rays.specs.laws.Signs.{le_or_lt}
use Rattle.rays.proofs.laws.Turned.{crosses-back}

-- m is larger than the way from q to x on the first axis
pub record Wide (m : ℤ) (q x : Spot) : Type 0 where
  pub right : (x.u -ℤ q.u) <ℤ m
  pub left : (q.u -ℤ x.u) <ℤ m

-- s parts of d on the way along the edge are t parts of d on the ray, t being above 0
pub record RayMeets (m : ℤ) (q : Spot) (e : Segment) : Type 0 where
  pub d : ℤ
  pub s : ℤ
  pub t : ℤ
  pub positive : pos 0 <ℤ d
  pub s-low : pos 0 ≤ℤ s
  pub s_top : s ≤ℤ d
  pub ahead : pos 0 <ℤ t
  pub same_u : along d s e.0.u e.1.u ≡ d *ℤ q.u +ℤ t *ℤ m
  pub same-v : along d s e.0.v e.1.v ≡ d *ℤ q.v +ℤ t

-- ---- seen from q: how far x is above the ray's line
abbrev over : ℤ → Spot → Spot → ℤ
over m q x = m *ℤ (x.v -ℤ q.v) -ℤ (x.u -ℤ q.u)

-- a product with what is above 0, and more
above-line : (m h w : ℤ) → pos 0 <ℤ h → w <ℤ m → neg_ℤ w <ℤ m → pos 0 <ℤ (m *ℤ h -ℤ w)
above-line m h w a b c =
    lin 3 (λ p m w. m ≼ p ⇒ w ≺ m ⇒ k (pos 0) ≺ p ⊖ w) (omega arith) (m *ℤ h) m w
    (lin 3 (λ p m r. r ≈ p ⊖ m ⇒ k (pos 0) ≼ r ⇒ m ≼ p) (omega arith) (m *ℤ h) m (m *ℤ (h -ℤ pos 1)) (ring 2 (λ m h. m ⊗ (h ⊖ k (pos 1)) ≔ m ⊗ h ⊖ m) tt m h)
    (mul_nonneg (lin 2 (λ m w. w ≺ m ⇒ ⊝ w ≺ m ⇒ k (pos 0) ≼ m) (omega arith) m w b c) (lin 1 (λ h. k (pos 0) ≺ h ⇒ k (pos 0) ≼ h ⊖ k (pos 1)) (omega arith) h a))) b

module _ (m : ℤ) (q x : Spot) (w : Wide m q x) where
  wide_neg : neg_ℤ (x.u -ℤ q.u) <ℤ m
  wide_neg = lin 3 (λ x q m. q ⊖ x ≺ m ⇒ ⊝ (x ⊖ q) ≺ m) (omega arith) x.u q.u m w.left

  higher : q.v <ℤ x.v → pos 0 <ℤ over m q x
  higher h = above-line m (x.v -ℤ q.v) (x.u -ℤ q.u) (lin 2 (λ a b. a ≺ b ⇒ k (pos 0) ≺ b ⊖ a) (omega arith) q.v x.v h) w.right wide_neg

  lower : x.v <ℤ q.v → over m q x <ℤ pos 0
  lower h =
      let y = above-line m (q.v -ℤ x.v) (q.u -ℤ x.u) (lin 2 (λ a b. a ≺ b ⇒ k (pos 0) ≺ b ⊖ a) (omega arith) x.v q.v h) w.left (lin 3 (λ x q m. x ⊖ q ≺ m ⇒ ⊝ (q ⊖ x) ≺ m) (omega arith) x.u q.u m w.right) in
      lin 2 (λ y z. k (pos 0) ≺ y ⇒ z ≈ ⊝ y ⇒ z ≺ k (pos 0)) (omega arith) (m *ℤ (q.v -ℤ x.v) -ℤ (q.u -ℤ x.u)) (over m q x) y
      (ring 5 (λ m xu xv qu qv. m ⊗ (xv ⊖ qv) ⊖ (xu ⊖ qu) ≔ ⊝ (m ⊗ (qv ⊖ xv) ⊖ (qu ⊖ xu))) tt m x.u x.v q.u q.v)

  -- no corner is on the ray
  pub no_corner : (d t : ℤ) → pos 0 <ℤ d → pos 0 <ℤ t → d *ℤ x.u ≡ d *ℤ q.u +ℤ t *ℤ m → d *ℤ x.v ≡ d *ℤ q.v +ℤ t → ⊥
  no_corner d t hd ht eu ev = go (le_or_lt x.v q.v)
    where
      -- d times the height is t
      height : d *ℤ (x.v -ℤ q.v) ≡ t
      height = combine (pos 1) (d *ℤ (x.v -ℤ q.v)) t ev (ring 4 (λ d x q t. d ⊗ (x ⊖ q) ⊖ t ≔ k (pos 1) ⊗ (d ⊗ x ⊖ (d ⊗ q ⊕ t))) tt d x.v q.v t)

      flat : d *ℤ over m q x ≡ pos 0
      flat =
          ring 6 (λ d m xu xv qu qv. d ⊗ (m ⊗ (xv ⊖ qv) ⊖ (xu ⊖ qu)) ≔ m ⊗ (d ⊗ xv) ⊖ m ⊗ (d ⊗ qv) ⊖ (d ⊗ xu ⊖ d ⊗ qu)) tt d m x.u x.v q.u q.v
          ∙ ap₂ (λ (y z : ℤ). m *ℤ y -ℤ m *ℤ (d *ℤ q.v) -ℤ (z -ℤ d *ℤ q.u)) ev eu
          ∙ ring 5 (λ d m qu qv t. m ⊗ (d ⊗ qv ⊕ t) ⊖ m ⊗ (d ⊗ qv) ⊖ ((d ⊗ qu ⊕ t ⊗ m) ⊖ d ⊗ qu) ≔ k (pos 0)) tt d m q.u q.v t

      clash : (y : ℤ) → pos 0 <ℤ y → y ≡ pos 0 → ⊥
      clash = lin 1 (λ y. k (pos 0) ≺ y ⇒ y ≈ k (pos 0) ⇒ never) (omega arith)

      go : (x.v ≤ℤ q.v) ⊎ (q.v <ℤ x.v) → ⊥
      go (inr h) = clash (d *ℤ over m q x) (mul_pos-pos hd (higher h)) flat
      go (inl h) =
          lin 3 (λ y z t. y ≈ t ⇒ z ≈ ⊝ y ⇒ k (pos 0) ≼ z ⇒ k (pos 0) ≺ t ⇒ never) (omega arith) (d *ℤ (x.v -ℤ q.v)) (d *ℤ (q.v -ℤ x.v)) t height
          (ring 3 (λ d x q. d ⊗ (q ⊖ x) ≔ ⊝ (d ⊗ (x ⊖ q))) tt d x.v q.v)
          (mul_nonneg (lt_le hd) (lin 2 (λ x q. x ≼ q ⇒ k (pos 0) ≼ q ⊖ x) (omega arith) x.v q.v h)) ht

-- ---- an edge that goes up across the height of q, q being on its left
module _ (m : ℤ) (q a b : Spot) (wa : Wide m q a) (wb : Wide m q b) where
  abbrev area : ℤ
  area = (b.u -ℤ a.u) *ℤ (q.v -ℤ a.v) -ℤ (b.v -ℤ a.v) *ℤ (q.u -ℤ a.u)

  start_below : a.v ≤ℤ q.v → q.v <ℤ b.v → pos 0 <ℤ area → over m q a <ℤ pos 0
  start_below h g x = go (le_or_lt q.v a.v)
    where
      go : (q.v ≤ℤ a.v) ⊎ (a.v <ℤ q.v) → over m q a <ℤ pos 0
      go (inr l) = lower m q a wa l
      go (inl l) =
          let e : a.v ≡ q.v = lin 2 (λ a q. a ≼ q ⇒ q ≼ a ⇒ a ≈ q) (omega arith) a.v q.v h l in
          let f : area ≡ (a.u -ℤ q.u) *ℤ (b.v -ℤ q.v) =
          ap (λ (z : ℤ). (b.u -ℤ a.u) *ℤ (q.v -ℤ z) -ℤ (b.v -ℤ z) *ℤ (q.u -ℤ a.u)) e
          ∙ ring 5 (λ au bu bv qu qv. (bu ⊖ au) ⊗ (qv ⊖ qv) ⊖ (bv ⊖ qv) ⊗ (qu ⊖ au) ≔ (au ⊖ qu) ⊗ (bv ⊖ qv)) tt a.u b.u b.v q.u q.v in
          let r : pos 0 <ℤ (a.u -ℤ q.u) = right (a.u -ℤ q.u) (b.v -ℤ q.v) (lin 2 (λ q b. q ≺ b ⇒ k (pos 0) ≼ b ⊖ q) (omega arith) q.v b.v g) (subst (λ (z : ℤ). pos 0 <ℤ z) f x) in
          lin 3 (λ y z p. k (pos 0) ≺ z ⇒ p ≈ k (pos 0) ⇒ y ≈ p ⊖ z ⇒ y ≺ k (pos 0)) (omega arith) (over m q a) (a.u -ℤ q.u) (m *ℤ (a.v -ℤ q.v)) r
          (ap (λ (z : ℤ). m *ℤ (z -ℤ q.v)) e ∙ ring 2 (λ m q. m ⊗ (q ⊖ q) ≔ k (pos 0)) tt m q.v) refl
        where
          right : (x c : ℤ) → pos 0 ≤ℤ c → pos 0 <ℤ (x *ℤ c) → pos 0 <ℤ x
          right x c h l = pick (le_or_lt x (pos 0))
            where
              pick : (x ≤ℤ pos 0) ⊎ (pos 0 <ℤ x) → pos 0 <ℤ x
              pick (inr r) = r
              pick (inl r) =
                  absurd
                  (lin 2 (λ y z. k (pos 0) ≺ y ⇒ z ≈ ⊝ y ⇒ k (pos 0) ≼ z ⇒ never) (omega arith) (x *ℤ c) (neg_ℤ x *ℤ c) l (ring 2 (λ x c. ⊝ x ⊗ c ≔ ⊝ (x ⊗ c)) tt x c)
                  (mul_nonneg (lin 1 (λ x. x ≼ k (pos 0) ⇒ k (pos 0) ≼ ⊝ x) (omega arith) x r) h))

  up-meets : a.v ≤ℤ q.v → q.v <ℤ b.v → pos 0 <ℤ area → RayMeets m q (a, b)
  up-meets h g x =
      let l = start_below h g x in
      let u = higher m q b wb g in
      record {
        d = over m q b -ℤ over m q a;
        s = neg_ℤ (over m q a);
        t = area;
        positive = lin 2 (λ x y. x ≺ k (pos 0) ⇒ k (pos 0) ≺ y ⇒ k (pos 0) ≺ y ⊖ x) (omega arith) (over m q a) (over m q b) l u;
        s-low = lin 1 (λ x. x ≺ k (pos 0) ⇒ k (pos 0) ≼ ⊝ x) (omega arith) (over m q a) l;
        s_top = lin 2 (λ x y. k (pos 0) ≺ y ⇒ ⊝ x ≼ y ⊖ x) (omega arith) (over m q a) (over m q b) u;
        ahead = x;
        same_u =
            ring 7 (λ m au av bu bv qu qv.
            ((m ⊗ (bv ⊖ qv) ⊖ (bu ⊖ qu)) ⊖ (m ⊗ (av ⊖ qv) ⊖ (au ⊖ qu))) ⊗ au ⊕ ⊝ (m ⊗ (av ⊖ qv) ⊖ (au ⊖ qu)) ⊗ (bu ⊖ au)
            ≔ ((m ⊗ (bv ⊖ qv) ⊖ (bu ⊖ qu)) ⊖ (m ⊗ (av ⊖ qv) ⊖ (au ⊖ qu))) ⊗ qu ⊕ ((bu ⊖ au) ⊗ (qv ⊖ av) ⊖ (bv ⊖ av) ⊗ (qu ⊖ au)) ⊗ m)
            tt m a.u a.v b.u b.v q.u q.v;
        same-v =
            ring 7 (λ m au av bu bv qu qv.
            ((m ⊗ (bv ⊖ qv) ⊖ (bu ⊖ qu)) ⊖ (m ⊗ (av ⊖ qv) ⊖ (au ⊖ qu))) ⊗ av ⊕ ⊝ (m ⊗ (av ⊖ qv) ⊖ (au ⊖ qu)) ⊗ (bv ⊖ av)
            ≔ ((m ⊗ (bv ⊖ qv) ⊖ (bu ⊖ qu)) ⊖ (m ⊗ (av ⊖ qv) ⊖ (au ⊖ qu))) ⊗ qv ⊕ ((bu ⊖ au) ⊗ (qv ⊖ av) ⊖ (bv ⊖ av) ⊗ (qu ⊖ au)))
            tt m a.u a.v b.u b.v q.u q.v;
      }

-- the edge the other way round
meets-back : {m : ℤ} {q a b : Spot} → RayMeets m q (b, a) → RayMeets m q (a, b)
meets-back {m} {q} {a} {b} r = record {
  d = r.d;
  s = r.d -ℤ r.s;
  t = r.t;
  positive = r.positive;
  s-low = lin 2 (λ d s. s ≼ d ⇒ k (pos 0) ≼ d ⊖ s) (omega arith) r.d r.s r.s_top;
  s_top = lin 2 (λ d s. k (pos 0) ≼ s ⇒ d ⊖ s ≼ d) (omega arith) r.d r.s r.s-low;
  ahead = r.ahead;
  same_u = turn r.d r.s a.u b.u ∙ r.same_u;
  same-v = turn r.d r.s a.v b.v ∙ r.same-v;
}
  where
    turn : (d s x y : ℤ) → along d (d -ℤ s) x y ≡ along d s y x
    turn = ring 4 (λ d s x y. d ⊗ x ⊕ (d ⊖ s) ⊗ (y ⊖ x) ≔ d ⊗ y ⊕ s ⊗ (x ⊖ y)) tt

-- ---- and back
mix : (d s x y : ℤ) → pos 0 <ℤ d → pos 0 ≤ℤ s → s ≤ℤ d → pos 0 <ℤ x → pos 0 <ℤ y → pos 0 <ℤ ((d -ℤ s) *ℤ x +ℤ s *ℤ y)
mix d s x y hd lo hi hx hy =
    lin 4 (λ d p q z. k (pos 0) ≺ d ⇒ k (pos 0) ≼ p ⇒ k (pos 0) ≼ q ⇒ z ≈ d ⊕ (p ⊕ q) ⇒ k (pos 0) ≺ z) (omega arith) d ((d -ℤ s) *ℤ (x -ℤ pos 1)) (s *ℤ (y -ℤ pos 1)) ((d -ℤ s) *ℤ x +ℤ s *ℤ y) hd
    (mul_nonneg (lin 2 (λ d s. s ≼ d ⇒ k (pos 0) ≼ d ⊖ s) (omega arith) d s hi) (less x hx))
    (mul_nonneg lo (less y hy))
    (ring 4 (λ d s x y. (d ⊖ s) ⊗ x ⊕ s ⊗ y ≔ d ⊕ ((d ⊖ s) ⊗ (x ⊖ k (pos 1)) ⊕ s ⊗ (y ⊖ k (pos 1)))) tt d s x y)
  where
    less : (x : ℤ) → pos 0 <ℤ x → pos 0 ≤ℤ (x -ℤ pos 1)
    less = lin 1 (λ x. k (pos 0) ≺ x ⇒ k (pos 0) ≼ x ⊖ k (pos 1)) (omega arith)

mix_low : (d s x y : ℤ) → pos 0 ≤ℤ s → s ≤ℤ d → x ≤ℤ pos 0 → y ≤ℤ pos 0 → ((d -ℤ s) *ℤ x +ℤ s *ℤ y) ≤ℤ pos 0
mix_low d s x y lo hi hx hy =
    lin 3 (λ p q z. k (pos 0) ≼ p ⇒ k (pos 0) ≼ q ⇒ z ≈ ⊝ (p ⊕ q) ⇒ z ≼ k (pos 0)) (omega arith) ((d -ℤ s) *ℤ neg_ℤ x) (s *ℤ neg_ℤ y) ((d -ℤ s) *ℤ x +ℤ s *ℤ y)
    (mul_nonneg (lin 2 (λ d s. s ≼ d ⇒ k (pos 0) ≼ d ⊖ s) (omega arith) d s hi) (flip x hx))
    (mul_nonneg lo (flip y hy))
    (ring 4 (λ d s x y. (d ⊖ s) ⊗ x ⊕ s ⊗ y ≔ ⊝ ((d ⊖ s) ⊗ ⊝ x ⊕ s ⊗ ⊝ y)) tt d s x y)
  where
    flip : (x : ℤ) → x ≤ℤ pos 0 → pos 0 ≤ℤ neg_ℤ x
    flip = lin 1 (λ x. x ≼ k (pos 0) ⇒ k (pos 0) ≼ ⊝ x) (omega arith)

module _ (m : ℤ) (q a b : Spot) (wa : Wide m q a) (wb : Wide m q b) (r : RayMeets m q (a, b)) where
  -- the point's height, and that it is on the ray's line
  risen : (r.d -ℤ r.s) *ℤ (a.v -ℤ q.v) +ℤ r.s *ℤ (b.v -ℤ q.v) ≡ r.t
  risen =
      combine (pos 1) ((r.d -ℤ r.s) *ℤ (a.v -ℤ q.v) +ℤ r.s *ℤ (b.v -ℤ q.v)) r.t r.same-v
      (ring 6 (λ d s t a b q. ((d ⊖ s) ⊗ (a ⊖ q) ⊕ s ⊗ (b ⊖ q)) ⊖ t ≔ k (pos 1) ⊗ ((d ⊗ a ⊕ s ⊗ (b ⊖ a)) ⊖ (d ⊗ q ⊕ t))) tt r.d r.s r.t a.v b.v q.v)

  shifted : (r.d -ℤ r.s) *ℤ (a.u -ℤ q.u) +ℤ r.s *ℤ (b.u -ℤ q.u) ≡ r.t *ℤ m
  shifted =
      combine (pos 1) ((r.d -ℤ r.s) *ℤ (a.u -ℤ q.u) +ℤ r.s *ℤ (b.u -ℤ q.u)) (r.t *ℤ m) r.same_u
      (ring 7 (λ d s t m a b q. ((d ⊖ s) ⊗ (a ⊖ q) ⊕ s ⊗ (b ⊖ q)) ⊖ t ⊗ m ≔ k (pos 1) ⊗ ((d ⊗ a ⊕ s ⊗ (b ⊖ a)) ⊖ (d ⊗ q ⊕ t ⊗ m))) tt r.d r.s r.t m a.u b.u q.u)

  balanced : (r.d -ℤ r.s) *ℤ over m q a +ℤ r.s *ℤ over m q b ≡ pos 0
  balanced =
      ring 7 (λ d s m x y z w. (d ⊖ s) ⊗ (m ⊗ x ⊖ y) ⊕ s ⊗ (m ⊗ z ⊖ w) ≔ m ⊗ ((d ⊖ s) ⊗ x ⊕ s ⊗ z) ⊖ ((d ⊖ s) ⊗ y ⊕ s ⊗ w)) tt r.d r.s m (a.v -ℤ q.v) (a.u -ℤ q.u) (b.v -ℤ q.v) (b.u -ℤ q.u)
      ∙ ap₂ (λ (x y : ℤ). m *ℤ x -ℤ y) risen shifted
      ∙ ring 2 (λ m t. m ⊗ t ⊖ t ⊗ m ≔ k (pos 0)) tt m r.t

  clash : (y : ℤ) → pos 0 <ℤ y → y ≡ pos 0 → ⊥
  clash = lin 1 (λ y. k (pos 0) ≺ y ⇒ y ≈ k (pos 0) ⇒ never) (omega arith)

  not-both-low : a.v ≤ℤ q.v → b.v ≤ℤ q.v → ⊥
  not-both-low h g =
      lin 2 (λ y t. y ≼ k (pos 0) ⇒ y ≈ t ⇒ k (pos 0) ≺ t ⇒ never) (omega arith) ((r.d -ℤ r.s) *ℤ (a.v -ℤ q.v) +ℤ r.s *ℤ (b.v -ℤ q.v)) r.t
      (mix_low r.d r.s (a.v -ℤ q.v) (b.v -ℤ q.v) r.s-low r.s_top (down a.v q.v h) (down b.v q.v g)) risen r.ahead
    where
      down : (x q : ℤ) → x ≤ℤ q → (x -ℤ q) ≤ℤ pos 0
      down = lin 2 (λ x q. x ≼ q ⇒ x ⊖ q ≼ k (pos 0)) (omega arith)

  not-both-over : pos 0 <ℤ over m q a → pos 0 <ℤ over m q b → ⊥
  not-both-over h g = clash ((r.d -ℤ r.s) *ℤ over m q a +ℤ r.s *ℤ over m q b) (mix r.d r.s (over m q a) (over m q b) r.positive r.s-low r.s_top h g) balanced

  left-of : a.v ≤ℤ q.v → q.v <ℤ b.v → pos 0 <ℤ area m q a b wa wb
  left-of h g = go (le_or_lt (area m q a b wa wb) (pos 0))
    where
      u : pos 0 <ℤ over m q b
      u = higher m q b wb g

      rise : (over m q a ≤ℤ pos 0) ⊎ (pos 0 <ℤ over m q a) → pos 0 <ℤ (over m q b -ℤ over m q a)
      rise (inl l) = lin 2 (λ x y. x ≼ k (pos 0) ⇒ k (pos 0) ≺ y ⇒ k (pos 0) ≺ y ⊖ x) (omega arith) (over m q a) (over m q b) l u
      rise (inr l) = absurd (not-both-over l u)

      same : r.t *ℤ (over m q b -ℤ over m q a) ≡ r.d *ℤ area m q a b wa wb
      same =
          ring 6 (λ t m x y z w. t ⊗ ((m ⊗ z ⊖ w) ⊖ (m ⊗ x ⊖ y)) ≔ (t ⊗ m) ⊗ (z ⊖ x) ⊖ t ⊗ (w ⊖ y)) tt r.t m (a.v -ℤ q.v) (a.u -ℤ q.u) (b.v -ℤ q.v) (b.u -ℤ q.u)
          ∙ ap₂ (λ (f g : ℤ). f *ℤ ((b.v -ℤ q.v) -ℤ (a.v -ℤ q.v)) -ℤ g *ℤ ((b.u -ℤ q.u) -ℤ (a.u -ℤ q.u))) (sym shifted) (sym risen)
          ∙ ring 8 (λ d s au av bu bv qu qv.
          ((d ⊖ s) ⊗ (au ⊖ qu) ⊕ s ⊗ (bu ⊖ qu)) ⊗ ((bv ⊖ qv) ⊖ (av ⊖ qv)) ⊖ ((d ⊖ s) ⊗ (av ⊖ qv) ⊕ s ⊗ (bv ⊖ qv)) ⊗ ((bu ⊖ qu) ⊖ (au ⊖ qu))
          ≔ d ⊗ ((bu ⊖ au) ⊗ (qv ⊖ av) ⊖ (bv ⊖ av) ⊗ (qu ⊖ au))) tt r.d r.s a.u a.v b.u b.v q.u q.v

      go : (area m q a b wa wb ≤ℤ pos 0) ⊎ (pos 0 <ℤ area m q a b wa wb) → pos 0 <ℤ area m q a b wa wb
      go (inr x) = x
      go (inl x) =
          absurd
          (lin 3 (λ y z w. k (pos 0) ≺ y ⇒ y ≈ z ⇒ w ≈ ⊝ z ⇒ k (pos 0) ≼ w ⇒ never) (omega arith) (r.t *ℤ (over m q b -ℤ over m q a)) (r.d *ℤ area m q a b wa wb) (r.d *ℤ neg_ℤ (area m q a b wa wb))
          (mul_pos-pos r.ahead (rise (le_or_lt (over m q a) (pos 0)))) same (ring 2 (λ d x. d ⊗ ⊝ x ≔ ⊝ (d ⊗ x)) tt r.d (area m q a b wa wb))
          (mul_nonneg (lt_le r.positive) (lin 1 (λ x. x ≼ k (pos 0) ⇒ k (pos 0) ≼ ⊝ x) (omega arith) (area m q a b wa wb) x)))

  meets-up : a.v ≤ℤ q.v → q.v <ℤ b.v → crosses q (a, b) ≡ true
  unfolding side
  meets-up h g = sym (going_up q a b (le_is h) (gt-is g)) ∙ lt_test (left-of h g)
    where
      le_is : a.v ≤ℤ q.v → le_z a.v q.v ≡ true
      le_is h = le_test h

      gt-is : q.v <ℤ b.v → le_z b.v q.v ≡ false
      gt-is h = gt_test h

-- An edge crosses exactly when it has a point in common with the ray.
module _ (m : ℤ) (q a b : Spot) (wa : Wide m q a) (wb : Wide m q b) where
  pub crosses-meets : crosses q (a, b) ≡ true → RayMeets m q (a, b)
  unfolding side
  crosses-meets e = go (le_z a.v q.v) refl (le_z b.v q.v) refl
    where
      go : (x : Bool) → le_z a.v q.v ≡ x → (y : Bool) → le_z b.v q.v ≡ y → RayMeets m q (a, b)
      go true h true g = absurd (true≢false (sym e ∙ sym (both-low q a b h g)))
      go true h false g = up-meets m q a b wa wb (le_yes refl refl h) (le_no refl refl g) (lt_yes refl refl (going_up q a b h g ∙ e))
      go false h true g =
          meets-back (up-meets m q b a wb wa (le_yes refl refl g) (le_no refl refl h) (lt_yes refl refl (going_up q b a g h ∙ crosses-back q (a, b) ∙ e)))
      go false h false g = absurd (true≢false (sym e ∙ sym (both_high q a b h g)))

  pub meets-crosses : RayMeets m q (a, b) → crosses q (a, b) ≡ true
  meets-crosses r = go (le_or_lt a.v q.v) (le_or_lt b.v q.v)
    where
      go : (a.v ≤ℤ q.v) ⊎ (q.v <ℤ a.v) → (b.v ≤ℤ q.v) ⊎ (q.v <ℤ b.v) → crosses q (a, b) ≡ true
      go (inl h) (inl g) = absurd (not-both-low m q a b wa wb r h g)
      go (inl h) (inr g) = meets-up m q a b wa wb r h g
      go (inr h) (inl g) = crosses-back q (b, a) ∙ meets-up m q b a wb wa (meets-back r) g h
      go (inr h) (inr g) = absurd (not-both-over m q a b wa wb r (higher m q a wa h) (higher m q b wb g))

-- there is such an m for any corners
pub record Direction (q : Spot) (l : List Spot) : Type 0 where
  pub m : ℕ
  pub wide : All (Wide (pos m) q) l

le_size : (z : ℤ) → z ≤ℤ pos (nat_abs z)
le_size (pos n) = le_z_yes (le→leb n n (omega arith))
le_size (negsuc n) = le_z_yes tt

pos_lt : (a b : ℕ) → a < b → pos a <ℤ pos b
pos_lt a b h = lt_z_yes (lt→ltb a b h)

wide_by : (q x : Spot) (n : ℕ) → nat_abs (x.u -ℤ q.u) < n → Wide (pos n) q x
wide_by q x n h = record {
  right = lin 3 (λ z s n. z ≼ s ⇒ s ≺ n ⇒ z ≺ n) (omega arith) (x.u -ℤ q.u) (pos (nat_abs (x.u -ℤ q.u))) (pos n) (le_size (x.u -ℤ q.u)) (pos_lt (nat_abs (x.u -ℤ q.u)) n h);
  left = lin 3 (λ z s n. z ≼ s ⇒ s ≺ n ⇒ z ≺ n) (omega arith) (q.u -ℤ x.u) (pos (nat_abs (q.u -ℤ x.u))) (pos n) (le_size (q.u -ℤ x.u)) (pos_lt (nat_abs (q.u -ℤ x.u)) n (subst (λ (k : ℕ). k < n) (sym (abs_neg (x.u -ℤ q.u)) ∙ ap nat_abs (ring 2 (λ x q. ⊝ (x ⊖ q) ≔ q ⊖ x) tt x.u q.u)) h));
}

wider : {q x : Spot} (n n' : ℕ) → n ≤ n' → Wide (pos n) q x → Wide (pos n') q x
wider {q} {x} n n' h w = record { right = go (x.u -ℤ q.u) w.right; left = go (q.u -ℤ x.u) w.left }
  where
    go : (z : ℤ) → z <ℤ pos n → z <ℤ pos n'
    go z l = lin 3 (λ z a b. z ≺ a ⇒ a ≼ b ⇒ z ≺ b) (omega arith) z (pos n) (pos n') l (le_z_yes (le→leb n n' h))

pub direction : (q : Spot) (l : List Spot) → Direction q l
direction q [] = record { m = 0; wide = none }
direction q (x ∷ l) =
    let d = direction q l in
    let n = suc (nat_abs (x.u -ℤ q.u) + d.m) in
    record { m = n; wide = more (wide_by q x n (omega arith)) (all_imp (λ y w. wider d.m n (omega arith) w) d.wide) }

-- "a ray from it through no corner": there is one that the edges which cross meet, and no others
pub record Cast (q : Spot) (ring : List Spot) : Type 0 where
  pub m : ℤ
  pub misses : All (λ (x : Spot). (d t : ℤ) → pos 0 <ℤ d → pos 0 <ℤ t → d *ℤ x.u ≡ d *ℤ q.u +ℤ t *ℤ m → d *ℤ x.v ≡ d *ℤ q.v +ℤ t → ⊥) ring
  pub meets : All (λ (e : Segment). (crosses q e ≡ true → RayMeets m q e) × (RayMeets m q e → crosses q e ≡ true)) (steps ring)

pub cast : (q : Spot) (ring : List Spot) → Cast q ring
unfolding steps steps_from
cast q ring =
    let d = direction q ring in
    record { m = pos d.m; misses = all_imp (λ x w. no_corner (pos d.m) q x w) d.wide; meets = each d.wide }
  where
    each : {m : ℤ} {l : List Spot} → All (Wide m q) l → All (λ (e : Segment). (crosses q e ≡ true → RayMeets m q e) × (RayMeets m q e → crosses q e ≡ true)) (steps l)
    each none = none
    each {m} (more {x = a} {l = l} w ws) = go a l w ws
      where
        go : (a : Spot) (l : List Spot) → Wide m q a → All (Wide m q) l → All (λ (e : Segment). (crosses q e ≡ true → RayMeets m q e) × (RayMeets m q e → crosses q e ≡ true)) (steps_from a l)
        go a [] w none = none
        go a (b ∷ l) w (more x xs) = more (crosses-meets m q a b w x, meets-crosses m q a b w x) (go b l x xs)
