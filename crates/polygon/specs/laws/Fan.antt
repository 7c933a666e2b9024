-- Of a closed ring of places that fan out no two edges cross: two that are not neighbours stand in sectors that have only the
-- first place in common, and an edge that went straight back over the one before it would turn the other way about.
use Rattle.std.specs.Prelude.{ℕ, zero, suc, ◌+◌, ◌-◌, ◌≤◌, ◌<◌, ◌≡◌, Bool, true, false, not, ◌&&◌, ℤ, negsuc, neg_ℤ, ◌+ℤ◌, ◌-ℤ◌, ◌*ℤ◌, ◌<ℤ◌, ◌≤ℤ◌}
use Rattle.std.proofs.Common.{arith, sym, ap, ap₂, ◌∙◌, subst, true≢false, eqb-true, ne_eqb}
use Rattle.std.proofs.Math.Decide.{dec_lt}
use Rattle.std.proofs.Math.Path.{refl}
use Rattle.std.proofs.Math.IntN.{pos, pos-+ℤ-pos}
use Rattle.std.specs.Int.Signed.{lt_z}
use Rattle.whole.specs.laws.Solve.{k, ◌⊕◌, ◌⊖◌, ◌⊗◌, ⊝◌, ring, ◌≔◌}
use Rattle.whole.specs.laws.Linear.{lin, ◌≼◌, ◌≺◌, ◌≈◌, ◌⇒◌, never}
use Rattle.whole.specs.laws.Tests.{lt_yes, lt_test, ge_test, mul_pos-pos, mul_nonneg, square, lt_le}
use Rattle.whole.specs.laws.Bools.{and_left, and_right}
use Rattle.whole.specs.Lists.{same_z}
use Rattle.plane.specs.Plane.{Spot, side, same_sign, overlap, share, turn_off_of, ahead, share_more_of}
use Rattle.plane.specs.laws.Meet.{Meet}
use Rattle.plane.specs.laws.Share.{share-meet}
use Rattle.polygon.specs.laws.Triangle.{side-round, no_more, level_first}
use Rattle.fan.specs.held.Fan.{above, every, fans}
use Rattle.plane.specs.laws.Neighbours.{cancel_positive}

every-at : (t : ℕ → Bool) (n i : ℕ) → every t n ≡ true → i < n → t i ≡ true
unfolding every
every-at t zero i e h = absurd (omega arith)
every-at t (suc n) i e h = go (dec_lt i n) (every-at t n i (and_left (every t n) (t n) e))
  where
    go : Dec (i < n) → (i < n → t i ≡ true) → t i ≡ true
    go (yes p) f = f p
    go (no p) f = let z : i ≡ n = omega arith in ap t z ∙ and_right (every t n) (t n) e

-- ---- what one sign tells
turned_up : {z : ℤ} → z <ℤ pos 0 → pos 0 <ℤ neg_ℤ z
turned_up {z} h = lin 1 (λ z. z ≺ k (pos 0) ⇒ k (pos 0) ≺ ⊝ z) (omega arith) z h

turned_down : {z : ℤ} → pos 0 <ℤ neg_ℤ z → z <ℤ pos 0
turned_down {z} h = lin 1 (λ z. k (pos 0) ≺ ⊝ z ⇒ z ≺ k (pos 0)) (omega arith) z h

both-above : {x y : ℤ} → pos 0 <ℤ x → pos 0 <ℤ y → same_sign x y ≡ true
unfolding same_sign
both-above h l = rw (lt_test h, lt_test l)

both_below : {x y : ℤ} → x <ℤ pos 0 → y <ℤ pos 0 → same_sign x y ≡ true
unfolding same_sign
both_below h l = rw (ge_test (lt_le h), lt_test h, lt_test l)

other : {z : ℤ} → (z ≡ pos 0 → ⊥) → same_z z (pos 0) ≡ false
unfolding same_z
other {z = pos n} f = ne_eqb n 0 (λ e. f (ap pos e))
other {z = negsuc n} f = refl

some-above : {z : ℤ} → pos 0 <ℤ z → same_z z (pos 0) ≡ false
some-above {z} h = other (λ e. lin 1 (λ z. k (pos 0) ≺ z ⇒ z ≈ k (pos 0) ⇒ never) (omega arith) z h e)

some_below : {z : ℤ} → z <ℤ pos 0 → same_z z (pos 0) ≡ false
some_below {z} h = other (λ e. lin 1 (λ z. z ≺ k (pos 0) ⇒ z ≈ k (pos 0) ⇒ never) (omega arith) z h e)

-- ---- a number, turned about where the way is the other
abbrev signed : Bool → ℤ → ℤ
signed true z = z
signed false z = neg_ℤ z

above_is : (way : Bool) (z : ℤ) → above way z ≡ true → pos 0 <ℤ signed way z
above_is true z e = lt_yes refl refl e
above_is false z e = turned_up {z = z} (lt_yes refl refl e)

some_is : (way : Bool) (z : ℤ) → pos 0 <ℤ signed way z → same_z z (pos 0) ≡ false
some_is true z h = some-above h
some_is false z h = some_below (turned_down {z = z} h)

one_sign : (way : Bool) (x y : ℤ) → pos 0 <ℤ signed way x → pos 0 <ℤ signed way y → same_sign x y ≡ true
one_sign true x y h l = both-above h l
one_sign false x y h l = both_below (turned_down {z = x} h) (turned_down {z = y} l)

same-zero : {z : ℤ} → same_z z (pos 0) ≡ true → z ≡ pos 0
unfolding same_z
same-zero {z = pos n} e = ap pos (eqb-true n 0 e)
same-zero {z = negsuc n} e = absurd (true≢false (sym e))

not_below : (n : ℕ) → pos 0 ≤ℤ pos n
not_below n = lin 0 (k (pos 0) ≼ k (pos n)) (omega arith)

up : (n : ℕ) → pos 0 <ℤ pos (suc n)
up n = lin 0 (k (pos 0) ≺ k (pos (suc n))) (omega arith)

-- ---- an edge wholly on one side of another's line shares no point with it
middle_fails : (t u : Bool) → (t && false && u) ≡ false
middle_fails true u = refl
middle_fails false u = refl

beside : (a b c d : Spot) → same_sign (side a b c) (side a b d) ≡ true → share (a, b) (c, d) ≡ false
unfolding share
beside a b c d e =
    ap (λ (t : Bool). overlap a.u b.u c.u d.u && overlap a.v b.v c.v d.v && not t && not (same_sign (side c d a) (side c d b))) e
    ∙ middle_fails (overlap a.u b.u c.u d.u && overlap a.v b.v c.v d.v) (not (same_sign (side c d a) (side c d b)))

-- ---- three places between which a fourth lies
module _ (o r p q t : Spot) where
  between : side o r q *ℤ side o p t ≡ side o r p *ℤ side o q t +ℤ side o r t *ℤ side o p q
  unfolding side
  between = go o.u o.v r.u r.v p.u p.v q.u q.v t.u t.v
    where
      go : (a b c d e f g h i j : ℤ) →
          ((c -ℤ a) *ℤ (h -ℤ b) -ℤ (d -ℤ b) *ℤ (g -ℤ a)) *ℤ ((e -ℤ a) *ℤ (j -ℤ b) -ℤ (f -ℤ b) *ℤ (i -ℤ a))
          ≡ ((c -ℤ a) *ℤ (f -ℤ b) -ℤ (d -ℤ b) *ℤ (e -ℤ a)) *ℤ ((g -ℤ a) *ℤ (j -ℤ b) -ℤ (h -ℤ b) *ℤ (i -ℤ a)) +ℤ ((c -ℤ a) *ℤ (j -ℤ b) -ℤ (d -ℤ b) *ℤ (i -ℤ a)) *ℤ ((e -ℤ a) *ℤ (h -ℤ b) -ℤ (f -ℤ b) *ℤ (g -ℤ a))
      go = ring 10 (λ a b c d e f g h i j.
          ((c ⊖ a) ⊗ (h ⊖ b) ⊖ (d ⊖ b) ⊗ (g ⊖ a)) ⊗ ((e ⊖ a) ⊗ (j ⊖ b) ⊖ (f ⊖ b) ⊗ (i ⊖ a))
          ≔ ((c ⊖ a) ⊗ (f ⊖ b) ⊖ (d ⊖ b) ⊗ (e ⊖ a)) ⊗ ((g ⊖ a) ⊗ (j ⊖ b) ⊖ (h ⊖ b) ⊗ (i ⊖ a)) ⊕ ((c ⊖ a) ⊗ (j ⊖ b) ⊖ (d ⊖ b) ⊗ (i ⊖ a)) ⊗ ((e ⊖ a) ⊗ (h ⊖ b) ⊖ (f ⊖ b) ⊗ (g ⊖ a))) tt

  -- turning both factors about changes no product
  between-signed : (way : Bool) → signed way (side o r q) *ℤ signed way (side o p t) ≡ signed way (side o r p) *ℤ signed way (side o q t) +ℤ signed way (side o r t) *ℤ signed way (side o p q)
  between-signed true = between
  between-signed false = twice (side o r q) (side o p t) ∙ between ∙ ap₂ ◌+ℤ◌ (sym (twice (side o r p) (side o q t))) (sym (twice (side o r t) (side o p q)))
    where
      twice : (a b : ℤ) → neg_ℤ a *ℤ neg_ℤ b ≡ a *ℤ b
      twice = ring 2 (λ a b. ⊝ a ⊗ ⊝ b ≔ a ⊗ b) tt

  after : (way : Bool) → pos 0 <ℤ signed way (side o r q) → pos 0 <ℤ signed way (side o r p) → pos 0 <ℤ signed way (side o q t) → pos 0 <ℤ signed way (side o r t) → pos 0 <ℤ signed way (side o p q)
      → pos 0 <ℤ signed way (side o p t)
  after way a b c d e =
      cancel_positive a (subst (λ (z : ℤ). pos 0 <ℤ z) (sym (between-signed way)) (lin 2 (λ x y. k (pos 0) ≺ x ⇒ k (pos 0) ≺ y ⇒ k (pos 0) ≺ x ⊕ y) (omega arith) _ _ (mul_pos-pos b c) (mul_pos-pos d e)))

-- ---- neighbours: an edge from q does not go straight back over the one that ends there
module _ (o p q r : Spot) where
  abbrev long : ℤ
  long = (q.u -ℤ p.u) *ℤ (q.u -ℤ p.u) +ℤ (q.v -ℤ p.v) *ℤ (q.v -ℤ p.v)

  back_is : long *ℤ side o q r -ℤ ahead (p, q) (q, r) *ℤ side o p q ≡ turn_off_of (p, q) (q, r) *ℤ ((q.u -ℤ o.u) *ℤ (q.u -ℤ p.u) +ℤ (q.v -ℤ o.v) *ℤ (q.v -ℤ p.v))
  unfolding side ahead turn_off_of
  back_is = go o.u o.v p.u p.v q.u q.v r.u r.v
    where
      go : (a b c d e f g h : ℤ) →
          ((e -ℤ c) *ℤ (e -ℤ c) +ℤ (f -ℤ d) *ℤ (f -ℤ d)) *ℤ ((e -ℤ a) *ℤ (h -ℤ b) -ℤ (f -ℤ b) *ℤ (g -ℤ a)) -ℤ ((e -ℤ c) *ℤ (g -ℤ e) +ℤ (f -ℤ d) *ℤ (h -ℤ f)) *ℤ ((c -ℤ a) *ℤ (f -ℤ b) -ℤ (d -ℤ b) *ℤ (e -ℤ a))
          ≡ ((e -ℤ c) *ℤ (h -ℤ f) -ℤ (f -ℤ d) *ℤ (g -ℤ e)) *ℤ ((e -ℤ a) *ℤ (e -ℤ c) +ℤ (f -ℤ b) *ℤ (f -ℤ d))
      go = ring 8 (λ a b c d e f g h.
          ((e ⊖ c) ⊗ (e ⊖ c) ⊕ (f ⊖ d) ⊗ (f ⊖ d)) ⊗ ((e ⊖ a) ⊗ (h ⊖ b) ⊖ (f ⊖ b) ⊗ (g ⊖ a)) ⊖ ((e ⊖ c) ⊗ (g ⊖ e) ⊕ (f ⊖ d) ⊗ (h ⊖ f)) ⊗ ((c ⊖ a) ⊗ (f ⊖ b) ⊖ (d ⊖ b) ⊗ (e ⊖ a))
          ≔ ((e ⊖ c) ⊗ (h ⊖ f) ⊖ (f ⊖ d) ⊗ (g ⊖ e)) ⊗ ((e ⊖ a) ⊗ (e ⊖ c) ⊕ (f ⊖ b) ⊗ (f ⊖ d))) tt

  back-zero : turn_off_of (p, q) (q, r) ≡ pos 0 → long *ℤ side o q r +ℤ neg_ℤ (ahead (p, q) (q, r)) *ℤ side o p q ≡ pos 0
  back-zero e =
      plus long (side o q r) (ahead (p, q) (q, r)) (side o p q)
      ∙ back_is
      ∙ ap (λ (z : ℤ). z *ℤ ((q.u -ℤ o.u) *ℤ (q.u -ℤ p.u) +ℤ (q.v -ℤ o.v) *ℤ (q.v -ℤ p.v))) e
      ∙ zeroed ((q.u -ℤ o.u) *ℤ (q.u -ℤ p.u) +ℤ (q.v -ℤ o.v) *ℤ (q.v -ℤ p.v))
    where
      plus : (a b c d : ℤ) → a *ℤ b +ℤ neg_ℤ c *ℤ d ≡ a *ℤ b -ℤ c *ℤ d
      plus = ring 4 (λ a b c d. a ⊗ b ⊕ ⊝ c ⊗ d ≔ a ⊗ b ⊖ c ⊗ d) tt

      zeroed : (a : ℤ) → pos 0 *ℤ a ≡ pos 0
      zeroed = ring 1 (λ a. k (pos 0) ⊗ a ≔ k (pos 0)) tt

  back-signed : (way : Bool) → turn_off_of (p, q) (q, r) ≡ pos 0 → long *ℤ signed way (side o q r) +ℤ neg_ℤ (ahead (p, q) (q, r)) *ℤ signed way (side o p q) ≡ pos 0
  back-signed true e = back-zero e
  back-signed false e = turned long (side o q r) (ahead (p, q) (q, r)) (side o p q) ∙ ap neg_ℤ (back-zero e)
    where
      turned : (a b c d : ℤ) → a *ℤ neg_ℤ b +ℤ neg_ℤ c *ℤ neg_ℤ d ≡ neg_ℤ (a *ℤ b +ℤ neg_ℤ c *ℤ d)
      turned = ring 4 (λ a b c d. a ⊗ ⊝ b ⊕ ⊝ c ⊗ ⊝ d ≔ ⊝ (a ⊗ b ⊕ ⊝ c ⊗ d)) tt

  long_is : pos 0 ≤ℤ long
  long_is = lin 2 (λ x y. k (pos 0) ≼ x ⇒ k (pos 0) ≼ y ⇒ k (pos 0) ≼ x ⊕ y) (omega arith) _ _ (square (q.u -ℤ p.u)) (square (q.v -ℤ p.v))

  no_back : (way : Bool) → pos 0 <ℤ signed way (side o p q) → pos 0 <ℤ signed way (side o q r) → share_more_of (p, q) (q, r) ≡ false
  unfolding share_more_of
  no_back way h l = go (same_z (turn_off_of (p, q) (q, r)) (pos 0)) (lt_z (ahead (p, q) (q, r)) (pos 0)) refl refl
    where
      clash : turn_off_of (p, q) (q, r) ≡ pos 0 → ahead (p, q) (q, r) <ℤ pos 0 → ⊥
      clash e f =
          let a : pos 0 ≤ℤ (long *ℤ signed way (side o q r)) = mul_nonneg long_is (lt_le l) in
          let b : pos 0 <ℤ (neg_ℤ (ahead (p, q) (q, r)) *ℤ signed way (side o p q)) = mul_pos-pos (turned_up f) h in
          lin 2 (λ x y. k (pos 0) ≼ x ⇒ k (pos 0) ≺ y ⇒ x ⊕ y ≈ k (pos 0) ⇒ never) (omega arith) _ _ a b (back-signed way e)

      go : (t u : Bool) → same_z (turn_off_of (p, q) (q, r)) (pos 0) ≡ t → lt_z (ahead (p, q) (q, r)) (pos 0) ≡ u → (t && u) ≡ false
      go true true e f = absurd (clash (same-zero e) (lt_yes refl refl f))
      go true false e f = refl
      go false u e f = refl

-- ---- edges that are not neighbours: e from p to q, and f from c on, which comes after both
module _ (o p q c d : Spot) (m : Meet (p, q) (c, d)) where
  weights : pos m.s' +ℤ pos m.s ≡ pos m.t' +ℤ pos m.t
  weights = pos-+ℤ-pos m.s' m.s ∙ ap pos m.whole ∙ sym (pos-+ℤ-pos m.t' m.t)

  met : (pos m.s' *ℤ side o p c +ℤ pos m.s *ℤ side o q c) +ℤ (pos m.t' *ℤ side o c c +ℤ pos m.t *ℤ side o c d) ≡ pos 0
  unfolding side
  met =
      first (pos m.s') (pos m.s) o.u o.v p.u p.v q.u q.v c.u c.v (pos m.t' *ℤ side o c c +ℤ pos m.t *ℤ side o c d)
      ∙ (λ i. ((c.v -ℤ o.v) *ℤ (m.on_u i -ℤ weights i *ℤ o.u) -ℤ (c.u -ℤ o.u) *ℤ (m.on-v i -ℤ weights i *ℤ o.v)) +ℤ (pos m.t' *ℤ side o c c +ℤ pos m.t *ℤ side o c d))
      ∙ last (pos m.t') (pos m.t) o.u o.v c.u c.v d.u d.v
    where
      first : (x y a b e f g h i j z : ℤ) →
          (x *ℤ ((e -ℤ a) *ℤ (j -ℤ b) -ℤ (f -ℤ b) *ℤ (i -ℤ a)) +ℤ y *ℤ ((g -ℤ a) *ℤ (j -ℤ b) -ℤ (h -ℤ b) *ℤ (i -ℤ a))) +ℤ z
          ≡ ((j -ℤ b) *ℤ ((x *ℤ e +ℤ y *ℤ g) -ℤ (x +ℤ y) *ℤ a) -ℤ (i -ℤ a) *ℤ ((x *ℤ f +ℤ y *ℤ h) -ℤ (x +ℤ y) *ℤ b)) +ℤ z
      first = ring 11 (λ x y a b e f g h i j z.
          (x ⊗ ((e ⊖ a) ⊗ (j ⊖ b) ⊖ (f ⊖ b) ⊗ (i ⊖ a)) ⊕ y ⊗ ((g ⊖ a) ⊗ (j ⊖ b) ⊖ (h ⊖ b) ⊗ (i ⊖ a))) ⊕ z
          ≔ ((j ⊖ b) ⊗ ((x ⊗ e ⊕ y ⊗ g) ⊖ (x ⊕ y) ⊗ a) ⊖ (i ⊖ a) ⊗ ((x ⊗ f ⊕ y ⊗ h) ⊖ (x ⊕ y) ⊗ b)) ⊕ z) tt

      last : (x y a b i j g h : ℤ) →
          ((j -ℤ b) *ℤ ((x *ℤ i +ℤ y *ℤ g) -ℤ (x +ℤ y) *ℤ a) -ℤ (i -ℤ a) *ℤ ((x *ℤ j +ℤ y *ℤ h) -ℤ (x +ℤ y) *ℤ b)) +ℤ (x *ℤ ((i -ℤ a) *ℤ (j -ℤ b) -ℤ (j -ℤ b) *ℤ (i -ℤ a)) +ℤ y *ℤ ((i -ℤ a) *ℤ (h -ℤ b) -ℤ (j -ℤ b) *ℤ (g -ℤ a)))
          ≡ pos 0
      last = ring 8 (λ x y a b i j g h.
          ((j ⊖ b) ⊗ ((x ⊗ i ⊕ y ⊗ g) ⊖ (x ⊕ y) ⊗ a) ⊖ (i ⊖ a) ⊗ ((x ⊗ j ⊕ y ⊗ h) ⊖ (x ⊕ y) ⊗ b)) ⊕ (x ⊗ ((i ⊖ a) ⊗ (j ⊖ b) ⊖ (j ⊖ b) ⊗ (i ⊖ a)) ⊕ y ⊗ ((i ⊖ a) ⊗ (h ⊖ b) ⊖ (j ⊖ b) ⊗ (g ⊖ a)))
          ≔ k (pos 0)) tt

  met_signed : (way : Bool) → (pos m.s' *ℤ signed way (side o p c) +ℤ pos m.s *ℤ signed way (side o q c)) +ℤ (pos m.t' *ℤ signed way (side o c c) +ℤ pos m.t *ℤ signed way (side o c d)) ≡ pos 0
  met_signed true = met
  met_signed false = turned (pos m.s') (pos m.s) (pos m.t') (pos m.t) (side o p c) (side o q c) (side o c c) (side o c d) ∙ ap neg_ℤ met
    where
      turned : (a b c d x y z w : ℤ) → (a *ℤ neg_ℤ x +ℤ b *ℤ neg_ℤ y) +ℤ (c *ℤ neg_ℤ z +ℤ d *ℤ neg_ℤ w) ≡ neg_ℤ ((a *ℤ x +ℤ b *ℤ y) +ℤ (c *ℤ z +ℤ d *ℤ w))
      turned = ring 8 (λ a b c d x y z w. (a ⊗ ⊝ x ⊕ b ⊗ ⊝ y) ⊕ (c ⊗ ⊝ z ⊕ d ⊗ ⊝ w) ≔ ⊝ ((a ⊗ x ⊕ b ⊗ y) ⊕ (c ⊗ z ⊕ d ⊗ w))) tt

-- weights, not both 0, of numbers above 0; and of numbers not below
weigh_some : (a b : ℕ) {x y : ℤ} → 0 < a + b → pos 0 <ℤ x → pos 0 <ℤ y → pos 0 <ℤ (pos a *ℤ x +ℤ pos b *ℤ y)
weigh_some zero zero h p q = absurd (omega arith)
weigh_some zero (suc b) {x} {y} h p q = lin 2 (λ x y. k (pos 0) ≼ x ⇒ k (pos 0) ≺ y ⇒ k (pos 0) ≺ x ⊕ y) (omega arith) _ _ (mul_nonneg (not_below 0) (lt_le p)) (mul_pos-pos (up b) q)
weigh_some (suc a) b {x} {y} h p q = lin 2 (λ x y. k (pos 0) ≺ x ⇒ k (pos 0) ≼ y ⇒ k (pos 0) ≺ x ⊕ y) (omega arith) _ _ (mul_pos-pos (up a) p) (mul_nonneg (not_below b) (lt_le q))

weigh_none : (a b : ℕ) {x y : ℤ} → pos 0 ≤ℤ x → pos 0 ≤ℤ y → pos 0 ≤ℤ (pos a *ℤ x +ℤ pos b *ℤ y)
weigh_none a b p q = lin 2 (λ x y. k (pos 0) ≼ x ⇒ k (pos 0) ≼ y ⇒ k (pos 0) ≼ x ⊕ y) (omega arith) _ _ (mul_nonneg (not_below a) p) (mul_nonneg (not_below b) q)

no_meet : (way : Bool) (o p q c d : Spot) → pos 0 <ℤ signed way (side o p c) → pos 0 <ℤ signed way (side o q c) → pos 0 ≤ℤ signed way (side o c c) → pos 0 ≤ℤ signed way (side o c d) → share (p, q) (c, d) ≡ false
no_meet way o p q c d a b e f = go (share (p, q) (c, d)) refl
  where
    clash : Meet (p, q) (c, d) → ⊥
    clash m =
        lin 2 (λ x y. k (pos 0) ≺ x ⇒ k (pos 0) ≼ y ⇒ x ⊕ y ≈ k (pos 0) ⇒ never) (omega arith) _ _ (weigh_some m.s' m.s m.some a b) (weigh_none m.t' m.t e f) (met_signed o p q c d m way)

    go : (t : Bool) → share (p, q) (c, d) ≡ t → t ≡ false
    go true h = absurd (clash (share-meet (p, q) (c, d) h))
    go false h = refl

-- ---- places that fan out, the one numbered m being the first again
none-signed : (way : Bool) {z : ℤ} → z ≡ pos 0 → pos 0 ≤ℤ signed way z
none-signed true e = subst (λ (z : ℤ). pos 0 ≤ℤ z) (sym e) (not_below 0)
none-signed false e = subst (λ (z : ℤ). pos 0 ≤ℤ neg_ℤ z) (sym e) (not_below 0)

level_last : (o c : Spot) → side o c c ≡ pos 0
level_last o c = side-round c o c ∙ side-round c c o ∙ level_first c o

level_home : (o c : Spot) → side o c o ≡ pos 0
level_home o c = side-round o o c ∙ level_first o c

module _ (way : Bool) (at : ℕ → Spot) (m : ℕ) (fan : every (fans way at) (m - 2) ≡ true) where
  -- which side of the way to place i the place j is on
  abbrev turn : ℕ → ℕ → ℤ
  turn i j = signed way (side (at 0) (at i) (at j))

  step : (x : ℕ) → x < m - 2 → (pos 0 <ℤ turn (x + 1) (x + 2)) × (pos 0 <ℤ turn 1 (x + 2))
  step x h =
      let e = every-at (fans way at) (m - 2) x fan h in
      let a = above way (side (at 0) (at (x + 1)) (at (x + 2))) in
      let b = above way (side (at 0) (at 1) (at (x + 2))) in
      (above_is way (side (at 0) (at (x + 1)) (at (x + 2))) (and_left a b e), above_is way (side (at 0) (at 1) (at (x + 2))) (and_right a b e))

  next : (i : ℕ) → 1 ≤ i → suc i < m → pos 0 <ℤ turn i (suc i)
  next zero h l = absurd (omega arith)
  next (suc x) h l =
      let e : x + 1 ≡ suc x = omega arith in
      let f : x + 2 ≡ suc (suc x) = omega arith in
      subst (λ (n : ℕ). pos 0 <ℤ turn n (suc (suc x))) e (subst (λ (n : ℕ). pos 0 <ℤ turn (x + 1) n) f (step x (omega arith)).0)

  past_first : (j : ℕ) → 2 ≤ j → j < m → pos 0 <ℤ turn 1 j
  past_first zero h l = absurd (omega arith)
  past_first (suc zero) h l = absurd (omega arith)
  past_first (suc (suc x)) h l =
      let f : x + 2 ≡ suc (suc x) = omega arith in
      subst (λ (n : ℕ). pos 0 <ℤ turn 1 n) f (step x (omega arith)).1

  -- each comes after all that stand before it
  order : (j i : ℕ) → 1 ≤ i → i < j → j < m → pos 0 <ℤ turn i j
  order zero i a b c = absurd (omega arith)
  order (suc j) i a b c = go (dec_lt i j) (dec_lt 1 i) (λ p. order j i a p (omega arith))
    where
      go : Dec (i < j) → Dec (1 < i) → (i < j → pos 0 <ℤ turn i j) → pos 0 <ℤ turn i (suc j)
      go (yes p) (yes q) f = after (at 0) (at 1) (at i) (at j) (at (suc j)) way (past_first j (omega arith) (omega arith)) (past_first i (omega arith) (omega arith)) (next j (omega arith) c) (past_first (suc j) (omega arith) c) (f p)
      go (yes p) (no q) f = let e : 1 ≡ i = omega arith in subst (λ (n : ℕ). pos 0 <ℤ turn n (suc j)) e (past_first (suc j) (omega arith) c)
      go (no p) d f = let e : j ≡ i = omega arith in subst (λ (n : ℕ). pos 0 <ℤ turn n (suc j)) e (next j (omega arith) c)

  pub some_at : (i j : ℕ) → 1 ≤ i → i < j → j < m → same_z (side (at 0) (at i) (at j)) (pos 0) ≡ false
  some_at i j a b c = some_is way (side (at 0) (at i) (at j)) (order j i a b c)

  module _ (three : 3 ≤ m) (closed : at m ≡ at 0) where
    home : (i : ℕ) → i ≡ m → at 0 ≡ at i
    home i e = sym closed ∙ ap at (sym e)

    pub next-apart : (i : ℕ) → i + 1 < m → share_more_of (at i, at (i + 1)) (at (i + 1), at ((i + 1) + 1)) ≡ false
    next-apart zero h = no_more (at 0) (at 1) (at 2) (some_at 1 2 (omega arith) (omega arith) (omega arith))
    next-apart (suc x) h = go (dec_lt ((suc x + 1) + 1) m)
      where
        go : Dec ((suc x + 1) + 1 < m) → share_more_of (at (suc x), at (suc x + 1)) (at (suc x + 1), at ((suc x + 1) + 1)) ≡ false
        go (yes p) = no_back (at 0) (at (suc x)) (at (suc x + 1)) (at ((suc x + 1) + 1)) way (order (suc x + 1) (suc x) (omega arith) (omega arith) h) (order ((suc x + 1) + 1) (suc x + 1) (omega arith) (omega arith) p)
        go (no p) =
            subst (λ (r : Spot). share_more_of (at (suc x), at (suc x + 1)) (at (suc x + 1), r) ≡ false) (home ((suc x + 1) + 1) (omega arith))
            (no_more (at (suc x)) (at (suc x + 1)) (at 0) (ap (λ (z : ℤ). same_z z (pos 0)) (side-round (at 0) (at (suc x)) (at (suc x + 1))) ∙ some_at (suc x) (suc x + 1) (omega arith) (omega arith) h))

    pub last_apart : (j : ℕ) → j + 1 ≡ m → share_more_of (at j, at (j + 1)) (at 0, at 1) ≡ false
    last_apart j e =
        subst (λ (q : Spot). share_more_of (at j, q) (at 0, at 1) ≡ false) (home (j + 1) e)
        (no_more (at j) (at 0) (at 1) (ap (λ (z : ℤ). same_z z (pos 0)) (side-round (at 1) (at j) (at 0) ∙ side-round (at 0) (at 1) (at j)) ∙ some_at 1 j (omega arith) (omega arith) (omega arith)))

    pub other-apart : (i j : ℕ) → i + 1 < j → j < m → (i ≡ 0 → j + 1 < m) → share (at i, at (i + 1)) (at j, at (j + 1)) ≡ false
    other-apart zero j a b c =
        beside (at 0) (at 1) (at j) (at (j + 1)) (one_sign way (side (at 0) (at 1) (at j)) (side (at 0) (at 1) (at (j + 1))) (order j 1 (omega arith) (omega arith) b) (order (j + 1) 1 (omega arith) (omega arith) (c refl)))
    other-apart (suc x) j a b c =
        no_meet way (at 0) (at (suc x)) (at (suc x + 1)) (at j) (at (j + 1)) (order j (suc x) (omega arith) (omega arith) b) (order j (suc x + 1) (omega arith) a b) (none-signed way (level_last (at 0) (at j))) (go (dec_lt (j + 1) m))
      where
        go : Dec (j + 1 < m) → pos 0 ≤ℤ turn j (j + 1)
        go (yes p) = lt_le (order (j + 1) j (omega arith) (omega arith) p)
        go (no p) = none-signed way (ap (λ (q : Spot). side (at 0) (at j) q) (sym (home (j + 1) (omega arith))) ∙ level_home (at 0) (at j))
