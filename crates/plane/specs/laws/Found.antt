-- Two segments that are found to share a point have one in common: the case that they are not on one line.
use Rattle.std.specs.Prelude.{ℕ, zero, suc, ◌+◌, ◌<◌, ◌≡◌, refl, false, ◌⊎◌, ℤ, pos, negsuc, neg_ℤ, nat_abs, ◌+ℤ◌, ◌-ℤ◌, ◌*ℤ◌}
use Rattle.std.proofs.Common.{arith, sym, ap, ap₂, ◌∙◌, true≢false, inl, inr, lt-ltb}
use Rattle.whole.specs.laws.Solve.{k, ◌⊕◌, ◌⊖◌, ◌⊗◌, ⊝◌, ring, ◌≔◌}
use Rattle.plane.specs.Plane.{Segment, side, same_sign}
use Rattle.plane.specs.laws.Meet.{Meet}

-- x is at or above 0 and y at or below it
pub record Parted (x y : ℤ) : Type 0 where
  pub m : ℕ
  pub n : ℕ
  pub up : x ≡ pos m
  pub down : y ≡ neg_ℤ (pos n)

-- two numbers not both above and not both below 0
parted : (x y : ℤ) → same_sign x y ≡ false → Parted x y ⊎ Parted y x
unfolding same_sign
parted (pos zero) (pos n) e = inr (record { m = n; n = 0; up = refl; down = refl })
parted (pos zero) (negsuc n) e = inl (record { m = 0; n = suc n; up = refl; down = refl })
parted (pos (suc m)) (pos zero) e = inl (record { m = suc m; n = 0; up = refl; down = refl })
parted (pos (suc m)) (pos (suc n)) e = absurd (true≢false (sym (rw (lt-ltb 0 (suc m) (omega arith), lt-ltb 0 (suc n) (omega arith))) ∙ e))
parted (pos (suc m)) (negsuc n) e = inl (record { m = suc m; n = suc n; up = refl; down = refl })
parted (negsuc m) (pos n) e = inr (record { m = n; n = suc m; up = refl; down = refl })
parted (negsuc m) (negsuc n) e = absurd (true≢false e)

-- the four sides of two segments
module _ (e f : Segment) where
  abbrev pub a : ℤ
  a = side e.0 e.1 f.0

  abbrev pub b : ℤ
  b = side e.0 e.1 f.1

  abbrev pub c : ℤ
  c = side f.0 f.1 e.0

  abbrev pub d : ℤ
  d = side f.0 f.1 e.1

  -- they balance
  pub balance : c -ℤ d ≡ b -ℤ a
  unfolding side
  balance = go e.0.u e.0.v e.1.u e.1.v f.0.u f.0.v f.1.u f.1.v
    where
      go : (p q r s g h i j : ℤ) →
          ((i -ℤ g) *ℤ (q -ℤ h) -ℤ (j -ℤ h) *ℤ (p -ℤ g)) -ℤ ((i -ℤ g) *ℤ (s -ℤ h) -ℤ (j -ℤ h) *ℤ (r -ℤ g))
          ≡ ((r -ℤ p) *ℤ (j -ℤ q) -ℤ (s -ℤ q) *ℤ (i -ℤ p)) -ℤ ((r -ℤ p) *ℤ (h -ℤ q) -ℤ (s -ℤ q) *ℤ (g -ℤ p))
      go = ring 8 (λ p q r s g h i j.
          ((i ⊖ g) ⊗ (q ⊖ h) ⊖ (j ⊖ h) ⊗ (p ⊖ g)) ⊖ ((i ⊖ g) ⊗ (s ⊖ h) ⊖ (j ⊖ h) ⊗ (r ⊖ g))
          ≔ ((r ⊖ p) ⊗ (j ⊖ q) ⊖ (s ⊖ q) ⊗ (i ⊖ p)) ⊖ ((r ⊖ p) ⊗ (h ⊖ q) ⊖ (s ⊖ q) ⊗ (g ⊖ p))) tt

  cramer_u : d *ℤ e.0.u -ℤ c *ℤ e.1.u ≡ a *ℤ f.1.u -ℤ b *ℤ f.0.u
  unfolding side
  cramer_u = go e.0.u e.0.v e.1.u e.1.v f.0.u f.0.v f.1.u f.1.v
    where
      go : (p q r s g h i j : ℤ) →
          ((i -ℤ g) *ℤ (s -ℤ h) -ℤ (j -ℤ h) *ℤ (r -ℤ g)) *ℤ p -ℤ ((i -ℤ g) *ℤ (q -ℤ h) -ℤ (j -ℤ h) *ℤ (p -ℤ g)) *ℤ r
          ≡ ((r -ℤ p) *ℤ (h -ℤ q) -ℤ (s -ℤ q) *ℤ (g -ℤ p)) *ℤ i -ℤ ((r -ℤ p) *ℤ (j -ℤ q) -ℤ (s -ℤ q) *ℤ (i -ℤ p)) *ℤ g
      go = ring 8 (λ p q r s g h i j.
          ((i ⊖ g) ⊗ (s ⊖ h) ⊖ (j ⊖ h) ⊗ (r ⊖ g)) ⊗ p ⊖ ((i ⊖ g) ⊗ (q ⊖ h) ⊖ (j ⊖ h) ⊗ (p ⊖ g)) ⊗ r
          ≔ ((r ⊖ p) ⊗ (h ⊖ q) ⊖ (s ⊖ q) ⊗ (g ⊖ p)) ⊗ i ⊖ ((r ⊖ p) ⊗ (j ⊖ q) ⊖ (s ⊖ q) ⊗ (i ⊖ p)) ⊗ g) tt

  cramer_v : d *ℤ e.0.v -ℤ c *ℤ e.1.v ≡ a *ℤ f.1.v -ℤ b *ℤ f.0.v
  unfolding side
  cramer_v = go e.0.u e.0.v e.1.u e.1.v f.0.u f.0.v f.1.u f.1.v
    where
      go : (p q r s g h i j : ℤ) →
          ((i -ℤ g) *ℤ (s -ℤ h) -ℤ (j -ℤ h) *ℤ (r -ℤ g)) *ℤ q -ℤ ((i -ℤ g) *ℤ (q -ℤ h) -ℤ (j -ℤ h) *ℤ (p -ℤ g)) *ℤ s
          ≡ ((r -ℤ p) *ℤ (h -ℤ q) -ℤ (s -ℤ q) *ℤ (g -ℤ p)) *ℤ j -ℤ ((r -ℤ p) *ℤ (j -ℤ q) -ℤ (s -ℤ q) *ℤ (i -ℤ p)) *ℤ h
      go = ring 8 (λ p q r s g h i j.
          ((i ⊖ g) ⊗ (s ⊖ h) ⊖ (j ⊖ h) ⊗ (r ⊖ g)) ⊗ q ⊖ ((i ⊖ g) ⊗ (q ⊖ h) ⊖ (j ⊖ h) ⊗ (p ⊖ g)) ⊗ s
          ≔ ((r ⊖ p) ⊗ (h ⊖ q) ⊖ (s ⊖ q) ⊗ (g ⊖ p)) ⊗ j ⊖ ((r ⊖ p) ⊗ (j ⊖ q) ⊖ (s ⊖ q) ⊗ (i ⊖ p)) ⊗ h) tt

-- the four weights, read off an equation of the four sides
weigh : (i j p q : ℕ) (x y z w : ℤ) → pos q *ℤ x -ℤ neg_ℤ (pos p) *ℤ y ≡ pos i *ℤ w -ℤ neg_ℤ (pos j) *ℤ z → pos q *ℤ x +ℤ pos p *ℤ y ≡ pos j *ℤ z +ℤ pos i *ℤ w
weigh i j p q x y z w e = plus (pos q) (pos p) x y ∙ e ∙ minus (pos i) (pos j) z w
  where
    plus : (q p x y : ℤ) → q *ℤ x +ℤ p *ℤ y ≡ q *ℤ x -ℤ neg_ℤ p *ℤ y
    plus = ring 4 (λ q p x y. q ⊗ x ⊕ p ⊗ y ≔ q ⊗ x ⊖ ⊝ p ⊗ y) tt

    minus : (i j z w : ℤ) → i *ℤ w -ℤ neg_ℤ j *ℤ z ≡ j *ℤ z +ℤ i *ℤ w
    minus = ring 4 (λ i j z w. i ⊗ w ⊖ ⊝ j ⊗ z ≔ j ⊗ z ⊕ i ⊗ w) tt

weigh_back : (i j p q : ℕ) (x y z w : ℤ) → neg_ℤ (pos q) *ℤ x -ℤ pos p *ℤ y ≡ neg_ℤ (pos i) *ℤ w -ℤ pos j *ℤ z → pos q *ℤ x +ℤ pos p *ℤ y ≡ pos j *ℤ z +ℤ pos i *ℤ w
weigh_back i j p q x y z w e = plus (pos q) (pos p) x y ∙ ap neg_ℤ e ∙ minus (pos i) (pos j) z w
  where
    plus : (q p x y : ℤ) → q *ℤ x +ℤ p *ℤ y ≡ neg_ℤ (neg_ℤ q *ℤ x -ℤ p *ℤ y)
    plus = ring 4 (λ q p x y. q ⊗ x ⊕ p ⊗ y ≔ ⊝ (⊝ q ⊗ x ⊖ p ⊗ y)) tt

    minus : (i j z w : ℤ) → neg_ℤ (neg_ℤ i *ℤ w -ℤ j *ℤ z) ≡ j *ℤ z +ℤ i *ℤ w
    minus = ring 4 (λ i j z w. ⊝ (⊝ i ⊗ w ⊖ j ⊗ z) ≔ j ⊗ z ⊕ i ⊗ w) tt

down-down : (p q i j : ℕ) → neg_ℤ (pos p) -ℤ pos q ≡ neg_ℤ (pos j) -ℤ pos i → q + p ≡ j + i
down-down p q i j e = ap nat_abs (go (pos p) (pos q) ∙ ap neg_ℤ e ∙ back (pos j) (pos i))
  where
    go : (p q : ℤ) → q +ℤ p ≡ neg_ℤ (neg_ℤ p -ℤ q)
    go = ring 2 (λ p q. q ⊕ p ≔ ⊝ (⊝ p ⊖ q)) tt

    back : (j i : ℤ) → neg_ℤ (neg_ℤ j -ℤ i) ≡ j +ℤ i
    back = ring 2 (λ j i. ⊝ (⊝ j ⊖ i) ≔ j ⊕ i) tt

up_up : (p q i j : ℕ) → pos p -ℤ neg_ℤ (pos q) ≡ pos j -ℤ neg_ℤ (pos i) → q + p ≡ j + i
up_up p q i j e = ap nat_abs (go (pos p) (pos q) ∙ e ∙ sym (other (pos j) (pos i)))
  where
    go : (p q : ℤ) → q +ℤ p ≡ p -ℤ neg_ℤ q
    go = ring 2 (λ p q. q ⊕ p ≔ p ⊖ ⊝ q) tt

    other : (j i : ℤ) → j +ℤ i ≡ j -ℤ neg_ℤ i
    other = ring 2 (λ j i. j ⊕ i ≔ j ⊖ ⊝ i) tt

up-down : (p q i j : ℕ) → pos p -ℤ neg_ℤ (pos q) ≡ neg_ℤ (pos j) -ℤ pos i → (p + q) + (j + i) ≡ 0
up-down p q i j e = ap nat_abs (go (pos p) (pos q) (pos j) (pos i) ∙ ap (λ (z : ℤ). z +ℤ (pos j +ℤ pos i)) e ∙ zeroed (pos j) (pos i))
  where
    go : (p q j i : ℤ) → (p +ℤ q) +ℤ (j +ℤ i) ≡ (p -ℤ neg_ℤ q) +ℤ (j +ℤ i)
    go = ring 4 (λ p q j i. (p ⊕ q) ⊕ (j ⊕ i) ≔ (p ⊖ ⊝ q) ⊕ (j ⊕ i)) tt

    zeroed : (j i : ℤ) → (neg_ℤ j -ℤ i) +ℤ (j +ℤ i) ≡ pos 0
    zeroed = ring 2 (λ j i. (⊝ j ⊖ i) ⊕ (j ⊕ i) ≔ k (pos 0)) tt

abs_neg : (n : ℕ) → nat_abs (neg_ℤ (pos n)) ≡ n
abs_neg zero = refl
abs_neg (suc n) = refl

-- what two numbers weigh together, one at or above 0 and the other at or below it
weight : (x y : ℤ) (r : Parted x y) → nat_abs x + nat_abs y ≡ r.m + r.n
weight x y r = ap₂ (λ (p q : ℤ). nat_abs p + nat_abs q) r.up r.down ∙ ap (λ (n : ℕ). r.m + n) (abs_neg r.n)

module _ (e f : Segment) where
  -- f goes down through e's line, and e up through f's
  meet-down : Parted (a e f) (b e f) → Parted (d e f) (c e f) → 0 < nat_abs (a e f) + nat_abs (b e f) → Meet e f
  meet-down x y h =
      let w : y.m + y.n ≡ x.n + x.m = down-down y.n y.m x.m x.n (rw (x.up, x.down, y.up, y.down) at (balance e f)) in
      record {
        s = y.n;
        s' = y.m;
        t = x.m;
        t' = x.n;
        some = omega (arith, weight (a e f) (b e f) x);
        whole = w;
        on_u = weigh x.m x.n y.n y.m e.0.u e.1.u f.0.u f.1.u (rw (x.up, x.down, y.up, y.down) at (cramer_u e f));
        on-v = weigh x.m x.n y.n y.m e.0.v e.1.v f.0.v f.1.v (rw (x.up, x.down, y.up, y.down) at (cramer_v e f));
      }

  -- f goes up through e's line, and e down through f's
  meet-up : Parted (b e f) (a e f) → Parted (c e f) (d e f) → 0 < nat_abs (a e f) + nat_abs (b e f) → Meet e f
  meet-up x y h =
      let w : y.n + y.m ≡ x.m + x.n = up_up y.m y.n x.n x.m (rw (x.up, x.down, y.up, y.down) at (balance e f)) in
      record {
        s = y.m;
        s' = y.n;
        t = x.n;
        t' = x.m;
        some = omega (arith, weight (b e f) (a e f) x);
        whole = w;
        on_u = weigh_back x.n x.m y.m y.n e.0.u e.1.u f.0.u f.1.u (rw (x.up, x.down, y.up, y.down) at (cramer_u e f));
        on-v = weigh_back x.n x.m y.m y.n e.0.v e.1.v f.0.v f.1.v (rw (x.up, x.down, y.up, y.down) at (cramer_v e f));
      }

  -- both the same way is impossible
  clash-down : Parted (a e f) (b e f) → Parted (c e f) (d e f) → 0 < nat_abs (a e f) + nat_abs (b e f) → ⊥
  clash-down x y h =
      let z : (y.m + y.n) + (x.n + x.m) ≡ 0 = up-down y.m y.n x.m x.n (rw (x.up, x.down, y.up, y.down) at (balance e f)) in
      omega (arith, weight (a e f) (b e f) x)

  clash-up : Parted (b e f) (a e f) → Parted (d e f) (c e f) → 0 < nat_abs (a e f) + nat_abs (b e f) → ⊥
  clash-up x y h =
      let z : (x.m + x.n) + (y.n + y.m) ≡ 0 = up-down x.m x.n y.m y.n (rw (x.up, x.down, y.up, y.down) at (sym (balance e f))) in
      omega (arith, weight (b e f) (a e f) x)

  -- segments not on one line, neither on one side of the other's line, have a point in common
  pub found_meet : same_sign (a e f) (b e f) ≡ false → same_sign (c e f) (d e f) ≡ false → 0 < nat_abs (a e f) + nat_abs (b e f) → Meet e f
  found_meet p q h = go (parted (a e f) (b e f) p) (parted (c e f) (d e f) q)
    where
      go : Parted (a e f) (b e f) ⊎ Parted (b e f) (a e f) → Parted (c e f) (d e f) ⊎ Parted (d e f) (c e f) → Meet e f
      go (inl x) (inl y) = absurd (clash-down x y h)
      go (inl x) (inr y) = meet-down x y h
      go (inr x) (inl y) = meet-up x y h
      go (inr x) (inr y) = absurd (clash-up x y h)
