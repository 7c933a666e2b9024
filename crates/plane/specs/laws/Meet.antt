-- Two segments that have a point in common are found to share one.
use Prim.Native.Nat.{ℕ, zero, suc, ◌+◌, ◌*◌, ◌-◌, ◌<◌}
use Rattle.std.proofs.Common.{arith, mul-suc, ap, ◌∙◌, subst, lt-ltb, le-ltb}
use Rattle.std.specs.Prelude.{◌≡◌, Bool, ◌&&◌, T, ℤ, negsuc, neg_ℤ, nat_abs, ◌+ℤ◌, ◌-ℤ◌, ◌*ℤ◌, [], ◌∷◌}
use Rattle.std.proofs.Math.Path.{refl, sym}
use Rattle.std.proofs.Math.Bool.{true, false}
use Rattle.std.proofs.Math.IntN.{pos}
use Rattle.std.specs.Int.Signed.{lt_z, lt_z_yes}
use Rattle.whole.specs.laws.Bools.{and_left, and_right}
use Rattle.whole.specs.laws.Solve.{v, k, ◌⊕◌, ◌⊖◌, ◌⊗◌, ⊝◌, ring, ◌≔◌}
use Rattle.whole.specs.laws.Order.{P, N, lt_of, eq_by}
use Rattle.plane.specs.Plane.{Segment, side, same_sign, under, overlap, share}

-- a point in common: it divides e in the ratio s to s', and f in the ratio t to t'
pub record Meet (e f : Segment) : Type 0 where
  pub s : ℕ
  pub s' : ℕ
  pub t : ℕ
  pub t' : ℕ
  pub some : 0 < s' + s
  pub whole : s' + s ≡ t' + t
  pub on_u : pos s' *ℤ e.0.u +ℤ pos s *ℤ e.1.u ≡ pos t' *ℤ f.0.u +ℤ pos t *ℤ f.1.u
  pub on-v : pos s' *ℤ e.0.v +ℤ pos s *ℤ e.1.v ≡ pos t' *ℤ f.0.v +ℤ pos t *ℤ f.1.v

-- ---- sums of naturals times what is above zero

pos_is : (a b : ℕ) → pos a ≡ pos b → a ≡ b
pos_is a b e = ap nat_abs e

-- weights that bring two numbers above zero to zero are zero
no_weight : (a b m n : ℕ) → pos a *ℤ pos (suc m) +ℤ pos b *ℤ pos (suc n) ≡ pos 0 → a + b ≡ 0
no_weight a b m n e =
    let h : a * suc m + b * suc n ≡ 0 = pos_is (a * suc m + b * suc n) 0 e in
    let p : a * suc m ≡ a * m + a = mul-suc a m in
    let q : b * suc n ≡ b * n + b = mul-suc b n in
    omega arith

no_weight_below : (a b m n : ℕ) → pos a *ℤ negsuc m +ℤ pos b *ℤ negsuc n ≡ pos 0 → a + b ≡ 0
no_weight_below a b m n e = no_weight a b m n (flip (pos a) (pos b) (pos (suc m)) (pos (suc n)) ∙ ap neg_ℤ e)
  where
    flip : (a b c d : ℤ) → a *ℤ c +ℤ b *ℤ d ≡ neg_ℤ (a *ℤ neg_ℤ c +ℤ b *ℤ neg_ℤ d)
    flip = ring 4 (λ a b c d. a ⊗ c ⊕ b ⊗ d ≔ ⊝ (a ⊗ ⊝ c ⊕ b ⊗ ⊝ d)) tt

-- a weighted mean of zero: the two are not both above, nor both below
mixed : (a b : ℕ) → 0 < a + b → (x y : ℤ) → pos a *ℤ x +ℤ pos b *ℤ y ≡ pos 0 → same_sign x y ≡ false
unfolding same_sign
mixed a b h (pos zero) y e = refl
mixed a b h (pos (suc m)) (pos zero) e = rw (lt-ltb 0 (suc m) (omega arith), le-ltb (suc m) 0 (omega arith))
mixed a b h (pos (suc m)) (pos (suc n)) e = absurd (omega (arith, no_weight a b m n e))
mixed a b h (pos (suc m)) (negsuc n) e = rw (lt-ltb 0 (suc m) (omega arith), le-ltb (suc m) 0 (omega arith))
mixed a b h (negsuc m) (pos zero) e = refl
mixed a b h (negsuc m) (pos (suc n)) e = rw (le-ltb (suc n) 0 (omega arith))
mixed a b h (negsuc m) (negsuc n) e = absurd (omega (arith, no_weight_below a b m n e))

-- ---- sides

-- f's ends, weighted, are on e's line
on_line : (e f : Segment) (m : Meet e f) → pos m.t' *ℤ side e.0 e.1 f.0 +ℤ pos m.t *ℤ side e.0 e.1 f.1 ≡ pos 0
unfolding side
on_line e f m =
    spread e.0.u e.0.v e.1.u e.1.v f.0.u f.0.v f.1.u f.1.v (pos m.t') (pos m.t)
    ∙ (λ i. lever e.0.u e.0.v e.1.u e.1.v (sym m.on_u i) (sym m.on-v i) (weights i))
    ∙ gone e.0.u e.0.v e.1.u e.1.v (pos m.s') (pos m.s)
  where
    weights : pos m.t' +ℤ pos m.t ≡ pos m.s' +ℤ pos m.s
    weights = ap pos (sym m.whole)

    lever : ℤ → ℤ → ℤ → ℤ → ℤ → ℤ → ℤ → ℤ
    lever a b c d p q w = (c -ℤ a) *ℤ (q -ℤ w *ℤ b) -ℤ (d -ℤ b) *ℤ (p -ℤ w *ℤ a)

    spread : (a b c d p q r s t' t : ℤ) →
        t' *ℤ ((c -ℤ a) *ℤ (q -ℤ b) -ℤ (d -ℤ b) *ℤ (p -ℤ a)) +ℤ t *ℤ ((c -ℤ a) *ℤ (s -ℤ b) -ℤ (d -ℤ b) *ℤ (r -ℤ a))
        ≡ (c -ℤ a) *ℤ ((t' *ℤ q +ℤ t *ℤ s) -ℤ (t' +ℤ t) *ℤ b) -ℤ (d -ℤ b) *ℤ ((t' *ℤ p +ℤ t *ℤ r) -ℤ (t' +ℤ t) *ℤ a)
    spread = ring 10 (λ a b c d p q r s t' t.
        t' ⊗ ((c ⊖ a) ⊗ (q ⊖ b) ⊖ (d ⊖ b) ⊗ (p ⊖ a)) ⊕ t ⊗ ((c ⊖ a) ⊗ (s ⊖ b) ⊖ (d ⊖ b) ⊗ (r ⊖ a))
        ≔ (c ⊖ a) ⊗ ((t' ⊗ q ⊕ t ⊗ s) ⊖ (t' ⊕ t) ⊗ b) ⊖ (d ⊖ b) ⊗ ((t' ⊗ p ⊕ t ⊗ r) ⊖ (t' ⊕ t) ⊗ a)) tt

    gone : (a b c d s' s : ℤ) → (c -ℤ a) *ℤ ((s' *ℤ b +ℤ s *ℤ d) -ℤ (s' +ℤ s) *ℤ b) -ℤ (d -ℤ b) *ℤ ((s' *ℤ a +ℤ s *ℤ c) -ℤ (s' +ℤ s) *ℤ a) ≡ pos 0
    gone = ring 6 (λ a b c d s' s. (c ⊖ a) ⊗ ((s' ⊗ b ⊕ s ⊗ d) ⊖ (s' ⊕ s) ⊗ b) ⊖ (d ⊖ b) ⊗ ((s' ⊗ a ⊕ s ⊗ c) ⊖ (s' ⊕ s) ⊗ a) ≔ k (pos 0)) tt

-- the same point, seen from the other segment
pub turned : (e f : Segment) → Meet e f → Meet f e
turned e f m =
    record {
      s = m.t;
      s' = m.t';
      t = m.s;
      t' = m.s';
      some = subst (λ (n : ℕ). 0 < n) m.whole m.some;
      whole = sym m.whole;
      on_u = sym m.on_u;
      on-v = sym m.on-v;
    }

sides_mixed : (e f : Segment) → Meet e f → same_sign (side e.0 e.1 f.0) (side e.0 e.1 f.1) ≡ false
sides_mixed e f m = mixed m.t' m.t (subst (λ (n : ℕ). 0 < n) m.whole m.some) _ _ (on_line e f m)

-- ---- stretches

-- what is below differs by what is above zero
pub differs : (a c : ℤ) → lt_z a c ≡ true → (n : ℕ) × (c -ℤ a ≡ pos (suc n))
differs a c e =
    let h : P a + N c < P c + N a = lt_of (a ∷ c ∷ []) (v 0) (v 1) (lt_z_yes (subst T (sym e) tt)) in
    (P c + N a - suc (P a + N c), eq_by (a ∷ c ∷ []) (v 1 ⊖ v 0) (k (pos (suc (P c + N a - suc (P a + N c))))) (omega arith))

no_product : (a b : ℕ) → a * b ≡ 0 → 0 < a → 0 < b → ⊥
no_product a zero e h g = omega arith
no_product a (suc b) e h g = omega (arith, mul-suc a b)

no_products : (w' w q' q : ℕ) → 0 < w' + w → 0 < q' + q → w' * q' ≡ 0 → w' * q ≡ 0 → w * q' ≡ 0 → w * q ≡ 0 → ⊥
no_products zero w zero q h g a b c d = no_product w q d (omega arith) (omega arith)
no_products zero w (suc q') q h g a b c d = no_product w (suc q') c (omega arith) (omega arith)
no_products (suc w') w zero q h g a b c d = no_product (suc w') q b (omega arith) (omega arith)
no_products (suc w') w (suc q') q h g a b c d = no_product (suc w') (suc q') a (omega arith) (omega arith)

zeros : (A B C D m₁ m₂ m₃ m₄ : ℕ) → A * suc m₁ + B * suc m₂ + C * suc m₃ + D * suc m₄ ≡ 0 → (A ≡ 0) × (B ≡ 0) × (C ≡ 0) × (D ≡ 0)
zeros A B C D m₁ m₂ m₃ m₄ s =
    let a : A * suc m₁ ≡ A * m₁ + A = mul-suc A m₁ in
    let b : B * suc m₂ ≡ B * m₂ + B = mul-suc B m₂ in
    let c : C * suc m₃ ≡ C * m₃ + C = mul-suc C m₃ in
    let d : D * suc m₄ ≡ D * m₄ + D = mul-suc D m₄ in
    (omega arith, omega arith, omega arith, omega arith)

module _ (a b c d : ℤ) (w' w q' q : ℕ) (h : 0 < w' + w) (same : w' + w ≡ q' + q) (e : pos w' *ℤ a +ℤ pos w *ℤ b ≡ pos q' *ℤ c +ℤ pos q *ℤ d) where
  pairs : (a b c d w' w q' q : ℤ) → w' *ℤ q' *ℤ (c -ℤ a) +ℤ w' *ℤ q *ℤ (d -ℤ a) +ℤ w *ℤ q' *ℤ (c -ℤ b) +ℤ w *ℤ q *ℤ (d -ℤ b)
      ≡ (w' +ℤ w) *ℤ (q' *ℤ c +ℤ q *ℤ d) -ℤ (q' +ℤ q) *ℤ (w' *ℤ a +ℤ w *ℤ b)
  pairs = ring 8 (λ a b c d w' w q' q. w' ⊗ q' ⊗ (c ⊖ a) ⊕ w' ⊗ q ⊗ (d ⊖ a) ⊕ w ⊗ q' ⊗ (c ⊖ b) ⊕ w ⊗ q ⊗ (d ⊖ b) ≔ (w' ⊕ w) ⊗ (q' ⊗ c ⊕ q ⊗ d) ⊖ (q' ⊕ q) ⊗ (w' ⊗ a ⊕ w ⊗ b)) tt

  none_left : (x y : ℤ) → x *ℤ y -ℤ x *ℤ y ≡ pos 0
  none_left = ring 2 (λ x y. x ⊗ y ⊖ x ⊗ y ≔ k (pos 0)) tt

  balanced : pos w' *ℤ pos q' *ℤ (c -ℤ a) +ℤ pos w' *ℤ pos q *ℤ (d -ℤ a) +ℤ pos w *ℤ pos q' *ℤ (c -ℤ b) +ℤ pos w *ℤ pos q *ℤ (d -ℤ b) ≡ pos 0
  balanced =
      pairs a b c d (pos w') (pos w) (pos q') (pos q)
      ∙ (λ i. pos (same i) *ℤ (pos q' *ℤ c +ℤ pos q *ℤ d) -ℤ (pos q' +ℤ pos q) *ℤ e i)
      ∙ none_left (pos (q' + q)) (pos q' *ℤ c +ℤ pos q *ℤ d)

  not-under : under a b c d ≡ false
  unfolding under
  not-under = go (under a b c d) refl
    where
      go : (t : Bool) → under a b c d ≡ t → t ≡ false
      go false z = refl
      go true z =
          let z₁ = and_left (lt_z a c && lt_z a d && lt_z b c) (lt_z b d) z in
          let z₂ = and_left (lt_z a c && lt_z a d) (lt_z b c) z₁ in
          let m₁ = differs a c (and_left (lt_z a c) (lt_z a d) z₂) in
          let m₂ = differs a d (and_right (lt_z a c) (lt_z a d) z₂) in
          let m₃ = differs b c (and_right (lt_z a c && lt_z a d) (lt_z b c) z₁) in
          let m₄ = differs b d (and_right (lt_z a c && lt_z a d && lt_z b c) (lt_z b d) z) in
          let s : w' * q' * suc m₁.0 + w' * q * suc m₂.0 + w * q' * suc m₃.0 + w * q * suc m₄.0 ≡ 0 =
          pos_is _ 0 ((λ i. pos w' *ℤ pos q' *ℤ sym m₁.1 i +ℤ pos w' *ℤ pos q *ℤ sym m₂.1 i +ℤ pos w *ℤ pos q' *ℤ sym m₃.1 i +ℤ pos w *ℤ pos q *ℤ sym m₄.1 i) ∙ balanced) in
          let n = zeros (w' * q') (w' * q) (w * q') (w * q) m₁.0 m₂.0 m₃.0 m₄.0 s in
          absurd (no_products w' w q' q h (subst (λ (n : ℕ). 0 < n) same h) n.0 n.1 n.2 n.3)

-- the stretches of two segments that meet overlap on either axis
stretches : (a b c d : ℤ) (w' w q' q : ℕ) → 0 < w' + w → w' + w ≡ q' + q → pos w' *ℤ a +ℤ pos w *ℤ b ≡ pos q' *ℤ c +ℤ pos q *ℤ d → overlap a b c d ≡ true
unfolding overlap
stretches a b c d w' w q' q h same e =
    let p : under a b c d ≡ false = not-under a b c d w' w q' q h same e in
    let r : under c d a b ≡ false = not-under c d a b q' q w' w (subst (λ (n : ℕ). 0 < n) same h) (sym same) (sym e) in
    rw (p, r)

-- two segments with a point in common are found to share one
pub meet-share : (e f : Segment) → Meet e f → share e f ≡ true
unfolding share
meet-share e f m =
    let p : overlap e.0.u e.1.u f.0.u f.1.u ≡ true = stretches _ _ _ _ m.s' m.s m.t' m.t m.some m.whole m.on_u in
    let q : overlap e.0.v e.1.v f.0.v f.1.v ≡ true = stretches _ _ _ _ m.s' m.s m.t' m.t m.some m.whole m.on-v in
    rw (p, q, sides_mixed e f m, sides_mixed f e (turned e f m))
