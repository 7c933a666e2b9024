-- Four sides of two segments, by their heights: where the one segment does not cut the other, the signs of the sides go together.
use Rattle.std.specs.Prelude.{◌≡◌, ◌⊎◌, ℤ, pos, neg_ℤ, ◌+ℤ◌, ◌-ℤ◌, ◌*ℤ◌, ◌≤ℤ◌, ◌<ℤ◌}
use Rattle.std.proofs.Common.{arith, sym, ap, ◌∙◌, inl, inr}
use Rattle.whole.specs.laws.Solve.{k, ◌⊕◌, ◌⊖◌, ◌⊗◌, ⊝◌, ring, ◌≔◌}
use Rattle.whole.specs.laws.Linear.{◌≼◌, ◌≺◌, ◌≈◌, never, ◌⇒◌, lin}
use Rattle.whole.specs.laws.Tests.{three_ways, lt_le, mul_nonneg, mul_pos-pos}
use Rattle.plane.specs.Plane.{Spot, side}

-- ---- ℤ
pub le_or_lt : (a b : ℤ) → (a ≤ℤ b) ⊎ (b <ℤ a)
le_or_lt a b = go (three_ways a b)
  where
    go : (a <ℤ b) ⊎ ((a ≡ b) ⊎ (b <ℤ a)) → (a ≤ℤ b) ⊎ (b <ℤ a)
    go (inl h) = inl (lt_le h)
    go (inr (inl e)) = inl (lin 2 (λ a b. a ≈ b ⇒ a ≼ b) (omega arith) a b e)
    go (inr (inr h)) = inr h

-- x times what is above 0 is the sum of two that are not below 0
module _ (x c p q : ℤ) (h : pos 0 ≤ℤ p) (l : pos 0 ≤ℤ q) where
  not_below : pos 0 <ℤ c → x *ℤ c ≡ p +ℤ q → pos 0 ≤ℤ x
  not_below g e = go (le_or_lt (pos 0) x)
    where
      clash : (y z p q : ℤ) → pos 0 ≤ℤ p → pos 0 ≤ℤ q → y ≡ p +ℤ q → z ≡ neg_ℤ y → pos 0 <ℤ z → ⊥
      clash = lin 4 (λ y z p q. k (pos 0) ≼ p ⇒ k (pos 0) ≼ q ⇒ y ≈ p ⊕ q ⇒ z ≈ ⊝ y ⇒ k (pos 0) ≺ z ⇒ never) (omega arith)

      go : (pos 0 ≤ℤ x) ⊎ (x <ℤ pos 0) → pos 0 ≤ℤ x
      go (inl r) = r
      go (inr r) =
          absurd
          (clash (x *ℤ c) (neg_ℤ x *ℤ c) p q h l e (ring 2 (λ x c. ⊝ x ⊗ c ≔ ⊝ (x ⊗ c)) tt x c)
          (mul_pos-pos (lin 1 (λ x. x ≺ k (pos 0) ⇒ k (pos 0) ≺ ⊝ x) (omega arith) x r) g))

  not-above : pos 0 <ℤ c → x *ℤ c ≡ neg_ℤ (p +ℤ q) → x ≤ℤ pos 0
  not-above g e = go (le_or_lt x (pos 0))
    where
      clash : (y p q : ℤ) → pos 0 ≤ℤ p → pos 0 ≤ℤ q → y ≡ neg_ℤ (p +ℤ q) → pos 0 <ℤ y → ⊥
      clash = lin 3 (λ y p q. k (pos 0) ≼ p ⇒ k (pos 0) ≼ q ⇒ y ≈ ⊝ (p ⊕ q) ⇒ k (pos 0) ≺ y ⇒ never) (omega arith)

      go : (x ≤ℤ pos 0) ⊎ (pos 0 <ℤ x) → x ≤ℤ pos 0
      go (inl r) = r
      go (inr r) = absurd (clash (x *ℤ c) p q h l e (mul_pos-pos r g))

-- and where it is times what is not below 0, and the sum is above 0
below : (x c y : ℤ) → pos 0 ≤ℤ c → x *ℤ c ≡ neg_ℤ y → pos 0 <ℤ y → x <ℤ pos 0
below x c y g e h = go (le_or_lt (pos 0) x)
  where
    clash : (z y : ℤ) → pos 0 ≤ℤ z → z ≡ neg_ℤ y → pos 0 <ℤ y → ⊥
    clash = lin 2 (λ z y. k (pos 0) ≼ z ⇒ z ≈ ⊝ y ⇒ k (pos 0) ≺ y ⇒ never) (omega arith)

    go : (pos 0 ≤ℤ x) ⊎ (x <ℤ pos 0) → x <ℤ pos 0
    go (inl r) = absurd (clash (x *ℤ c) y (mul_nonneg r g) e h)
    go (inr r) = r

neg_nonneg : (x : ℤ) → x ≤ℤ pos 0 → pos 0 ≤ℤ neg_ℤ x
neg_nonneg = lin 1 (λ x. x ≼ k (pos 0) ⇒ k (pos 0) ≼ ⊝ x) (omega arith)

pub gap : (a b : ℤ) → a ≤ℤ b → pos 0 ≤ℤ (b -ℤ a)
gap = lin 2 (λ a b. a ≼ b ⇒ k (pos 0) ≼ b ⊖ a) (omega arith)

pub gap_lt : (a b : ℤ) → a <ℤ b → pos 0 <ℤ (b -ℤ a)
gap_lt = lin 2 (λ a b. a ≺ b ⇒ k (pos 0) ≺ b ⊖ a) (omega arith)

-- ---- the sides of the segment at heights a to b and of the one at heights p to q
pub record Sides (a b p q α β γ δ : ℤ) : Type 0 where
  low : γ *ℤ (b -ℤ a) ≡ β *ℤ (p -ℤ a) -ℤ α *ℤ (q -ℤ a)
  high : δ *ℤ (b -ℤ a) ≡ β *ℤ (p -ℤ b) -ℤ α *ℤ (q -ℤ b)
  from : α *ℤ (q -ℤ p) ≡ δ *ℤ (a -ℤ p) -ℤ γ *ℤ (b -ℤ p)
  to : β *ℤ (q -ℤ p) ≡ δ *ℤ (a -ℤ q) -ℤ γ *ℤ (b -ℤ q)

module _ (a b p q : Spot) where
  private_sides : (au av bu bv pu pv qu qv : ℤ) → Sides av bv pv qv ((bu -ℤ au) *ℤ (pv -ℤ av) -ℤ (bv -ℤ av) *ℤ (pu -ℤ au)) ((bu -ℤ au) *ℤ (qv -ℤ av) -ℤ (bv -ℤ av) *ℤ (qu -ℤ au)) ((qu -ℤ pu) *ℤ (av -ℤ pv) -ℤ (qv -ℤ pv) *ℤ (au -ℤ pu)) ((qu -ℤ pu) *ℤ (bv -ℤ pv) -ℤ (qv -ℤ pv) *ℤ (bu -ℤ pu))
  private_sides au av bu bv pu pv qu qv = record {
    low = ring 8 (λ au av bu bv pu pv qu qv. ((qu ⊖ pu) ⊗ (av ⊖ pv) ⊖ (qv ⊖ pv) ⊗ (au ⊖ pu)) ⊗ (bv ⊖ av) ≔ ((bu ⊖ au) ⊗ (qv ⊖ av) ⊖ (bv ⊖ av) ⊗ (qu ⊖ au)) ⊗ (pv ⊖ av) ⊖ ((bu ⊖ au) ⊗ (pv ⊖ av) ⊖ (bv ⊖ av) ⊗ (pu ⊖ au)) ⊗ (qv ⊖ av)) tt au av bu bv pu pv qu qv;
    high = ring 8 (λ au av bu bv pu pv qu qv. ((qu ⊖ pu) ⊗ (bv ⊖ pv) ⊖ (qv ⊖ pv) ⊗ (bu ⊖ pu)) ⊗ (bv ⊖ av) ≔ ((bu ⊖ au) ⊗ (qv ⊖ av) ⊖ (bv ⊖ av) ⊗ (qu ⊖ au)) ⊗ (pv ⊖ bv) ⊖ ((bu ⊖ au) ⊗ (pv ⊖ av) ⊖ (bv ⊖ av) ⊗ (pu ⊖ au)) ⊗ (qv ⊖ bv)) tt au av bu bv pu pv qu qv;
    from = ring 8 (λ au av bu bv pu pv qu qv. ((bu ⊖ au) ⊗ (pv ⊖ av) ⊖ (bv ⊖ av) ⊗ (pu ⊖ au)) ⊗ (qv ⊖ pv) ≔ ((qu ⊖ pu) ⊗ (bv ⊖ pv) ⊖ (qv ⊖ pv) ⊗ (bu ⊖ pu)) ⊗ (av ⊖ pv) ⊖ ((qu ⊖ pu) ⊗ (av ⊖ pv) ⊖ (qv ⊖ pv) ⊗ (au ⊖ pu)) ⊗ (bv ⊖ pv)) tt au av bu bv pu pv qu qv;
    to = ring 8 (λ au av bu bv pu pv qu qv. ((bu ⊖ au) ⊗ (qv ⊖ av) ⊖ (bv ⊖ av) ⊗ (qu ⊖ au)) ⊗ (qv ⊖ pv) ≔ ((qu ⊖ pu) ⊗ (bv ⊖ pv) ⊖ (qv ⊖ pv) ⊗ (bu ⊖ pu)) ⊗ (av ⊖ qv) ⊖ ((qu ⊖ pu) ⊗ (av ⊖ pv) ⊖ (qv ⊖ pv) ⊗ (au ⊖ pu)) ⊗ (bv ⊖ qv)) tt au av bu bv pu pv qu qv;
  }

  pub sides-of : Sides a.v b.v p.v q.v (side a b p) (side a b q) (side p q a) (side p q b)
  unfolding side
  sides-of = private_sides a.u a.v b.u b.v p.u p.v q.u q.v

-- with all signs changed
pub sides_neg : {a b p q α β γ δ : ℤ} → Sides a b p q α β γ δ → Sides a b p q (neg_ℤ α) (neg_ℤ β) (neg_ℤ γ) (neg_ℤ δ)
sides_neg {a} {b} {p} {q} {α} {β} {γ} {δ} s = record { low = go γ β α (b -ℤ a) (p -ℤ a) (q -ℤ a) s.low; high = go δ β α (b -ℤ a) (p -ℤ b) (q -ℤ b) s.high; from = go α δ γ (q -ℤ p) (a -ℤ p) (b -ℤ p) s.from; to = go β δ γ (q -ℤ p) (a -ℤ q) (b -ℤ q) s.to }
  where
    go : (x y z c d e : ℤ) → x *ℤ c ≡ y *ℤ d -ℤ z *ℤ e → neg_ℤ x *ℤ c ≡ neg_ℤ y *ℤ d -ℤ neg_ℤ z *ℤ e
    go x y z c d e h = ring 2 (λ x c. ⊝ x ⊗ c ≔ ⊝ (x ⊗ c)) tt x c ∙ ap neg_ℤ h ∙ ring 4 (λ y z d e. ⊝ (y ⊗ d ⊖ z ⊗ e) ≔ ⊝ y ⊗ d ⊖ ⊝ z ⊗ e) tt y z d e

-- ---- signs, one from two others
module _ {a b p q α β γ δ : ℤ} (s : Sides a b p q α β γ δ) where
  -- p and q between a and b
  across : a <ℤ b → a ≤ℤ p → a ≤ℤ q → p ≤ℤ b → q ≤ℤ b → pos 0 ≤ℤ α → β ≤ℤ pos 0 → (γ ≤ℤ pos 0) × (pos 0 ≤ℤ δ)
  across h al aq pb qb x y = (
    not-above γ (b -ℤ a) (neg_ℤ β *ℤ (p -ℤ a)) (α *ℤ (q -ℤ a)) (mul_nonneg (neg_nonneg β y) (gap a p al)) (mul_nonneg x (gap a q aq)) (gap_lt a b h) (s.low ∙ ring 5 (λ α β a p q. β ⊗ (p ⊖ a) ⊖ α ⊗ (q ⊖ a) ≔ ⊝ (⊝ β ⊗ (p ⊖ a) ⊕ α ⊗ (q ⊖ a))) tt α β a p q),
    not_below δ (b -ℤ a) (neg_ℤ β *ℤ (b -ℤ p)) (α *ℤ (b -ℤ q)) (mul_nonneg (neg_nonneg β y) (gap p b pb)) (mul_nonneg x (gap q b qb)) (gap_lt a b h) (s.high ∙ ring 5 (λ α β b p q. β ⊗ (p ⊖ b) ⊖ α ⊗ (q ⊖ b) ≔ ⊝ β ⊗ (b ⊖ p) ⊕ α ⊗ (b ⊖ q)) tt α β b p q),
  )

  -- a at or below p, b above p and at or below q
  rising : a ≤ℤ p → p <ℤ b → b ≤ℤ q → pos 0 ≤ℤ α → pos 0 ≤ℤ δ → (β ≤ℤ pos 0) × (γ ≤ℤ pos 0)
  rising al pb bq x y =
      let ab : a <ℤ b = lin 3 (λ a p b. a ≼ p ⇒ p ≺ b ⇒ a ≺ b) (omega arith) a p b al pb in
      let aq : a ≤ℤ q = lin 3 (λ a b q. a ≺ b ⇒ b ≼ q ⇒ a ≼ q) (omega arith) a b q ab bq in
      let y₁ : β ≤ℤ pos 0 =
      not-above β (b -ℤ p) (δ *ℤ (b -ℤ a)) (α *ℤ (q -ℤ b)) (mul_nonneg y (gap a b (lt_le ab))) (mul_nonneg x (gap b q bq)) (gap_lt p b pb)
      (ring 5 (λ α β b p q. β ⊗ (b ⊖ p) ≔ ⊝ ((β ⊗ (p ⊖ b) ⊖ α ⊗ (q ⊖ b)) ⊕ α ⊗ (q ⊖ b))) tt α β b p q ∙ ap (λ (z : ℤ). neg_ℤ (z +ℤ α *ℤ (q -ℤ b))) (sym s.high)) in
      (y₁, not-above γ (b -ℤ a) (neg_ℤ β *ℤ (p -ℤ a)) (α *ℤ (q -ℤ a)) (mul_nonneg (neg_nonneg β y₁) (gap a p al)) (mul_nonneg x (gap a q aq)) (gap_lt a b ab) (s.low ∙ ring 5 (λ α β a p q. β ⊗ (p ⊖ a) ⊖ α ⊗ (q ⊖ a) ≔ ⊝ (⊝ β ⊗ (p ⊖ a) ⊕ α ⊗ (q ⊖ a))) tt α β a p q))

  -- a above p and at or below q, b above q
  leaving : p <ℤ a → a ≤ℤ q → q <ℤ b → pos 0 ≤ℤ β → pos 0 ≤ℤ γ → (pos 0 <ℤ β) ⊎ (pos 0 <ℤ γ) → (α <ℤ pos 0) × (δ ≤ℤ pos 0)
  leaving pa aq qb x y w =
      let ab : a <ℤ b = lin 3 (λ a q b. a ≼ q ⇒ q ≺ b ⇒ a ≺ b) (omega arith) a q b aq qb in
      let pb : p ≤ℤ b = lin 3 (λ p a b. p ≺ a ⇒ a ≺ b ⇒ p ≼ b) (omega arith) p a b pa ab in
      let x₁ : α <ℤ pos 0 =
      below α (q -ℤ a) (β *ℤ (a -ℤ p) +ℤ γ *ℤ (b -ℤ a)) (gap a q aq)
      (ring 5 (λ α β a p q. α ⊗ (q ⊖ a) ≔ ⊝ (β ⊗ (a ⊖ p) ⊕ (β ⊗ (p ⊖ a) ⊖ α ⊗ (q ⊖ a)))) tt α β a p q ∙ ap (λ (z : ℤ). neg_ℤ (β *ℤ (a -ℤ p) +ℤ z)) (sym s.low))
      (above w) in
      (x₁, not-above δ (b -ℤ a) (β *ℤ (b -ℤ p)) (neg_ℤ α *ℤ (b -ℤ q)) (mul_nonneg x (gap p b pb)) (mul_nonneg (neg_nonneg α (lt_le x₁)) (gap q b (lt_le qb))) (gap_lt a b ab) (s.high ∙ ring 5 (λ α β b p q. β ⊗ (p ⊖ b) ⊖ α ⊗ (q ⊖ b) ≔ ⊝ (β ⊗ (b ⊖ p) ⊕ ⊝ α ⊗ (b ⊖ q))) tt α β b p q))
    where
      first : (x y : ℤ) → pos 0 <ℤ x → pos 0 ≤ℤ y → pos 0 <ℤ (x +ℤ y)
      first = lin 2 (λ x y. k (pos 0) ≺ x ⇒ k (pos 0) ≼ y ⇒ k (pos 0) ≺ x ⊕ y) (omega arith)

      second : (x y : ℤ) → pos 0 ≤ℤ x → pos 0 <ℤ y → pos 0 <ℤ (x +ℤ y)
      second = lin 2 (λ x y. k (pos 0) ≼ x ⇒ k (pos 0) ≺ y ⇒ k (pos 0) ≺ x ⊕ y) (omega arith)

      up : a <ℤ b
      up = lin 3 (λ a q b. a ≼ q ⇒ q ≺ b ⇒ a ≺ b) (omega arith) a q b aq qb

      above : (pos 0 <ℤ β) ⊎ (pos 0 <ℤ γ) → pos 0 <ℤ (β *ℤ (a -ℤ p) +ℤ γ *ℤ (b -ℤ a))
      above (inl h) = first (β *ℤ (a -ℤ p)) (γ *ℤ (b -ℤ a)) (mul_pos-pos h (gap_lt p a pa)) (mul_nonneg y (gap a b (lt_le up)))
      above (inr h) = second (β *ℤ (a -ℤ p)) (γ *ℤ (b -ℤ a)) (mul_nonneg x (gap p a (lt_le pa))) (mul_pos-pos h (gap_lt a b up))

  -- a and b between p and q
  within : p <ℤ q → p ≤ℤ a → p ≤ℤ b → a ≤ℤ q → b ≤ℤ q → γ ≤ℤ pos 0 → pos 0 ≤ℤ δ → (pos 0 ≤ℤ α) × (β ≤ℤ pos 0)
  within h pa pb aq bq x y = (
    not_below α (q -ℤ p) (δ *ℤ (a -ℤ p)) (neg_ℤ γ *ℤ (b -ℤ p)) (mul_nonneg y (gap p a pa)) (mul_nonneg (neg_nonneg γ x) (gap p b pb)) (gap_lt p q h) (s.from ∙ ring 5 (λ γ δ a b p. δ ⊗ (a ⊖ p) ⊖ γ ⊗ (b ⊖ p) ≔ δ ⊗ (a ⊖ p) ⊕ ⊝ γ ⊗ (b ⊖ p)) tt γ δ a b p),
    not-above β (q -ℤ p) (δ *ℤ (q -ℤ a)) (neg_ℤ γ *ℤ (q -ℤ b)) (mul_nonneg y (gap a q aq)) (mul_nonneg (neg_nonneg γ x) (gap b q bq)) (gap_lt p q h) (s.to ∙ ring 5 (λ γ δ a b q. δ ⊗ (a ⊖ q) ⊖ γ ⊗ (b ⊖ q) ≔ ⊝ (δ ⊗ (q ⊖ a) ⊕ ⊝ γ ⊗ (q ⊖ b))) tt γ δ a b q),
  )

-- ---- the one cuts the other: neither lies on one side of the other's line, and they are not on one line
pub record Cut (α β γ δ : ℤ) : Type 0 where
  pub mixed_e : ((α ≤ℤ pos 0) × (pos 0 ≤ℤ β)) ⊎ ((pos 0 ≤ℤ α) × (β ≤ℤ pos 0))
  pub mixed_f : ((γ ≤ℤ pos 0) × (pos 0 ≤ℤ δ)) ⊎ ((pos 0 ≤ℤ γ) × (δ ≤ℤ pos 0))
  pub some : ((α ≡ pos 0) × (β ≡ pos 0) → ⊥) ⊎ ((γ ≡ pos 0) × (δ ≡ pos 0) → ⊥)

above-not : {x : ℤ} → pos 0 <ℤ x → x ≡ pos 0 → ⊥
above-not {x} = lin 1 (λ x. k (pos 0) ≺ x ⇒ x ≈ k (pos 0) ⇒ never) (omega arith) x

below_not : {x : ℤ} → x <ℤ pos 0 → x ≡ pos 0 → ⊥
below_not {x} = lin 1 (λ x. x ≺ k (pos 0) ⇒ x ≈ k (pos 0) ⇒ never) (omega arith) x

plus : (x : ℤ) → pos 0 ≤ℤ neg_ℤ x → x ≤ℤ pos 0
plus = lin 1 (λ x. k (pos 0) ≼ ⊝ x ⇒ x ≼ k (pos 0)) (omega arith)

minus : (x : ℤ) → neg_ℤ x ≤ℤ pos 0 → pos 0 ≤ℤ x
minus = lin 1 (λ x. ⊝ x ≼ k (pos 0) ⇒ k (pos 0) ≼ x) (omega arith)

neg_le : (x : ℤ) → pos 0 ≤ℤ x → neg_ℤ x ≤ℤ pos 0
neg_le = lin 1 (λ x. k (pos 0) ≼ x ⇒ ⊝ x ≼ k (pos 0)) (omega arith)

pub neg_lt : (x : ℤ) → x <ℤ pos 0 → pos 0 <ℤ neg_ℤ x
neg_lt = lin 1 (λ x. x ≺ k (pos 0) ⇒ k (pos 0) ≺ ⊝ x) (omega arith)

pub nonneg : {x : ℤ} → pos 0 <ℤ x → pos 0 ≤ℤ x
nonneg h = lt_le h

neg_above : (x : ℤ) → neg_ℤ x <ℤ pos 0 → pos 0 <ℤ x
neg_above = lin 1 (λ x. ⊝ x ≺ k (pos 0) ⇒ k (pos 0) ≺ x) (omega arith)

module _ {a b p q α β γ δ : ℤ} (s : Sides a b p q α β γ δ) (apart : Cut α β γ δ → ⊥) where
  otherwise : {x y : ℤ} → (x ≤ℤ y) ⊎ (y <ℤ x) → (x ≤ℤ y → ⊥) → y <ℤ x
  otherwise (inl h) f = absurd (f h)
  otherwise (inr h) f = h

  pub across_to : a <ℤ b → a ≤ℤ p → a ≤ℤ q → p ≤ℤ b → q ≤ℤ b → pos 0 <ℤ α → pos 0 <ℤ β
  across_to h al aq pb qb x = otherwise (le_or_lt β (pos 0)) (λ y. let r = across s h al aq pb qb (lt_le x) y in apart (record { mixed_e = inr (lt_le x, y); mixed_f = inl r; some = inl (λ e. above-not x e.0) }))

  pub across-back : a <ℤ b → a ≤ℤ p → a ≤ℤ q → p ≤ℤ b → q ≤ℤ b → pos 0 <ℤ β → pos 0 <ℤ α
  across-back h al aq pb qb y = otherwise (le_or_lt α (pos 0)) (λ x. let r = across (sides_neg s) h al aq pb qb (neg_nonneg α x) (neg_le β (lt_le y)) in apart (record { mixed_e = inl (x, lt_le y); mixed_f = inr (minus γ r.0, plus δ r.1); some = inl (λ e. above-not y e.1) }))

  pub rising_to : a ≤ℤ p → p <ℤ b → b ≤ℤ q → pos 0 <ℤ α → δ <ℤ pos 0
  rising_to al pb bq x = otherwise (le_or_lt (pos 0) δ) (λ y. let r = rising s al pb bq (lt_le x) y in apart (record { mixed_e = inr (lt_le x, r.0); mixed_f = inl (r.1, y); some = inl (λ e. above-not x e.0) }))

  pub rising_back : a ≤ℤ p → p <ℤ b → b ≤ℤ q → δ <ℤ pos 0 → pos 0 <ℤ α
  rising_back al pb bq y = otherwise (le_or_lt α (pos 0)) (λ x. let r = rising (sides_neg s) al pb bq (neg_nonneg α x) (lt_le (neg_lt δ y)) in apart (record { mixed_e = inl (x, minus β r.0); mixed_f = inr (minus γ r.1, lt_le y); some = inr (λ e. below_not y e.1) }))

  pub leaving_to : p <ℤ a → a ≤ℤ q → q <ℤ b → pos 0 <ℤ β → γ <ℤ pos 0
  leaving_to pa aq qb x = otherwise (le_or_lt (pos 0) γ) (λ y. let r = leaving s pa aq qb (lt_le x) y (inl x) in apart (record { mixed_e = inl (lt_le r.0, lt_le x); mixed_f = inr (y, r.1); some = inl (λ e. above-not x e.1) }))

  pub leaving_back : p <ℤ a → a ≤ℤ q → q <ℤ b → γ <ℤ pos 0 → pos 0 <ℤ β
  leaving_back pa aq qb y = otherwise (le_or_lt β (pos 0)) (λ x. let r = leaving (sides_neg s) pa aq qb (neg_nonneg β x) (lt_le (neg_lt γ y)) (inr (neg_lt γ y)) in apart (record { mixed_e = inr (lt_le (neg_above α r.0), x); mixed_f = inl (lt_le y, minus δ r.1); some = inr (λ e. below_not y e.0) }))

  pub within_to : p <ℤ q → p ≤ℤ a → p ≤ℤ b → a ≤ℤ q → b ≤ℤ q → γ <ℤ pos 0 → δ <ℤ pos 0
  within_to h pa pb aq bq x = otherwise (le_or_lt (pos 0) δ) (λ y. let r = within s h pa pb aq bq (lt_le x) y in apart (record { mixed_e = inr r; mixed_f = inl (lt_le x, y); some = inr (λ e. below_not x e.0) }))

  pub within_back : p <ℤ q → p ≤ℤ a → p ≤ℤ b → a ≤ℤ q → b ≤ℤ q → δ <ℤ pos 0 → γ <ℤ pos 0
  within_back h pa pb aq bq y = otherwise (le_or_lt (pos 0) γ) (λ x. let r = within (sides_neg s) h pa pb aq bq (neg_le γ x) (lt_le (neg_lt δ y)) in apart (record { mixed_e = inl (plus α r.0, minus β r.1); mixed_f = inr (x, lt_le y); some = inr (λ e. below_not y e.1) }))
