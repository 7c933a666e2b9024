-- Which way the ray goes does not matter: from a place to any place outside, a way through no corner crosses a closed ring an odd number
-- of times exactly when the place is inside.
use Rattle.std.proofs.Common.{arith, ◌∙◌, inl, inr}
use Rattle.std.specs.Prelude.{◌≡◌, Bool, ◌⊎◌, ℤ, neg_ℤ, ◌+ℤ◌, ◌-ℤ◌, ◌*ℤ◌, ◌≤ℤ◌, ◌<ℤ◌}
use Rattle.std.proofs.Math.Path.{refl, sym, ap, ap₂}
use Rattle.std.proofs.Math.Bool.{true, false, not}
use mathlib.Core.List.{List, [], ◌∷◌}
use Rattle.std.proofs.Math.IntN.{pos}
use Rattle.std.specs.Int.Signed.{le_z}
use Rattle.whole.specs.Lists.{tally, steps, steps_from, last_of}
use Rattle.whole.specs.All.{All, none, more}
use Rattle.whole.specs.laws.Alls.{all_imp}
use Rattle.whole.specs.laws.Solve.{k, ◌⊕◌, ◌⊖◌, ◌⊗◌, ⊝◌, ring, ◌≔◌}
use Rattle.whole.specs.laws.Linear.{◌≼◌, ◌≺◌, ◌≈◌, never, ◌⇒◌, lin}
use Rattle.whole.specs.laws.Tests.{le_yes, le_no, lt_test, ge_test, le_test, gt_test, lt_le, mul_nonneg, mul_pos-pos}
use Rattle.plane.specs.Plane.{Spot, Segment, side, share}
use Rattle.plane.specs.laws.PlaneTurn.{side-back}
use Rattle.plane.specs.laws.Share.{share_exactly}
use Rattle.rays.specs.Inside.{crosses, is_odd, inside}
use Rattle.rays.specs.laws.Flags.{same_test, xor, xor-none, xor_self, xor-four, xor_comm, xor_chain}
use Rattle.rays.specs.laws.Signs.{le_or_lt, gap, gap_lt, neg_lt}
use Rattle.rays.proofs.laws.Parity.{never_so, crossing, crosses_is, swept, level_step, cut-meet, meet-swap, meet-back, unshared, odd_more}
use Rattle.rays.proofs.laws.Heights.{both-low, both_high}
use Rattle.rays.proofs.laws.Turned.{crosses-back}

-- two numbers on either side of 0
abbrev pub Either : ℤ → ℤ → Type 0
Either x y = ((pos 0 <ℤ x) × (y <ℤ pos 0)) ⊎ ((x <ℤ pos 0) × (pos 0 <ℤ y))

-- the way from p to q and an edge cross each other, at no end of either: the ends of each are on either side of the other's line
pub record Through (p q : Spot) (e : Segment) : Type 0 where
  pub way : Either (side e.0 e.1 p) (side e.0 e.1 q)
  pub edge : Either (side p q e.0) (side p q e.1)

-- what is not below 0, and times what is above 0 not above it, is 0
vanishes : (c x : ℤ) → pos 0 <ℤ c → pos 0 ≤ℤ x → (c *ℤ x) ≤ℤ pos 0 → x ≡ pos 0
vanishes c x h l g = go (le_or_lt x (pos 0))
  where
    go : (x ≤ℤ pos 0) ⊎ (pos 0 <ℤ x) → x ≡ pos 0
    go (inl r) = lin 1 (λ x. k (pos 0) ≼ x ⇒ x ≼ k (pos 0) ⇒ x ≈ k (pos 0)) (omega arith) x l r
    go (inr r) = absurd (lin 1 (λ y. k (pos 0) ≺ y ⇒ y ≼ k (pos 0) ⇒ never) (omega arith) (c *ℤ x) (mul_pos-pos h r) g)

-- ---- an edge that is crossed from its left to its right, by a way that does not go down
module _ (a b p q : Spot) (level : p.v ≤ℤ q.v) (α : pos 0 <ℤ side a b p) (β : side a b q <ℤ pos 0) (γ : side p q a <ℤ pos 0) (δ : pos 0 <ℤ side p q b) where
  heights : (au av bu bv pu pv qu qv : ℤ)
      → ((bu -ℤ au) *ℤ (pv -ℤ av) -ℤ (bv -ℤ av) *ℤ (pu -ℤ au)) *ℤ (qv -ℤ pv)
      +ℤ (((qu -ℤ pu) *ℤ (bv -ℤ pv) -ℤ (qv -ℤ pv) *ℤ (bu -ℤ pu)) *ℤ (pv -ℤ av) +ℤ neg_ℤ ((qu -ℤ pu) *ℤ (av -ℤ pv) -ℤ (qv -ℤ pv) *ℤ (au -ℤ pu)) *ℤ (pv -ℤ bv))
      ≡ pos 0
  heights = ring 8 (λ au av bu bv pu pv qu qv.
      ((bu ⊖ au) ⊗ (pv ⊖ av) ⊖ (bv ⊖ av) ⊗ (pu ⊖ au)) ⊗ (qv ⊖ pv)
      ⊕ (((qu ⊖ pu) ⊗ (bv ⊖ pv) ⊖ (qv ⊖ pv) ⊗ (bu ⊖ pu)) ⊗ (pv ⊖ av) ⊕ ⊝ ((qu ⊖ pu) ⊗ (av ⊖ pv) ⊖ (qv ⊖ pv) ⊗ (au ⊖ pu)) ⊗ (pv ⊖ bv))
      ≔ k (pos 0)) tt

  tops : (au av bu bv pu pv qu qv : ℤ)
      → neg_ℤ ((bu -ℤ au) *ℤ (qv -ℤ av) -ℤ (bv -ℤ av) *ℤ (qu -ℤ au)) *ℤ (qv -ℤ pv)
      +ℤ (((qu -ℤ pu) *ℤ (bv -ℤ pv) -ℤ (qv -ℤ pv) *ℤ (bu -ℤ pu)) *ℤ (av -ℤ qv) +ℤ neg_ℤ ((qu -ℤ pu) *ℤ (av -ℤ pv) -ℤ (qv -ℤ pv) *ℤ (au -ℤ pu)) *ℤ (bv -ℤ qv))
      ≡ pos 0
  tops = ring 8 (λ au av bu bv pu pv qu qv.
      ⊝ ((bu ⊖ au) ⊗ (qv ⊖ av) ⊖ (bv ⊖ av) ⊗ (qu ⊖ au)) ⊗ (qv ⊖ pv)
      ⊕ (((qu ⊖ pu) ⊗ (bv ⊖ pv) ⊖ (qv ⊖ pv) ⊗ (bu ⊖ pu)) ⊗ (av ⊖ qv) ⊕ ⊝ ((qu ⊖ pu) ⊗ (av ⊖ pv) ⊖ (qv ⊖ pv) ⊗ (au ⊖ pu)) ⊗ (bv ⊖ qv))
      ≔ k (pos 0)) tt

  -- not both ends are at or below where the way begins
  not_low : a.v ≤ℤ p.v → b.v ≤ℤ p.v → ⊥
  unfolding side
  not_low h g =
      let x = mul_nonneg (lt_le α) (gap p.v q.v level) in
      let y = mul_nonneg (lt_le δ) (gap a.v p.v h) in
      let z = mul_nonneg (lt_le (neg_lt (side p q a) γ)) (gap b.v p.v g) in
      let e = heights a.u a.v b.u b.v p.u p.v q.u q.v in
      let ya : p.v -ℤ a.v ≡ pos 0 = vanishes (side p q b) (p.v -ℤ a.v) δ (gap a.v p.v h) (second (side a b p *ℤ (q.v -ℤ p.v)) (side p q b *ℤ (p.v -ℤ a.v)) (neg_ℤ (side p q a) *ℤ (p.v -ℤ b.v)) x z e) in
      let zb : p.v -ℤ b.v ≡ pos 0 = vanishes (neg_ℤ (side p q a)) (p.v -ℤ b.v) (neg_lt (side p q a) γ) (gap b.v p.v g) (third (side a b p *ℤ (q.v -ℤ p.v)) (side p q b *ℤ (p.v -ℤ a.v)) (neg_ℤ (side p q a) *ℤ (p.v -ℤ b.v)) x y e) in
      clash (side a b p) α (flat ya zb)
    where
      second : (x y z : ℤ) → pos 0 ≤ℤ x → pos 0 ≤ℤ z → x +ℤ (y +ℤ z) ≡ pos 0 → y ≤ℤ pos 0
      second = lin 3 (λ x y z. k (pos 0) ≼ x ⇒ k (pos 0) ≼ z ⇒ x ⊕ (y ⊕ z) ≈ k (pos 0) ⇒ y ≼ k (pos 0)) (omega arith)

      third : (x y z : ℤ) → pos 0 ≤ℤ x → pos 0 ≤ℤ y → x +ℤ (y +ℤ z) ≡ pos 0 → z ≤ℤ pos 0
      third = lin 3 (λ x y z. k (pos 0) ≼ x ⇒ k (pos 0) ≼ y ⇒ x ⊕ (y ⊕ z) ≈ k (pos 0) ⇒ z ≼ k (pos 0)) (omega arith)

      clash : (x : ℤ) → pos 0 <ℤ x → x ≡ pos 0 → ⊥
      clash = lin 1 (λ x. k (pos 0) ≺ x ⇒ x ≈ k (pos 0) ⇒ never) (omega arith)

      flat : p.v -ℤ a.v ≡ pos 0 → p.v -ℤ b.v ≡ pos 0 → (b.u -ℤ a.u) *ℤ (p.v -ℤ a.v) -ℤ (b.v -ℤ a.v) *ℤ (p.u -ℤ a.u) ≡ pos 0
      flat e f =
          ring 5 (λ w x y z t. w ⊗ x ⊖ (y ⊖ z) ⊗ t ≔ w ⊗ x ⊖ (y ⊖ z) ⊗ t) tt (b.u -ℤ a.u) (p.v -ℤ a.v) b.v a.v (p.u -ℤ a.u)
          ∙ ap₂ (λ (x y : ℤ). (b.u -ℤ a.u) *ℤ x -ℤ y *ℤ (p.u -ℤ a.u)) e (lin 3 (λ a b p. p ⊖ a ≈ k (pos 0) ⇒ p ⊖ b ≈ k (pos 0) ⇒ b ⊖ a ≈ k (pos 0)) (omega arith) a.v b.v p.v e f)
          ∙ ring 2 (λ w t. w ⊗ k (pos 0) ⊖ k (pos 0) ⊗ t ≔ k (pos 0)) tt (b.u -ℤ a.u) (p.u -ℤ a.u)

  -- nor both above where it ends
  not-high : q.v <ℤ a.v → q.v <ℤ b.v → ⊥
  unfolding side
  not-high h g =
      clash (neg_ℤ (side a b q) *ℤ (q.v -ℤ p.v)) (side p q b *ℤ (a.v -ℤ q.v)) (neg_ℤ (side p q a) *ℤ (b.v -ℤ q.v))
      (mul_nonneg (lt_le (neg_lt (side a b q) β)) (gap p.v q.v level)) (mul_pos-pos δ (gap_lt q.v a.v h)) (mul_pos-pos (neg_lt (side p q a) γ) (gap_lt q.v b.v g))
      (tops a.u a.v b.u b.v p.u p.v q.u q.v)
    where
      clash : (x y z : ℤ) → pos 0 ≤ℤ x → pos 0 <ℤ y → pos 0 <ℤ z → x +ℤ (y +ℤ z) ≡ pos 0 → ⊥
      clash = lin 3 (λ x y z. k (pos 0) ≼ x ⇒ k (pos 0) ≺ y ⇒ k (pos 0) ≺ z ⇒ x ⊕ (y ⊕ z) ≈ k (pos 0) ⇒ never) (omega arith)

  by_heights : (x : Bool) → le_z a.v p.v ≡ x → (y : Bool) → le_z a.v q.v ≡ y → (z : Bool) → le_z b.v p.v ≡ z → (w : Bool) → le_z b.v q.v ≡ w
      → xor (crossing x z true false) (crossing y w false true) ≡ not (xor (crossing y x true false) (crossing w z false true))
  unfolding xor crossing
  by_heights true i false j z g w h = absurd (never_so p q level a i j)
  by_heights true i true j true g false h = absurd (never_so p q level b g h)
  by_heights true i true j true g true h = absurd (not_low (le_yes refl refl i) (le_yes refl refl g))
  by_heights true i true j false g true h = refl
  by_heights true i true j false g false h = refl
  by_heights false i true j true g false h = absurd (never_so p q level b g h)
  by_heights false i true j true g true h = refl
  by_heights false i true j false g true h = refl
  by_heights false i true j false g false h = refl
  by_heights false i false j true g false h = absurd (never_so p q level b g h)
  by_heights false i false j true g true h = refl
  by_heights false i false j false g true h = refl
  by_heights false i false j false g false h = absurd (not-high (le_no refl refl j) (le_no refl refl h))

  crossed : xor (crosses p (a, b)) (crosses q (a, b)) ≡ not (xor (swept p q a) (swept p q b))
  unfolding swept
  crossed =
      ap₂ xor (crosses_is p (a, b)) (crosses_is q (a, b))
      ∙ (λ i. xor (crossing (le_z a.v p.v) (le_z b.v p.v) (lt_test α i) (ge_test (lt_le α) i)) (crossing (le_z a.v q.v) (le_z b.v q.v) (ge_test (lt_le β) i) (lt_test β i)))
      ∙ by_heights (le_z a.v p.v) refl (le_z a.v q.v) refl (le_z b.v p.v) refl (le_z b.v q.v) refl
      ∙ (λ i. not (xor (crossing (le_z a.v q.v) (le_z a.v p.v) (sym (lt_test γ) i) (sym (ge_test (lt_le γ)) i)) (crossing (le_z b.v q.v) (le_z b.v p.v) (sym (ge_test (lt_le δ)) i) (sym (lt_test δ) i))))

-- ---- an edge that is crossed either way
module _ (a b p q : Spot) where
  differ : side p q a -ℤ side p q b ≡ side a b q -ℤ side a b p
  unfolding side
  differ = go a.u a.v b.u b.v p.u p.v q.u q.v
    where
      go : (au av bu bv pu pv qu qv : ℤ)
          → ((qu -ℤ pu) *ℤ (av -ℤ pv) -ℤ (qv -ℤ pv) *ℤ (au -ℤ pu)) -ℤ ((qu -ℤ pu) *ℤ (bv -ℤ pv) -ℤ (qv -ℤ pv) *ℤ (bu -ℤ pu))
          ≡ ((bu -ℤ au) *ℤ (qv -ℤ av) -ℤ (bv -ℤ av) *ℤ (qu -ℤ au)) -ℤ ((bu -ℤ au) *ℤ (pv -ℤ av) -ℤ (bv -ℤ av) *ℤ (pu -ℤ au))
      go = ring 8 (λ au av bu bv pu pv qu qv.
          ((qu ⊖ pu) ⊗ (av ⊖ pv) ⊖ (qv ⊖ pv) ⊗ (au ⊖ pu)) ⊖ ((qu ⊖ pu) ⊗ (bv ⊖ pv) ⊖ (qv ⊖ pv) ⊗ (bu ⊖ pu))
          ≔ ((bu ⊖ au) ⊗ (qv ⊖ av) ⊖ (bv ⊖ av) ⊗ (qu ⊖ au)) ⊖ ((bu ⊖ au) ⊗ (pv ⊖ av) ⊖ (bv ⊖ av) ⊗ (pu ⊖ au))) tt

  -- the edge's ends are on the sides that those of the way tell
  same_turn : pos 0 <ℤ side a b p → side a b q <ℤ pos 0 → Either (side p q a) (side p q b) → (side p q a <ℤ pos 0) × (pos 0 <ℤ side p q b)
  same_turn α β (inr e) = e
  same_turn α β (inl e) =
      absurd (lin 4 (λ x y z w. k (pos 0) ≺ x ⇒ y ≺ k (pos 0) ⇒ k (pos 0) ≺ z ⇒ w ≺ k (pos 0) ⇒ z ⊖ w ≈ y ⊖ x ⇒ never) (omega arith) (side a b p) (side a b q) (side p q a) (side p q b) α β e.0 e.1 differ)

up_neg : (x y : ℤ) → x ≡ neg_ℤ y → y <ℤ pos 0 → pos 0 <ℤ x
up_neg = lin 2 (λ x y. x ≈ ⊝ y ⇒ y ≺ k (pos 0) ⇒ k (pos 0) ≺ x) (omega arith)

down_neg : (x y : ℤ) → x ≡ neg_ℤ y → pos 0 <ℤ y → x <ℤ pos 0
down_neg = lin 2 (λ x y. x ≈ ⊝ y ⇒ k (pos 0) ≺ y ⇒ x ≺ k (pos 0)) (omega arith)

either_swap : {x y : ℤ} → Either x y → Either y x
either_swap (inl e) = inr (e.1, e.0)
either_swap (inr e) = inl (e.1, e.0)

module _ (p q : Spot) (level : p.v ≤ℤ q.v) where
  through_step : (e : Segment) → Through p q e → xor (crosses p e) (crosses q e) ≡ not (xor (swept p q e.0) (swept p q e.1))
  through_step e t = go t.way
    where
      go : Either (side e.0 e.1 p) (side e.0 e.1 q) → xor (crosses p e) (crosses q e) ≡ not (xor (swept p q e.0) (swept p q e.1))
      go (inl w) = let s = same_turn e.0 e.1 p q w.0 w.1 t.edge in crossed e.0 e.1 p q level w.0 w.1 s.0 s.1
      go (inr w) =
          let α = up_neg (side e.1 e.0 p) (side e.0 e.1 p) (side-back e.0 e.1 p) w.0 in
          let β = down_neg (side e.1 e.0 q) (side e.0 e.1 q) (side-back e.0 e.1 q) w.1 in
          let s = same_turn e.1 e.0 p q α β (either_swap t.edge) in
          ap₂ xor (sym (crosses-back p e)) (sym (crosses-back q e))
          ∙ crossed e.1 e.0 p q level α β s.0 s.1
          ∙ ap not (xor_comm (swept p q e.1) (swept p q e.0))

-- such an edge shares a point with the way
through_shares : (p q : Spot) (e : Segment) → Through p q e → share (p, q) e ≡ true
through_shares p q e t = (share_exactly (p, q) e).1 (meet-swap (cut-meet e.0 e.1 p q (record { mixed_e = mixed t.way; mixed_f = mixed t.edge; some = inl (λ z. unlike t.way z.0) })))
  where
    mixed : {x y : ℤ} → Either x y → ((x ≤ℤ pos 0) × (pos 0 ≤ℤ y)) ⊎ ((pos 0 ≤ℤ x) × (y ≤ℤ pos 0))
    mixed (inl e) = inr (lt_le e.0, lt_le e.1)
    mixed (inr e) = inl (lt_le e.0, lt_le e.1)

    unlike : {x y : ℤ} → Either x y → x ≡ pos 0 → ⊥
    unlike {x} (inl e) z = lin 1 (λ x. k (pos 0) ≺ x ⇒ x ≈ k (pos 0) ⇒ never) (omega arith) x e.0 z
    unlike {x} (inr e) z = lin 1 (λ x. x ≺ k (pos 0) ⇒ x ≈ k (pos 0) ⇒ never) (omega arith) x e.0 z

-- ---- a closed ring, of which each edge shares no point with the way from p to q, or is crossed by it at no end
abbrev pub Clear : Spot → Spot → Segment → Type 0
Clear p q e = (share (p, q) e ≡ false) ⊎ Through p q e

module _ (p q : Spot) where
  -- what the edge adds to the difference of the ends
  step : p.v ≤ℤ q.v → (e : Segment) → Clear p q e → xor (crosses p e) (crosses q e) ≡ xor (xor (swept p q e.0) (swept p q e.1)) (share (p, q) e)
  unfolding xor
  step level e (inl h) = level_step e.0 e.1 p q (unshared (p, q) e h) level ∙ sym (xor-none (xor (swept p q e.0) (swept p q e.1))) ∙ ap (xor (xor (swept p q e.0) (swept p q e.1))) (sym h)
  step level e (inr t) = through_step p q level e t ∙ flip (xor (swept p q e.0) (swept p q e.1)) ∙ ap (xor (xor (swept p q e.0) (swept p q e.1))) (sym (through_shares p q e t))
    where
      flip : (x : Bool) → not x ≡ xor x true
      flip true = refl
      flip false = refl

  abbrev odd : (Segment → Bool) → List Segment → Bool
  odd t l = is_odd (tally t l)

  along : p.v ≤ℤ q.v → (a : Spot) (l : List Spot) → All (Clear p q) (steps_from a l)
      → xor (odd (crosses p) (steps_from a l)) (odd (crosses q) (steps_from a l)) ≡ xor (xor (swept p q a) (swept p q (last_of a l))) (odd (share (p, q)) (steps_from a l))
  unfolding steps_from last_of tally is_odd xor
  along level a [] none = sym (xor-none (xor (swept p q a) (swept p q a)) ∙ xor_self (swept p q a))
  along level a (b ∷ l) (more h r) =
      ap₂ xor (odd_more (crosses p) (a, b) (steps_from b l)) (odd_more (crosses q) (a, b) (steps_from b l))
      ∙ xor-four (crosses p (a, b)) (odd (crosses p) (steps_from b l)) (crosses q (a, b)) (odd (crosses q) (steps_from b l))
      ∙ ap₂ xor (step level (a, b) h) (along level b l r)
      ∙ xor-four (xor (swept p q a) (swept p q b)) (share (p, q) (a, b)) (xor (swept p q b) (swept p q (last_of b l))) (odd (share (p, q)) (steps_from b l))
      ∙ ap₂ xor (xor_chain (swept p q a) (swept p q b) (swept p q (last_of b l))) (sym (odd_more (share (p, q)) (a, b) (steps_from b l)))

  level_ways : p.v ≤ℤ q.v → (a : Spot) (l : List Spot) → last_of a l ≡ a → All (Clear p q) (steps (a ∷ l)) → xor (inside p (steps (a ∷ l))) (inside q (steps (a ∷ l))) ≡ odd (share (p, q)) (steps (a ∷ l))
  unfolding inside steps xor
  level_ways level a l closed h = along level a l h ∙ ap (λ (b : Bool). xor b (odd (share (p, q)) (steps_from a l))) (ap (λ (x : Spot). xor (swept p q a) (swept p q x)) closed ∙ xor_self (swept p q a))

-- ---- the way back
share-turned : (p q : Spot) (e : Segment) → share (q, p) e ≡ share (p, q) e
share-turned p q e = same_test (share (q, p) e) (share (p, q) e) (λ h. (share_exactly (p, q) e).1 (meet-back ((share_exactly (q, p) e).0 h))) (λ h. (share_exactly (q, p) e).1 (meet-back ((share_exactly (p, q) e).0 h)))

either_neg : (x y z w : ℤ) → z ≡ neg_ℤ x → w ≡ neg_ℤ y → Either x y → Either z w
either_neg x y z w e f (inl h) = inr (down_neg z x e h.0, up_neg w y f h.1)
either_neg x y z w e f (inr h) = inl (up_neg z x e h.0, down_neg w y f h.1)

clear-back : (p q : Spot) (e : Segment) → Clear p q e → Clear q p e
clear-back p q e (inl h) = inl (share-turned p q e ∙ h)
clear-back p q e (inr t) = inr (record { way = either_swap t.way; edge = either_neg (side p q e.0) (side p q e.1) (side q p e.0) (side q p e.1) (side-back p q e.0) (side-back p q e.1) t.edge })

module _ (a : Spot) (l : List Spot) (closed : last_of a l ≡ a) where
  -- one of two places is inside and the other not, exactly when a way between them through no corner crosses the ring an odd number of times
  pub ways : (p q : Spot) → All (Clear p q) (steps (a ∷ l)) → xor (inside p (steps (a ∷ l))) (inside q (steps (a ∷ l))) ≡ is_odd (tally (share (p, q)) (steps (a ∷ l)))
  ways p q h = go (le_or_lt p.v q.v)
    where
      go : (p.v ≤ℤ q.v) ⊎ (q.v <ℤ p.v) → xor (inside p (steps (a ∷ l))) (inside q (steps (a ∷ l))) ≡ is_odd (tally (share (p, q)) (steps (a ∷ l)))
      go (inl level) = level_ways p q level a l closed h
      go (inr level) =
          xor_comm (inside p (steps (a ∷ l))) (inside q (steps (a ∷ l)))
          ∙ level_ways q p (lt_le level) a l closed (all_imp (clear-back p q) h)
          ∙ (λ i. is_odd (tally (λ e. share-turned p q e i) (steps (a ∷ l))))

  -- so that any way to a place outside tells
  pub way_out : (p far : Spot) → inside far (steps (a ∷ l)) ≡ false → All (Clear p far) (steps (a ∷ l)) → inside p (steps (a ∷ l)) ≡ is_odd (tally (share (p, far)) (steps (a ∷ l)))
  way_out p far out h = sym (xor-none (inside p (steps (a ∷ l)))) ∙ ap (xor (inside p (steps (a ∷ l)))) (sym out) ∙ ways p far h

-- ---- places outside: no corner is above them, or each is
uncrossed : (t : Segment → Bool) {l : List Segment} → All (λ (e : Segment). t e ≡ false) l → is_odd (tally t l) ≡ false
unfolding tally is_odd xor
uncrossed t none = refl
uncrossed t (more {x = e} {l = l} h r) = odd_more t e l ∙ ap₂ xor h (uncrossed t r)

module _ (q : Spot) where
  pub above_outside : (ring : List Spot) → All (λ (x : Spot). x.v ≤ℤ q.v) ring → inside q (steps ring) ≡ false
  unfolding inside steps steps_from
  above_outside [] none = uncrossed (crosses q) none
  above_outside (a ∷ l) (more h r) = uncrossed (crosses q) (go a l h r)
    where
      go : (a : Spot) (l : List Spot) → a.v ≤ℤ q.v → All (λ (x : Spot). x.v ≤ℤ q.v) l → All (λ (e : Segment). crosses q e ≡ false) (steps_from a l)
      go a [] h none = none
      go a (b ∷ l) h (more g r) = more (sym (both-low q a b (le_test h) (le_test g))) (go b l g r)

  pub below_outside : (ring : List Spot) → All (λ (x : Spot). q.v <ℤ x.v) ring → inside q (steps ring) ≡ false
  unfolding inside steps steps_from
  below_outside [] none = uncrossed (crosses q) none
  below_outside (a ∷ l) (more h r) = uncrossed (crosses q) (go a l h r)
    where
      go : (a : Spot) (l : List Spot) → q.v <ℤ a.v → All (λ (x : Spot). q.v <ℤ x.v) l → All (λ (e : Segment). crosses q e ≡ false) (steps_from a l)
      go a [] h none = none
      go a (b ∷ l) h (more g r) = more (sym (both_high q a b (gt_test h) (gt_test g))) (go b l g r)
