-- Turned edges meet as the edges do.
use Rattle.std.specs.Prelude.{zero, suc, ◌≡◌, refl, Bool, true, false, not, ◌&&◌, ◌||◌, ℤ, pos, negsuc, neg_ℤ, ◌+ℤ◌, ◌-ℤ◌, ◌*ℤ◌}
use Rattle.std.proofs.Common.{arith, sym, ap, ap₂, ◌∙◌, lt-ltb, le-ltb, ne_eqb}
use Rattle.std.proofs.Math.Bool.{and_comm, or_comm}
use Rattle.std.specs.Int.Signed.{lt_z}
use Rattle.whole.specs.Lists.{same_z}
use Rattle.whole.specs.laws.Solve.{◌⊕◌, ◌⊖◌, ◌⊗◌, ⊝◌, ring, ◌≔◌}
use Rattle.whole.specs.laws.Reverse.{back}
use Rattle.plane.specs.Plane.{Spot, Segment, side, same_sign, under, overlap, share, turn_off_of, ahead, share_more_of}

-- ---- signs

above_neg : (z : ℤ) → lt_z (pos 0) (neg_ℤ z) ≡ lt_z z (pos 0)
above_neg (pos zero) = refl
above_neg (pos (suc n)) = sym (le-ltb (suc n) 0 (omega arith))
above_neg (negsuc n) = lt-ltb 0 (suc n) (omega arith)

below_neg : (z : ℤ) → lt_z (neg_ℤ z) (pos 0) ≡ lt_z (pos 0) z
below_neg (pos zero) = refl
below_neg (pos (suc n)) = sym (lt-ltb 0 (suc n) (omega arith))
below_neg (negsuc n) = le-ltb (suc n) 0 (omega arith)

pub zero_neg : (z : ℤ) → same_z (neg_ℤ z) (pos 0) ≡ same_z z (pos 0)
unfolding same_z
zero_neg (pos zero) = refl
zero_neg (pos (suc n)) = sym (ne_eqb (suc n) 0 (λ e. omega arith))
zero_neg (negsuc n) = ne_eqb (suc n) 0 (λ e. omega arith)

same_sign_neg : (a b : ℤ) → same_sign (neg_ℤ b) (neg_ℤ a) ≡ same_sign a b
unfolding same_sign
same_sign_neg a b = rw (above_neg a, above_neg b, below_neg a, below_neg b) (go (lt_z b (pos 0)) (lt_z a (pos 0)) (lt_z (pos 0) b) (lt_z (pos 0) a))
  where
    go : (p q r s : Bool) → (p && q || r && s) ≡ (s && r || q && p)
    go p q r s = ap₂ (λ (x y : Bool). x || y) (and_comm p q) (and_comm r s) ∙ or_comm (q && p) (s && r)

-- ---- stretches

reverse4 : (p q r s : Bool) → (p && q && r && s) ≡ (s && r && q && p)
reverse4 true true true true = refl
reverse4 true true true false = refl
reverse4 true true false true = refl
reverse4 true true false false = refl
reverse4 true false true true = refl
reverse4 true false true false = refl
reverse4 true false false true = refl
reverse4 true false false false = refl
reverse4 false true true true = refl
reverse4 false true true false = refl
reverse4 false true false true = refl
reverse4 false true false false = refl
reverse4 false false true true = refl
reverse4 false false true false = refl
reverse4 false false false true = refl
reverse4 false false false false = refl

under_back : (a b c d : ℤ) → under b a d c ≡ under a b c d
unfolding under
under_back a b c d = reverse4 (lt_z b d) (lt_z b c) (lt_z a d) (lt_z a c)

overlap-back : (a b c d : ℤ) → overlap d c b a ≡ overlap a b c d
unfolding overlap
overlap-back a b c d =
    ap₂ (λ (x y : Bool). not x && not y) (under_back c d a b) (under_back a b c d) ∙ and_comm (not (under c d a b)) (not (under a b c d))

-- ---- segments

pub side-back : (a b c : Spot) → side b a c ≡ neg_ℤ (side a b c)
unfolding side
side-back a b c = go a.u a.v b.u b.v c.u c.v
  where
    go : (p q r s t w : ℤ) → (p -ℤ r) *ℤ (w -ℤ s) -ℤ (q -ℤ s) *ℤ (t -ℤ r) ≡ neg_ℤ ((r -ℤ p) *ℤ (w -ℤ q) -ℤ (s -ℤ q) *ℤ (t -ℤ p))
    go = ring 6 (λ p q r s t w. (p ⊖ r) ⊗ (w ⊖ s) ⊖ (q ⊖ s) ⊗ (t ⊖ r) ≔ ⊝ ((r ⊖ p) ⊗ (w ⊖ q) ⊖ (s ⊖ q) ⊗ (t ⊖ p))) tt

sides-back : (a b c d : Spot) → same_sign (side b a d) (side b a c) ≡ same_sign (side a b c) (side a b d)
sides-back a b c d = ap₂ (λ (x y : ℤ). same_sign x y) (side-back a b d) (side-back a b c) ∙ same_sign_neg (side a b c) (side a b d)

pub share_back : (e f : Segment) → share (back f) (back e) ≡ share e f
unfolding share
share_back e f =
    ap₂ (λ (x y : Bool). x && y)
    (ap₂ (λ (x y : Bool). x && y)
    (ap₂ (λ (x y : Bool). x && y) (overlap-back e.0.u e.1.u f.0.u f.1.u) (overlap-back e.0.v e.1.v f.0.v f.1.v))
    (ap not (sides-back f.0 f.1 e.0 e.1)))
    (ap not (sides-back e.0 e.1 f.0 f.1))
    ∙ swap (overlap e.0.u e.1.u f.0.u f.1.u && overlap e.0.v e.1.v f.0.v f.1.v) (not (same_sign (side f.0 f.1 e.0) (side f.0 f.1 e.1))) (not (same_sign (side e.0 e.1 f.0) (side e.0 e.1 f.1)))
  where
    swap : (p q r : Bool) → (p && q && r) ≡ (p && r && q)
    swap true q r = and_comm q r
    swap false q r = refl

turn_off-back : (e f : Segment) → turn_off_of (back f) (back e) ≡ neg_ℤ (turn_off_of e f)
unfolding turn_off_of
turn_off-back e f = go e.0.u e.0.v e.1.u e.1.v f.0.u f.0.v f.1.u f.1.v
  where
    go : (a b c d p q r s : ℤ) → (p -ℤ r) *ℤ (b -ℤ d) -ℤ (q -ℤ s) *ℤ (a -ℤ c) ≡ neg_ℤ ((c -ℤ a) *ℤ (s -ℤ q) -ℤ (d -ℤ b) *ℤ (r -ℤ p))
    go = ring 8 (λ a b c d p q r s. (p ⊖ r) ⊗ (b ⊖ d) ⊖ (q ⊖ s) ⊗ (a ⊖ c) ≔ ⊝ ((c ⊖ a) ⊗ (s ⊖ q) ⊖ (d ⊖ b) ⊗ (r ⊖ p))) tt

ahead-back : (e f : Segment) → ahead (back f) (back e) ≡ ahead e f
unfolding ahead
ahead-back e f = go e.0.u e.0.v e.1.u e.1.v f.0.u f.0.v f.1.u f.1.v
  where
    go : (a b c d p q r s : ℤ) → (p -ℤ r) *ℤ (a -ℤ c) +ℤ (q -ℤ s) *ℤ (b -ℤ d) ≡ (c -ℤ a) *ℤ (r -ℤ p) +ℤ (d -ℤ b) *ℤ (s -ℤ q)
    go = ring 8 (λ a b c d p q r s. (p ⊖ r) ⊗ (a ⊖ c) ⊕ (q ⊖ s) ⊗ (b ⊖ d) ≔ (c ⊖ a) ⊗ (r ⊖ p) ⊕ (d ⊖ b) ⊗ (s ⊖ q)) tt

pub share_more-back : (e f : Segment) → share_more_of (back f) (back e) ≡ share_more_of e f
unfolding share_more_of
share_more-back e f =
    ap₂ (λ (x y : Bool). x && y)
    (ap (λ (z : ℤ). same_z z (pos 0)) (turn_off-back e f) ∙ zero_neg (turn_off_of e f))
    (ap (λ (z : ℤ). lt_z z (pos 0)) (ahead-back e f))
