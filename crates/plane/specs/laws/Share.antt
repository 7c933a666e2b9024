-- The test of Plane is what document 01 says: two segments share a point.
use Rattle.std.specs.Prelude.{ℕ, zero, suc, ◌+◌, ◌≡◌, refl, true, false, not, ◌&&◌, ℤ, pos, negsuc, nat_abs, ◌-ℤ◌}
use Rattle.std.proofs.Common.{arith, sym, ap, ap₂, ◌∙◌, subst, true≢false, lt-ltb}
use Rattle.std.proofs.lemmas.Bool.{not-true}
use Rattle.whole.specs.laws.Ring.{sub_zero_eq}
use Rattle.plane.specs.Plane.{Segment, same_sign, overlap, share}
use Rattle.whole.specs.laws.Bools.{and_left, and_right}
use Rattle.plane.specs.laws.Meet.{Meet, meet-share}
use Rattle.plane.specs.laws.Found.{a, b, c, d, balance, found_meet}
use Rattle.plane.specs.laws.OneLine.{line-meet}

no_size : (z : ℤ) → nat_abs z ≡ 0 → z ≡ pos 0
no_size (pos n) e = ap pos e
no_size (negsuc n) e = absurd (omega arith)

-- what has not its own sign is zero
unsigned : (z : ℤ) → same_sign z z ≡ false → z ≡ pos 0
unfolding same_sign
unsigned (pos zero) e = refl
unsigned (pos (suc n)) e = absurd (true≢false (sym (rw (lt-ltb 0 (suc n) (omega arith))) ∙ e))
unsigned (negsuc n) e = absurd (true≢false e)

pub share-meet : (e f : Segment) → share e f ≡ true → Meet e f
unfolding share
share-meet e f h = go (nat_abs (a e f) + nat_abs (b e f)) refl
  where
    h₁ : (overlap e.0.u e.1.u f.0.u f.1.u && overlap e.0.v e.1.v f.0.v f.1.v && not (same_sign (a e f) (b e f))) ≡ true
    h₁ = and_left _ (not (same_sign (c e f) (d e f))) h

    h₂ : (overlap e.0.u e.1.u f.0.u f.1.u && overlap e.0.v e.1.v f.0.v f.1.v) ≡ true
    h₂ = and_left (overlap e.0.u e.1.u f.0.u f.1.u && overlap e.0.v e.1.v f.0.v f.1.v) (not (same_sign (a e f) (b e f))) h₁

    mixed_e : same_sign (a e f) (b e f) ≡ false
    mixed_e = not-true (same_sign (a e f) (b e f)) (and_right (overlap e.0.u e.1.u f.0.u f.1.u && overlap e.0.v e.1.v f.0.v f.1.v) (not (same_sign (a e f) (b e f))) h₁)

    mixed_f : same_sign (c e f) (d e f) ≡ false
    mixed_f = not-true (same_sign (c e f) (d e f)) (and_right (overlap e.0.u e.1.u f.0.u f.1.u && overlap e.0.v e.1.v f.0.v f.1.v && not (same_sign (a e f) (b e f))) (not (same_sign (c e f) (d e f))) h)

    go : (n : ℕ) → nat_abs (a e f) + nat_abs (b e f) ≡ n → Meet e f
    go (suc n) q = found_meet e f mixed_e mixed_f (omega arith)
    go zero q =
        let a₀ : a e f ≡ pos 0 = no_size (a e f) (omega arith) in
        let b₀ : b e f ≡ pos 0 = no_size (b e f) (omega arith) in
        let cd : c e f ≡ d e f = sub_zero_eq (c e f) (d e f) (balance e f ∙ ap₂ (λ (x y : ℤ). x -ℤ y) b₀ a₀) in
        let c₀ : c e f ≡ pos 0 = unsigned (c e f) (subst (λ (z : ℤ). same_sign (c e f) z ≡ false) (sym cd) mixed_f) in
        line-meet e f a₀ b₀ c₀ (and_right (overlap e.0.u e.1.u f.0.u f.1.u) (overlap e.0.v e.1.v f.0.v f.1.v) h₂) (and_left (overlap e.0.u e.1.u f.0.u f.1.u) (overlap e.0.v e.1.v f.0.v f.1.v) h₂)

-- "share a point": exactly when the test says so
pub share_exactly : (e f : Segment) → (share e f ≡ true → Meet e f) × (Meet e f → share e f ≡ true)
share_exactly e f = (share-meet e f, meet-share e f)
