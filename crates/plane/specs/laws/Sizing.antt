-- Whether a number is 0, by its bits.
use Rattle.std.proofs.Common.{arith, sym, ap, ◌∙◌, eq-eqb, ne_eqb, eqb-true, SFits, of_z, to_z, to_z-of_z}
use Rattle.std.specs.Prelude.{◌≡◌, refl, Bool, true, false, eqb, ℤ, pos, negsuc, nat_abs}
use Rattle.std.proofs.lemmas.Bool.{eqb-false}
use Rattle.std.specs.Int.{w64}
use Rattle.whole.specs.Lists.{same_z}

pub zero_test : {z : ℤ} → SFits w64 z → eqb (of_z w64 z) 0 ≡ same_z z (pos 0)
unfolding same_z
zero_test {z} h = go (eqb (of_z w64 z) 0) refl
  where
    same : (y : ℤ) → y ≡ pos 0 → true ≡ same_z y (pos 0)
    same (pos n) e = sym (eq-eqb n 0 (ap nat_abs e))
    same (negsuc n) e = absurd (omega (arith, ap nat_abs e))

    other : (y : ℤ) → (y ≡ pos 0 → ⊥) → false ≡ same_z y (pos 0)
    other (pos n) f = sym (ne_eqb n 0 (λ e. f (ap pos e)))
    other (negsuc n) f = refl

    go : (t : Bool) → eqb (of_z w64 z) 0 ≡ t → t ≡ same_z z (pos 0)
    go true e = same z (sym (to_z-of_z h) ∙ ap (to_z w64) (eqb-true (of_z w64 z) 0 e))
    go false e = other z (λ y. eqb-false (of_z w64 z) 0 e (ap (of_z w64) y))
