-- A place held against its bound, as the machine tests it.
use Rattle.std.specs.Prelude.{suc, ◌≡◌, refl, Bool, true, false, ◌||◌, ltb, ℤ, pos, negsuc, nat_abs}
use Rattle.std.proofs.Common.{arith, sym, ap, ◌∙◌, lt-ltb, le-ltb, ltb-true, ltb-false, SFits, of_z, to_z, to_z-of_z}
use Rattle.std.specs.Int.Signed.{lt_z}
use Rattle.std.specs.Int.{w64}
use Rattle.places.specs.Points.{is_far_of}
use Rattle.places.specs.held.Places.{point3}

pub beyond_is : (z : ℤ) → (lt_z z (negsuc 99999) || lt_z (pos 100000) z) ≡ ltb 100000 (nat_abs z)
beyond_is (pos n) = refl
beyond_is (negsuc n) = go (ltb 99999 n) refl
  where
    go : (b : Bool) → ltb 99999 n ≡ b → (ltb 99999 n || false) ≡ ltb 100000 (suc n)
    go true e = ap (λ (t : Bool). t || false) e ∙ sym (lt-ltb 100000 (suc n) (omega (arith, ltb-true 99999 n e)))
    go false e = ap (λ (t : Bool). t || false) e ∙ sym (le-ltb 100000 (suc n) (omega (arith, ltb-false 99999 n e)))

-- a place as the machine reads it
pub point_bits : {x y z : ℤ} → SFits w64 x → SFits w64 y → SFits w64 z → point3 (to_z w64 (of_z w64 x)) (to_z w64 (of_z w64 y)) (to_z w64 (of_z w64 z)) ≡ point3 x y z
point_bits f g h i = point3 (to_z-of_z f i) (to_z-of_z g i) (to_z-of_z h i)

pub far_is : (x y z : ℤ) (a b c : Bool) → a ≡ ltb 100000 (nat_abs x) → b ≡ ltb 100000 (nat_abs y) → c ≡ ltb 100000 (nat_abs z) → (a || b || c) ≡ is_far_of (point3 x y z)
unfolding is_far_of
far_is x y z a b c e f g i = e i || f i || g i
