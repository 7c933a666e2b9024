-- Flags that say the same, and the parity of two.
use Rattle.std.specs.Prelude.{◌≡◌, refl, Bool, true, false, not}
use Rattle.std.proofs.Common.{sym, ap, ◌∙◌, true≢false}
use Rattle.std.specs.Bool.{beq}

-- two tests that hold of each other are the same
pub same_test : (a b : Bool) → (a ≡ true → b ≡ true) → (b ≡ true → a ≡ true) → a ≡ b
same_test true b f g = sym (f refl)
same_test false true f g = g refl
same_test false false f g = refl

-- one of two, not both
unfoldable pub xor : Bool → Bool → Bool
xor true b = not b
xor false b = b

pub xor-none : (x : Bool) → xor x false ≡ x
unfolding xor
xor-none true = refl
xor-none false = refl

pub xor_self : (x : Bool) → xor x x ≡ false
unfolding xor
xor_self true = refl
xor_self false = refl

pub xor_same : (x y : Bool) → xor x y ≡ false → x ≡ y
unfolding xor
xor_same true true e = refl
xor_same true false e = absurd (true≢false e)
xor_same false y e = sym e

pub xor_assoc : (a b c : Bool) → xor (xor a b) c ≡ xor a (xor b c)
unfolding xor
xor_assoc true true true = refl
xor_assoc true true false = refl
xor_assoc true false c = refl
xor_assoc false b c = refl

pub xor_comm : (a b : Bool) → xor a b ≡ xor b a
unfolding xor
xor_comm true true = refl
xor_comm true false = refl
xor_comm false true = refl
xor_comm false false = refl

pub xor_chain : (x y z : Bool) → xor (xor x y) (xor y z) ≡ xor x z
unfolding xor
xor_chain true true z = refl
xor_chain true false z = refl
xor_chain false true true = refl
xor_chain false true false = refl
xor_chain false false z = refl

-- as `^` does
pub beq-xor : (a b : Bool) → not (beq a b) ≡ xor a b
unfolding xor
beq-xor true true = refl
beq-xor true false = refl
beq-xor false true = refl
beq-xor false false = refl

pub xor-four : (x y z w : Bool) → xor (xor x y) (xor z w) ≡ xor (xor x z) (xor y w)
xor-four x y z w =
    xor_assoc x y (xor z w)
    ∙ ap (xor x) (sym (xor_assoc y z w) ∙ ap (λ (b : Bool). xor b w) (xor_comm y z) ∙ xor_assoc z y w)
    ∙ sym (xor_assoc x z (xor y w))
