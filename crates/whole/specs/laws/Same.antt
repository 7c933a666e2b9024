-- Whether two numbers are the same, either way about.
use Rattle.std.specs.Prelude.{ℕ, ◌≡◌, refl, Bool, true, false, eqb, ℤ, pos, negsuc}
use Rattle.std.proofs.Common.{sym, eq-eqb, ne_eqb, eqb-true}
use Rattle.std.proofs.lemmas.Bool.{eqb-false}
use Rattle.whole.specs.Lists.{same_z}

pub eqb-sym : (a b : ℕ) → eqb a b ≡ eqb b a
eqb-sym a b = go (eqb a b) refl
  where
    go : (t : Bool) → eqb a b ≡ t → t ≡ eqb b a
    go true e = sym (eq-eqb b a (sym (eqb-true a b e)))
    go false e = sym (ne_eqb b a (λ z. eqb-false a b e (sym z)))

pub same_z-sym : (a b : ℤ) → same_z a b ≡ same_z b a
unfolding same_z
same_z-sym (pos a) (pos b) = eqb-sym a b
same_z-sym (pos a) (negsuc b) = refl
same_z-sym (negsuc a) (pos b) = refl
same_z-sym (negsuc a) (negsuc b) = eqb-sym a b
