-- Laws of what holds of all of a list.
use Prim.Native.Nat.{ℕ, zero, suc}
use Rattle.std.specs.Prelude.{◌≡◌, refl, Bool, true, false, set}
use Rattle.std.proofs.Common.{true≢false}
use mathlib.Core.List.{List, [], ◌∷◌, ◌++◌, reverse, reverse_aux}
use Rattle.whole.specs.Lists.{any, at}
use Rattle.whole.specs.All.{All, none, more}

module _ {A : Type 0} {P : A → Type 0} where
  pub all_imp : {Q : A → Type 0} {l : List A} → ((x : A) → P x → Q x) → All P l → All Q l
  all_imp f none = none
  all_imp f (more {x = x} p a) = more (f x p) (all_imp f a)

  pub all_append : {s t : List A} → All P s → All P t → All P (s ++ t)
  all_append none b = b
  all_append (more p a) b = more p (all_append a b)

  pub all_middle : (s : List A) (x : A) (t : List A) → All P (s ++ x ∷ t) → P x
  all_middle [] x t (more p a) = p
  all_middle (y ∷ s) x t (more p a) = all_middle s x t a

  pub all_set : {l : List A} (n : ℕ) (x : A) → P x → All P l → All P (set l n x)
  all_set n x q none = none
  all_set zero x q (more p a) = more q a
  all_set (suc n) x q (more p a) = more p (all_set n x q a)

  pub all-at : {l : List A} (n : ℕ) (f : A → A) → ((x : A) → P x → P (f x)) → All P l → All P (at n f l)
  unfolding at
  all-at n f g none = none
  all-at zero f g (more {x = x} p a) = more (g x p) a
  all-at (suc n) f g (more p a) = more p (all-at n f g a)

  all-reverse_aux : {l r : List A} → All P l → All P r → All P (reverse_aux l r)
  all-reverse_aux none b = b
  all-reverse_aux (more p a) b = all-reverse_aux a (more p b)

  pub all-reverse : {l : List A} → All P l → All P (reverse l)
  all-reverse a = all-reverse_aux a none

-- a test that holds of none of a list
pub any_none : {A : Type 0} (t : A → Bool) (l : List A) → any t l ≡ false → All (λ (x : A). t x ≡ false) l
unfolding any
any_none t [] e = none
any_none t (x ∷ l) e = go (t x) refl e (any_none t l)
  where
    go : (b : Bool) → t x ≡ b → any t (x ∷ l) ≡ false → (any t l ≡ false → All (λ (y : _). t y ≡ false) l) → All (λ (y : _). t y ≡ false) (x ∷ l)
    go true q e ih = absurd (true≢false (rw (q, any) at e))
    go false q e ih = more q (ih (rw (q, any) at e))

pub none_any : {A : Type 0} (t : A → Bool) (l : List A) → All (λ (x : A). t x ≡ false) l → any t l ≡ false
unfolding any
none_any t [] none = refl
none_any t (x ∷ l) (more q a) = let ih : any t l ≡ false = none_any t l a in rw (q, any) ih
