-- Laws of `any` that the checks of several rings need.
use Rattle.std.specs.Prelude.{◌≡◌, Bool, ◌||◌}
use Rattle.std.proofs.Math.Path.{refl, sym, ap, ap₂}
use Rattle.std.proofs.Common.{◌∙◌}
use Rattle.std.proofs.Math.Bool.{true, false}
use mathlib.Core.List.{List, [], ◌∷◌, map}
use Rattle.whole.specs.Lists.{any}
use Rattle.whole.specs.All.{All, none, more}
use Rattle.whole.specs.laws.Reverse.{any_or}

module _ {A : Type 0} where
  any_either : (t s : A → Bool) (l : List A) → any (λ x. t x || s x) l ≡ (any t l || any s l)
  unfolding any
  any_either t s [] = refl
  any_either t s (x ∷ l) =
      any_or (λ x. t x || s x) x l ∙ ap (λ (b : Bool). (t x || s x) || b) (any_either t s l) ∙ regroup (t x) (s x) (any t l) (any s l)
      ∙ ap₂ (λ (a b : Bool). a || b) (sym (any_or t x l)) (sym (any_or s x l))
    where
      regroup : (a b c d : Bool) → ((a || b) || (c || d)) ≡ ((a || c) || (b || d))
      regroup true b c d = refl
      regroup false true true d = refl
      regroup false true false d = refl
      regroup false false c d = refl

  any_never : (l : List A) → any (λ (_ : A). false) l ≡ false
  unfolding any
  any_never [] = refl
  any_never (x ∷ l) = any_never l

  -- tests that agree on all of a list
  pub any_agree : (t s : A → Bool) {l : List A} → All (λ (x : A). t x ≡ s x) l → any t l ≡ any s l
  unfolding any
  any_agree t s none = refl
  any_agree t s (more {x = x} {l = l} h r) = any_or t x l ∙ ap₂ (λ (a b : Bool). a || b) h (any_agree t s r) ∙ sym (any_or s x l)

module _ {A B : Type 0} where
  pub any-map : (t : B → Bool) (g : A → B) (l : List A) → any t (map g l) ≡ any (λ x. t (g x)) l
  unfolding any
  any-map t g [] = refl
  any-map t g (x ∷ l) = any_or t (g x) (map g l) ∙ ap (λ (b : Bool). t (g x) || b) (any-map t g l) ∙ sym (any_or (λ x. t (g x)) x l)

  -- some of the one list with some of the other, whichever is looked through first
  pub any_swap : (t : A → B → Bool) (l : List A) (m : List B) → any (λ x. any (t x) m) l ≡ any (λ y. any (λ x. t x y) l) m
  unfolding any
  any_swap t [] m = sym (any_never m)
  any_swap t (x ∷ l) m =
      any_or (λ x. any (t x) m) x l
      ∙ ap (λ (b : Bool). any (t x) m || b) (any_swap t l m)
      ∙ sym (any_either (t x) (λ y. any (λ x. t x y) l) m)
      ∙ (λ i. any (λ y. sym (any_or (λ x. t x y) x l) i) m)
