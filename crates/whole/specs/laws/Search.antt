-- A loop that looks through a list from its front: what is left of the list tells of the whole.
use Rattle.std.specs.Prelude.{ℕ, ◌+◌, ◌<◌, ◌≡◌, refl, Bool, List, [], ◌∷◌, length, get_or, drop}
use Rattle.std.proofs.Math.Path.{ap}
use Rattle.std.proofs.Common.{◌∙◌, true≢false, add-one, drop-cons}
use Rattle.std.proofs.Math.Bool.{true, false}
use Rattle.std.proofs.Math.Seq.{drop-length}
use Rattle.whole.specs.Lists.{any, any_two}

-- neither of two that are asked one after the other
neither : (a b : Bool) → elim a [ true ↦ true | false ↦ b ] ≡ false → (a ≡ false) × (b ≡ false)
neither true b e = absurd (true≢false e)
neither false b e = (refl, e)

module _ {A : Type 0} where
  -- the one at i, and what is left after it
  pub drop-next : (l : List A) (i : ℕ) (d : A) → i < length l → drop i l ≡ get_or l i d ∷ drop (i + 1) l
  drop-next l i d h = rw add-one (drop-cons l i d h)

  pub drop_end : (l : List A) (i : ℕ) → i ≡ length l → drop i l ≡ []
  drop_end l i e = ap (λ (n : ℕ). drop n l) e ∙ drop-length l

  -- ---- one that passes a test
  pub any_here : (t : A → Bool) (l : List A) (i : ℕ) (d : A) → i < length l → t (get_or l i d) ≡ true → any t (drop i l) ≡ true
  unfolding any
  any_here t l i d h e = ap (any t) (drop-next l i d h) ∙ ap (λ (b : Bool). elim b [ true ↦ true | false ↦ any t (drop (i + 1) l) ]) e

  pub any_next : (t : A → Bool) (l : List A) (i : ℕ) (d : A) → i < length l → t (get_or l i d) ≡ false → any t (drop i l) ≡ any t (drop (i + 1) l)
  unfolding any
  any_next t l i d h e = ap (any t) (drop-next l i d h) ∙ ap (λ (b : Bool). elim b [ true ↦ true | false ↦ any t (drop (i + 1) l) ]) e

  pub any_end : (t : A → Bool) (l : List A) (i : ℕ) → i ≡ length l → any t (drop i l) ≡ false
  unfolding any
  any_end t l i e = ap (any t) (drop_end l i e)

  -- none does: not the first, and none of the rest
  pub any-parts : (t : A → Bool) (x : A) (l : List A) → any t (x ∷ l) ≡ false → (t x ≡ false) × (any t l ≡ false)
  unfolding any
  any-parts t x l e = neither (t x) (any t l) e

  -- ---- two that are so related
  pub two_here : (r : A → A → Bool) (l : List A) (i : ℕ) (d : A) → i < length l → any (r (get_or l i d)) (drop (i + 1) l) ≡ true → any_two r (drop i l) ≡ true
  unfolding any_two
  two_here r l i d h e = ap (any_two r) (drop-next l i d h) ∙ ap (λ (b : Bool). elim b [ true ↦ true | false ↦ any_two r (drop (i + 1) l) ]) e

  pub two-next : (r : A → A → Bool) (l : List A) (i : ℕ) (d : A) → i < length l → any (r (get_or l i d)) (drop (i + 1) l) ≡ false → any_two r (drop i l) ≡ any_two r (drop (i + 1) l)
  unfolding any_two
  two-next r l i d h e = ap (any_two r) (drop-next l i d h) ∙ ap (λ (b : Bool). elim b [ true ↦ true | false ↦ any_two r (drop (i + 1) l) ]) e

  pub two_end : (r : A → A → Bool) (l : List A) (i : ℕ) → i ≡ length l → any_two r (drop i l) ≡ false
  unfolding any_two
  two_end r l i e = ap (any_two r) (drop_end l i e)

  pub two-parts : (r : A → A → Bool) (x : A) (l : List A) → any_two r (x ∷ l) ≡ false → (any (r x) l ≡ false) × (any_two r l ≡ false)
  unfolding any_two
  two-parts r x l e = neither (any (r x) l) (any_two r l) e
