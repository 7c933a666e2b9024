-- Rings, entry by entry: whether one is closed, and whether it lists a number.
use Rattle.std.specs.Prelude.{ℕ, ◌+◌, ◌-◌, ◌<◌, ◌≡◌, refl, Bool, true, false, not, ◌||◌, List, [], ◌∷◌, eqb, length, get_or, drop}
use Rattle.std.proofs.Common.{arith, sym, ap, ◌∙◌}
use Rattle.std.proofs.Math.Bool.{or_assoc}
use Rattle.whole.specs.Lists.{any, last_of}
use Rattle.whole.specs.laws.Front.{last-at}
use Rattle.whole.specs.laws.Search.{any_here, any_next}
use Rattle.ring.specs.Entries.{is_unclosed}

pub not-not : (b : Bool) → not (not b) ≡ b
not-not true = refl
not-not false = refl

pub none-closed : (ring : List ℕ) → length ring ≡ 0 → true ≡ not (is_unclosed ring)
unfolding is_unclosed
none-closed [] e = refl
none-closed (a ∷ l) e = absurd (omega arith)

pub closed_is : (ring : List ℕ) (n : ℕ) → n ≡ length ring → (n ≡ 0 → ⊥) → eqb (get_or ring 0 0) (get_or ring (n - 1) 0) ≡ not (is_unclosed ring)
unfolding is_unclosed
closed_is [] n e f = absurd (f e)
closed_is (a ∷ l) n e f =
    let m : n - 1 ≡ length l = omega arith in
    ap (λ (i : ℕ). eqb a (get_or (a ∷ l) i 0)) m ∙ ap (eqb a) (sym (last-at 0 a l)) ∙ sym (not-not (eqb a (last_of a l)))

-- one entry more is looked at
pub found_more : (t : ℕ → Bool) (l : List ℕ) (i : ℕ) (found : Bool) {all : Bool} → i < length l → (found || any t (drop i l)) ≡ all → ((found || t (get_or l i 0)) || any t (drop (i + 1) l)) ≡ all
found_more t l i found h e =
    or_assoc found (t (get_or l i 0)) (any t (drop (i + 1) l)) ∙ ap (λ (b : Bool). found || b) (sym (go (t (get_or l i 0)) refl)) ∙ e
  where
    go : (b : Bool) → t (get_or l i 0) ≡ b → any t (drop i l) ≡ (b || any t (drop (i + 1) l))
    go true f = any_here t l i 0 h f
    go false f = any_next t l i 0 h f

-- "last entry differs from first", from whether the ring is closed
pub unclosed_is : {r u t : Bool} → r ≡ not u → not r ≡ t → u ≡ t
unclosed_is {r} {u} e h = sym (not-not u) ∙ ap not (sym e) ∙ h
