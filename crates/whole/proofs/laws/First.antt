-- A table of rows, each a test with its answer: a row's answer is given exactly when its test holds and no earlier one does.
use Prim.Native.Nat.{ℕ, zero, suc, ◌<◌}
use Rattle.std.proofs.Math.Path.{◌≡◌, refl}
use Rattle.std.proofs.Common.{sym, ap, ◌∙◌, arith}
use Rattle.std.specs.Prelude.{Bool, eqb, length, get_or}
use Rattle.std.proofs.Math.Bool.{true, false}
use mathlib.Core.List.{List, [], ◌∷◌, ◌++◌, map}
use Rattle.std.proofs.Math.Option.{Option}
use Rattle.std.proofs.Math.Option as Maybe
use Rattle.std.proofs.lemmas.Bool.{eqb-false}
use Rattle.std.proofs.Math.ListN.{take}
use Rattle.whole.specs.Lists.{given, first, any, any_two}
use Rattle.whole.specs.Lists as Table
use Rattle.whole.specs.held.Rows.{rows}
use Rattle.whole.specs.All.{All, none, more}
use Rattle.whole.specs.laws.Search.{any-parts, two-parts}

module _ {A : Type 0} where
  -- no row of a list is given
  abbrev pub NoneGiven : List (Bool × A) → Type 0
  NoneGiven l = All (λ (r : Bool × A). r.0 ≡ false) l

  -- b is the answer of no row of a list
  abbrev pub Elsewhere : A → List (Bool × A) → Type 0
  Elsewhere b l = All (λ (r : Bool × A). r.1 ≡ b → ⊥) l

  -- a row that is not given is passed over; one that is given ends the search
  pub first_past : (a : A) (t : Bool) (b : A) (l : List (Option A)) → t ≡ false → first a (given t b ∷ l) ≡ first a l
  unfolding first given
  first_past a false b l e = refl
  first_past a true b l e = let z : ◌≡◌ {A = ℕ} 0 1 = cc in absurd (omega arith)

  pub first_given : (a : A) (t : Bool) (b : A) (l : List (Option A)) → t ≡ true → first a (given t b ∷ l) ≡ b
  unfolding first given
  first_given a true b l e = refl
  first_given a false b l e = let z : ◌≡◌ {A = ℕ} 0 1 = cc in absurd (omega arith)

  -- the row's answer, where its test holds and no earlier one does
  pub first_is : (a : A) (before : List (Bool × A)) (t : Bool) (b : A) (after : List (Bool × A)) → NoneGiven before → t ≡ true → first a (rows (before ++ (t, b) ∷ after)) ≡ b
  unfolding rows
  first_is a [] t b after none e = first_given a t b (rows after) e
  first_is a (r ∷ before) t b after (more q n) e = first_past a r.0 r.1 (rows (before ++ (t, b) ∷ after)) q ∙ first_is a before t b after n e

  -- where no test holds, what is said otherwise
  pub first-none : (a : A) (l : List (Bool × A)) → NoneGiven l → first a (rows l) ≡ a
  unfolding rows first
  first-none a [] none = refl
  first-none a (r ∷ l) (more q n) = first_past a r.0 r.1 (rows l) q ∙ first-none a l n

  -- an answer that no row has, and that is not said otherwise, is not given
  never_first : (a b : A) (l : List (Bool × A)) → Elsewhere b l → (a ≡ b → ⊥) → first a (rows l) ≡ b → ⊥
  unfolding rows first
  never_first a b [] none f e = f e
  never_first a b (r ∷ l) (more q n) f e = go r.0 refl (never_first a b l n f)
    where
      go : (t : Bool) → r.0 ≡ t → (first a (rows l) ≡ b → ⊥) → ⊥
      go true z ih = q (sym (first_given a r.0 r.1 (rows l) z) ∙ e)
      go false z ih = ih (sym (first_past a r.0 r.1 (rows l) z) ∙ e)

  -- the row's answer only then, where no other row has it
  pub first_only : (a : A) (before : List (Bool × A)) (t : Bool) (b : A) (after : List (Bool × A))
      → Elsewhere b before → Elsewhere b after → (a ≡ b → ⊥) → first a (rows (before ++ (t, b) ∷ after)) ≡ b → NoneGiven before × (t ≡ true)
  unfolding rows
  first_only a [] t b after u w f e = go t refl
    where
      go : (s : Bool) → t ≡ s → NoneGiven [] × (t ≡ true)
      go true z = (none, z)
      go false z = absurd (never_first a b after w f (sym (first_past a t b (rows after) z) ∙ e))
  first_only a (r ∷ before) t b after (more q u) w f e = go r.0 refl (first_only a before t b after u w f)
    where
      go : (s : Bool) → r.0 ≡ s → (first a (rows (before ++ (t, b) ∷ after)) ≡ b → NoneGiven before × (t ≡ true)) → NoneGiven (r ∷ before) × (t ≡ true)
      go true z ih = absurd (q (sym (first_given a r.0 r.1 (rows (before ++ (t, b) ∷ after)) z) ∙ e))
      go false z ih = let m = ih (sym (first_past a r.0 r.1 (rows (before ++ (t, b) ∷ after)) z) ∙ e) in (more z m.0, m.1)

-- ---- a table whose rows have each an answer of its own: row n's is given exactly when its test holds and no earlier one does
pub data Distinct {A : Type 0} (a : A) : List (Bool × A) → Type 0 where
  alone : Distinct a []
  apart : {r : Bool × A} {l : List (Bool × A)} → (a ≡ r.1 → ⊥) → Elsewhere r.1 l → Distinct a l → Distinct a (r ∷ l)

module _ {A : Type 0} where
  elsewhere_at : (b : A) (l : List (Bool × A)) (n : ℕ) (d : Bool × A) → Elsewhere b l → n < length l → (get_or l n d).1 ≡ b → ⊥
  elsewhere_at b [] n d none h e = omega arith
  elsewhere_at b (r ∷ l) zero d (more q w) h e = q e
  elsewhere_at b (r ∷ l) (suc n) d (more q w) h e = elsewhere_at b l n d w (omega arith) e

  row-given : (a : A) (l : List (Bool × A)) (n : ℕ) (d : Bool × A) → n < length l → NoneGiven (take n l) → (get_or l n d).0 ≡ true → first a (rows l) ≡ (get_or l n d).1
  unfolding rows
  row-given a [] n d h g e = absurd (omega arith)
  row-given a (r ∷ l) zero d h g e = first_given a r.0 r.1 (rows l) e
  row-given a (r ∷ l) (suc n) d h (more q g) e = first_past a r.0 r.1 (rows l) q ∙ row-given a l n d (omega arith) g e

  row_only : (a : A) (l : List (Bool × A)) → Distinct a l → (n : ℕ) (d : Bool × A) → n < length l → first a (rows l) ≡ (get_or l n d).1 → NoneGiven (take n l) × ((get_or l n d).0 ≡ true)
  unfolding rows
  row_only a [] alone n d h e = absurd (omega arith)
  row_only a (r ∷ l) (apart q w s) zero d h e = go r.0 refl
    where
      go : (t : Bool) → r.0 ≡ t → NoneGiven {A = A} [] × (r.0 ≡ true)
      go true z = (none, z)
      go false z = absurd (never_first a r.1 l w q (sym (first_past a r.0 r.1 (rows l) z) ∙ e))
  row_only a (r ∷ l) (apart q w s) (suc n) d h e = go r.0 refl (row_only a l s n d (omega arith))
    where
      go : (t : Bool) → r.0 ≡ t → (first a (rows l) ≡ (get_or l n d).1 → NoneGiven (take n l) × ((get_or l n d).0 ≡ true)) → NoneGiven (r ∷ take n l) × ((get_or l n d).0 ≡ true)
      go true z ih = absurd (elsewhere_at r.1 l n d w (omega arith) (sym e ∙ first_given a r.0 r.1 (rows l) z))
      go false z ih = let m = ih (sym (first_past a r.0 r.1 (rows l) z) ∙ e) in (more z m.0, m.1)

  none_only : (a : A) (l : List (Bool × A)) → Distinct a l → first a (rows l) ≡ a → NoneGiven l
  unfolding rows
  none_only a [] alone e = none
  none_only a (r ∷ l) (apart q w s) e = go r.0 refl (none_only a l s)
    where
      go : (t : Bool) → r.0 ≡ t → (first a (rows l) ≡ a → NoneGiven l) → NoneGiven (r ∷ l)
      go true z ih = absurd (q (sym e ∙ first_given a r.0 r.1 (rows l) z))
      go false z ih = more z (ih (sym (first_past a r.0 r.1 (rows l) z) ∙ e))

  -- the law
  module _ (a : A) (l : List (Bool × A)) (s : Distinct a l) where
    pub row-exactly : (n : ℕ) (d : Bool × A) → n < length l
        → (NoneGiven (take n l) × ((get_or l n d).0 ≡ true) → first a (rows l) ≡ (get_or l n d).1) × (first a (rows l) ≡ (get_or l n d).1 → NoneGiven (take n l) × ((get_or l n d).0 ≡ true))
    row-exactly n d h = (λ g. row-given a l n d h g.0 g.1, row_only a l s n d h)

    pub none-exactly : (NoneGiven l → first a (rows l) ≡ a) × (first a (rows l) ≡ a → NoneGiven l)
    none-exactly = (first-none a l, none_only a l s)

  -- ---- answers are told apart by their numbers
  module _ (f : A → ℕ) where
    abbrev pub numbers_of : List (Bool × A) → List ℕ
    numbers_of l = map (λ r. f r.1) l

    elsewhere-of : (b : A) (l : List (Bool × A)) → any (eqb (f b)) (numbers_of l) ≡ false → Elsewhere b l
    elsewhere-of b [] e = none
    elsewhere-of b (r ∷ l) e = let p = any-parts (eqb (f b)) (f r.1) (numbers_of l) e in more (λ z. eqb-false (f b) (f r.1) p.0 (ap f (sym z))) (elsewhere-of b l p.1)

    pub distinct_of : (a : A) (l : List (Bool × A)) → any (eqb (f a)) (numbers_of l) ≡ false → any_two eqb (numbers_of l) ≡ false → Distinct a l
    distinct_of a [] e q = alone
    distinct_of a (r ∷ l) e q =
        let p = any-parts (eqb (f a)) (f r.1) (numbers_of l) e in
        let t = two-parts eqb (f r.1) (numbers_of l) q in
        apart (λ z. eqb-false (f a) (f r.1) p.0 (ap f z)) (elsewhere-of r.1 l t.0) (distinct_of a l p.1 t.1)

-- ---- the first row given, if one is: of rows that answer with `some` it is the first, otherwise none, so that all of the above holds of it
module _ {A : Type 0} where
  abbrev pub answers : List (Bool × A) → List (Bool × Option A)
  answers l = map (λ r. (r.0, Maybe.some r.1)) l

  pub given_first : (l : List (Bool × A)) → Table.first_given (rows l) ≡ first Maybe.none (rows (answers l))
  unfolding rows first given Table.first_given
  given_first [] = refl
  given_first (r ∷ l) = go r.0 (given_first l)
    where
      go : (t : Bool) → Table.first_given (rows l) ≡ first Maybe.none (rows (answers l)) → Table.first_given (given t r.1 ∷ rows l) ≡ first Maybe.none (given t (Maybe.some r.1) ∷ rows (answers l))
      go true ih = refl
      go false ih = ih

  -- the law, where the answers differ
  module _ (l : List (Bool × A)) (s : Distinct Maybe.none (answers l)) where
    pub given-row-exactly : (n : ℕ) (d : Bool × Option A) → n < length (answers l)
        → (NoneGiven (take n (answers l)) × ((get_or (answers l) n d).0 ≡ true) → Table.first_given (rows l) ≡ (get_or (answers l) n d).1)
        × (Table.first_given (rows l) ≡ (get_or (answers l) n d).1 → NoneGiven (take n (answers l)) × ((get_or (answers l) n d).0 ≡ true))
    given-row-exactly n d h = let e = row-exactly Maybe.none (answers l) s n d h in (λ g. given_first l ∙ e.0 g, λ z. e.1 (sym (given_first l) ∙ z))

    pub given-none-exactly : (NoneGiven (answers l) → Table.first_given (rows l) ≡ Maybe.none) × (Table.first_given (rows l) ≡ Maybe.none → NoneGiven (answers l))
    given-none-exactly = let e = none-exactly Maybe.none (answers l) s in (λ g. given_first l ∙ e.0 g, λ z. e.1 (sym (given_first l) ∙ z))
