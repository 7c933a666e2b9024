-- The least index of a list at which a test holds: a loop that looks for it, what it says, and two of a list that are related.
use Prim.Native.Nat.{ℕ, zero, suc, ◌+◌, ◌≤◌, ◌<◌, suc-le-suc}
use Rattle.std.proofs.Common.{arith, le_of_suc-le-suc, zero-add, add-one, ◌∙◌, true≢false, lt-ltb, ltb-true, ltb-false, length-append, length-take, get_or-take}
use Rattle.std.proofs.Math.Path.{◌≡◌, refl, sym, ap, ap₂}
use Rattle.std.proofs.Math.Bool.{Bool, true, false}
use Rattle.std.specs.Prelude.{◌||◌, get_or, take, drop}
use mathlib.Core.List.{List, [], ◌∷◌, ◌++◌, append_assoc}
use Rattle.std.proofs.Math.Dec.{ltb, leb-suc-suc}
use Rattle.std.proofs.Math.ListN.{length}
use Rattle.std.proofs.Math.Seq.{take-append_seam}
use Rattle.whole.specs.Lists.{any, any_two, least_index, numbered, numbered_from}
use Rattle.whole.specs.Least.{LeastBelow}
use Rattle.whole.specs.laws.Places.{numbered-at, numbered-length}
use Rattle.whole.specs.laws.Search.{drop-next, drop_end}
use Rattle.whole.specs.laws.Stores.{cases}
use Rattle.whole.specs.laws.Reverse.{any_or, any_snoc, any_two_or}

module _ {A : Type 0} (t : A → Bool) where
  -- ---- what is left of the list tells the index, counted from where it starts
  index_of : (x : A) (l : List A) (b : Bool) → t x ≡ b → least_index t (x ∷ l) ≡ elim b [ true ↦ 0 | false ↦ suc (least_index t l) ]
  unfolding least_index
  index_of x l b e = ap (λ (c : Bool). elim c [ true ↦ 0 | false ↦ suc (least_index t l) ]) e

  pub index_here : (l : List A) (i : ℕ) (d : A) → i < length l → t (get_or l i d) ≡ true → least_index t (drop i l) ≡ 0
  index_here l i d h e = ap (least_index t) (drop-next l i d h) ∙ index_of (get_or l i d) (drop (i + 1) l) true e

  pub index_next : (l : List A) (i : ℕ) (d : A) → i < length l → t (get_or l i d) ≡ false → least_index t (drop i l) ≡ suc (least_index t (drop (i + 1) l))
  index_next l i d h e = ap (least_index t) (drop-next l i d h) ∙ index_of (get_or l i d) (drop (i + 1) l) false e

  pub index_end : (l : List A) (i : ℕ) → i ≡ length l → least_index t (drop i l) ≡ 0
  unfolding least_index
  index_end l i e = ap (least_index t) (drop_end l i e)

  -- ---- of two lists one after the other: it is the first one's where the test holds of some there, else the second one's, counted on
  index_first : (x : A) (l : List A) (b : Bool) → t x ≡ b → elim b [ true ↦ 0 | false ↦ suc (least_index t l) ] ≡ least_index t (x ∷ l)
  index_first x l b e = sym (index_of x l b e)

  pub index_past : (a l : List A) → least_index t a ≡ length a → least_index t (a ++ l) ≡ length a + least_index t l
  unfolding least_index
  index_past [] l e = sym (zero-add (least_index t l))
  index_past (x ∷ a) l e = go (t x) refl (index_past a l)
    where
      go : (b : Bool) → t x ≡ b → (least_index t a ≡ length a → least_index t (a ++ l) ≡ length a + least_index t l) → least_index t (x ∷ a ++ l) ≡ suc (length a) + least_index t l
      go true q ih = absurd (omega (arith, sym (index_of x a true q) ∙ e))
      go false q ih = index_of x (a ++ l) false q ∙ (let h = ih (omega (arith, sym (index_of x a false q) ∙ e)) in omega arith)

  pub index_within : (a l : List A) → least_index t a < length a → least_index t (a ++ l) ≡ least_index t a
  unfolding least_index
  index_within [] l h = absurd (omega arith)
  index_within (x ∷ a) l h = go (t x) refl (index_within a l)
    where
      go : (b : Bool) → t x ≡ b → (least_index t a < length a → least_index t (a ++ l) ≡ least_index t a) → least_index t (x ∷ a ++ l) ≡ least_index t (x ∷ a)
      go true q ih = index_of x (a ++ l) true q ∙ index_first x a true q
      go false q ih = index_of x (a ++ l) false q ∙ ap suc (ih (omega (arith, sym (index_of x a false q), h))) ∙ index_first x a false q

  -- ---- it is below the length exactly where the test holds of some
  pub any_index : (l : List A) → any t l ≡ ltb (least_index t l) (length l)
  unfolding any least_index
  any_index [] = refl
  any_index (x ∷ l) = go (t x) (any_index l)
    where
      go : (b : Bool) → any t l ≡ ltb (least_index t l) (length l)
          → ◌≡◌ {A = Bool} (elim b [ true ↦ true | false ↦ any t l ]) (ltb (elim b [ true ↦ 0 | false ↦ suc (least_index t l) ]) (suc (length l)))
      go true ih = sym (lt-ltb 0 (suc (length l)) (omega arith))
      go false ih = ih ∙ sym (leb-suc-suc (suc (least_index t l)) (length l))

  -- ---- it is the least at which the test holds, the length where there is none
  abbrev pub HoldsAt : A → List A → ℕ → Type 0
  HoldsAt d l i = (i < length l) × (t (get_or l i d) ≡ true)

  here : (d x : A) (l : List A) → t x ≡ true → LeastBelow (HoldsAt d (x ∷ l)) (suc (length l)) 0
  here d x l e = record { within = omega arith; found = λ h. record { holds = (h, e); first = λ j p. omega arith }; missing = λ h. absurd (omega arith) }

  later : (d x : A) (l : List A) (r : ℕ) → t x ≡ false → LeastBelow (HoldsAt d l) (length l) r → LeastBelow (HoldsAt d (x ∷ l)) (suc (length l)) (suc r)
  later d x l r e m = record {
    within = omega (arith, m.within);
    found = λ h. let n = m.found (omega arith) in record { holds = (h, n.holds.1); first = after r n.first };
    missing = λ h k p. none k p (m.missing (omega arith));
  }
    where
      after : (r : ℕ) → ((j : ℕ) → HoldsAt d l j → r ≤ j) → (j : ℕ) → HoldsAt d (x ∷ l) j → suc r ≤ j
      after r f zero p = absurd (true≢false (sym p.1 ∙ e))
      after r f (suc j) p = suc-le-suc (f j (le_of_suc-le-suc p.0, p.1))

      none : (k : ℕ) → HoldsAt d (x ∷ l) k → ((j : ℕ) → HoldsAt d l j → ⊥) → ⊥
      none zero p f = true≢false (sym p.1 ∙ e)
      none (suc k) p f = f k (le_of_suc-le-suc p.0, p.1)

  pub index_least : (d : A) (l : List A) → LeastBelow (HoldsAt d l) (length l) (least_index t l)
  unfolding least_index
  index_least d [] = record { within = omega arith; found = λ h. absurd (omega arith); missing = λ h k p. omega (arith, p.0) }
  index_least d (x ∷ l) = go (t x) refl (index_least d l)
    where
      go : (b : Bool) → t x ≡ b → LeastBelow (HoldsAt d l) (length l) (least_index t l) → LeastBelow (HoldsAt d (x ∷ l)) (suc (length l)) (elim b [ true ↦ 0 | false ↦ suc (least_index t l) ])
      go true e m = here d x l e
      go false e m = later d x l (least_index t l) e m

  -- some of a list passes exactly where there is an index at which it does
  pub any-holds : (d : A) (l : List A) → any t l ≡ true → HoldsAt d l (least_index t l)
  any-holds d l e = ((index_least d l).found (ltb-true (least_index t l) (length l) (sym (any_index l) ∙ e))).holds

  pub holds-any : (d : A) (l : List A) (i : ℕ) → HoldsAt d l i → any t l ≡ true
  holds-any d l i p =
      any_index l ∙ cases (ltb (least_index t l) (length l)) (λ e. e) (λ e. absurd ((index_least d l).missing (ltb-false (least_index t l) (length l) e) i p))

-- ---- two of a list are so related exactly where one of them is so to one before it
module _ {A : Type 0} (r : A → A → Bool) where
  -- whether entry e, with its index, is so related to one that stands before it in a list
  unfoldable pub to_earlier : List A → ℕ × A → Bool
  to_earlier l e = any (λ y. r y e.1) (take e.0 l)

  any_either : (t s : A → Bool) (l : List A) → any (λ x. t x || s x) l ≡ (any t l || any s l)
  unfolding any
  any_either t s [] = refl
  any_either t s (x ∷ l) =
      any_or (λ x. t x || s x) x l ∙ ap (λ (b : Bool). (t x || s x) || b) (any_either t s l) ∙ regroup (t x) (s x) (any t l) (any s l)
      ∙ ap₂ (λ (a b : Bool). a || b) (sym (any_or t x l)) (sym (any_or s x l))
    where
      regroup : (a b c d : Bool) → ((a || b) || (c || d)) ≡ ((a || c) || (b || d))
      regroup true b c d = refl
      regroup false true true d = refl
      regroup false true false d = refl
      regroup false false c d = refl

  -- the entries of l, where m stands before it
  abbrev From : List A → List A → Type 0
  From m l = any (to_earlier (m ++ l)) (numbered_from (length m) l) ≡ (any (λ x. any (λ y. r y x) m) l || any_two r l)

  from_more : (m l : List A) (x : A) → From (m ++ (x ∷ [])) l → From m (x ∷ l)
  unfolding numbered_from to_earlier
  from_more m l x ih =
      any_or (to_earlier (m ++ x ∷ l)) (length m, x) (numbered_from (suc (length m)) l)
      ∙ ap₂ (λ (a b : Bool). a || b) (ap (any (λ y. r y x)) (take-append_seam m (x ∷ l))) rest
      ∙ regroup (any (λ y. r y x) m) (any to-m l) (any (r x) l) (any_two r l)
      ∙ ap₂ (λ (a b : Bool). a || b) (sym (any_or to-m x l)) (sym (any_two_or r x l))
    where
      to-m : A → Bool
      to-m z = any (λ y. r y z) m

      more : length (m ++ (x ∷ [])) ≡ suc (length m)
      more = length-append m (x ∷ []) ∙ add-one (length m)

      rest : any (to_earlier (m ++ x ∷ l)) (numbered_from (suc (length m)) l) ≡ ((any to-m l || any (r x) l) || any_two r l)
      rest =
          ap₂ (λ (k : List A) (n : ℕ). any (to_earlier k) (numbered_from n l)) (sym (append_assoc m (x ∷ []) l)) (sym more)
          ∙ ih
          ∙ ap (λ (b : Bool). b || any_two r l) (ap (λ (t : A → Bool). any t l) (λ i z. any_snoc (λ y. r y z) m x i) ∙ any_either to-m (r x) l)

      regroup : (a b c d : Bool) → (a || ((b || c) || d)) ≡ ((a || b) || (c || d))
      regroup true b c d = refl
      regroup false true c d = refl
      regroup false false c d = refl

  two_from : (m l : List A) → From m l
  unfolding any any_two numbered_from
  two_from m [] = refl
  two_from m (x ∷ l) = from_more m l x (two_from (m ++ (x ∷ [])) l)

  never : (l : List A) → any (λ (_ : A). false) l ≡ false
  unfolding any
  never [] = refl
  never (x ∷ l) = never l

  pub two_is : (l : List A) → any_two r l ≡ any (to_earlier l) (numbered l)
  unfolding numbered any
  two_is l = sym (two_from [] l ∙ ap (λ (b : Bool). b || any_two r l) (never l))

  -- ---- two of a list that are so related, by their places
  pub record Two (d : A) (l : List A) : Type 0 where
    pub low : ℕ
    pub high : ℕ
    pub order : low < high
    pub within : high < length l
    pub related : r (get_or l low d) (get_or l high d) ≡ true

  earlier_at : (d : A) (l : List A) (j : ℕ) → j < length l → to_earlier l (get_or (numbered l) j (0, d)) ≡ any (λ y. r y (get_or l j d)) (take j l)
  unfolding to_earlier
  earlier_at d l j h = ap (to_earlier l) (numbered-at l j (0, d) d h)

  pub two-holds : (d : A) (l : List A) → any_two r l ≡ true → Two d l
  two-holds d l e =
      let p = any-holds (to_earlier l) (0, d) (numbered l) (sym (two_is l) ∙ e) in
      let j = least_index (to_earlier l) (numbered l) in
      let h : j < length l = omega (arith, p.0, numbered-length l) in
      let q = any-holds (λ y. r y (get_or l j d)) d (take j l) (sym (earlier_at d l j h) ∙ p.1) in
      let i = least_index (λ y. r y (get_or l j d)) (take j l) in
      let b : i < j = omega (arith, q.0, length-take j l) in
      record { low = i; high = j; order = b; within = h; related = ap (λ (x : A). r x (get_or l j d)) (sym (get_or-take j l i d b)) ∙ q.1 }

  pub holds-two : (d : A) (l : List A) → Two d l → any_two r l ≡ true
  holds-two d l t =
      let j = t.high in
      let i = t.low in
      let n : i < length (take j l) = omega (arith, t.order, t.within, length-take j l) in
      two_is l
      ∙ holds-any (to_earlier l) (0, d) (numbered l) j (
        omega (arith, t.within, numbered-length l),
        earlier_at d l j t.within
            ∙ holds-any (λ y. r y (get_or l j d)) d (take j l) i (n, ap (λ (x : A). r x (get_or l j d)) (get_or-take j l i d t.order) ∙ t.related),
      )
