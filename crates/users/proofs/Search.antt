-- The search by halves, and the words of one edge, which stand between two bounds.
use Prim.Native.Nat.{ℕ, ◌+◌, ◌-◌, ◌≤◌, ◌<◌, min}
use native.Mathlib.Decide.{ℕ_discrete, dec_lt}
use native.Mathlib.Nat.{le_refl, add-zero}
use native.Mathlib.Omega.{arith}
use mathlib.Core.Path.{◌≡◌, refl, sym, ap, ap₂, subst, ◌∙◌}
use mathlib.Core.Bool.{Bool, true, false}
use mathlib.Core.Logic.{by_cases}
use mathlib.Core.List.{List, [], ◌++◌, map, append-nil}
use borrow.Author.Tests.{eq-eqb, ne_eqb, leb-true, leb-false}
use lib.Dec.{leb}
use mir.Val.{bool_byte}
use lib.ListN.{length, get_or, take, drop, take-append-drop, length-take, length-drop, length-map, get_or-eq_default}
use lib.Seq.{get_or-take, get_or-drop, length-take-le, drop-drop}
use Rattle.whole.specs.Lists.{keep}
use Rattle.whole.specs.laws.Places.{map_at}
use Rattle.edges.specs.held.Ascending.{Asc}
use Rattle.edges.specs.laws.Ascending.{places_asc}
use Rattle.words.specs.held.Words.{key_from, poly_from}
use Rattle.shell.specs.laws.Pairs.{of_edge}
use Rattle.users.specs.held.Users.{users_in, Halving, Bound, UserAt, Told}
use Rattle.users.specs.laws.Keeps.{keep_append, keep-none, keep_all}

-- ---- the search
module _ (words : List ℕ) (e : ℕ) where
  -- from where the words of edge e begin, those of the next edge begin at the first word that is past e
  module _ (from : ℕ) (b : Bound words e from) where
    pub past : Asc words → (i : ℕ) → i < length words → ((k : ℕ) → from ≤ k → k < i → key_from (get_or words k 0) ≤ e) → e < key_from (get_or words i 0) → Bound words (e + 1) i
    past a i h near t =
        record {
          within = omega arith;
          below = λ k l. by_cases (dec_lt k from) (λ lt. omega (arith, b.below k lt)) (λ n. omega (arith, near k (omega arith) l));
          above = λ k g l. let q : get_or words i 0 ≤ get_or words k 0 = places_asc words a i k g l in omega arith;
        }

    -- where the third word from there is past it, those of the two before it that are not are counted
    pub counted : Asc words → from + 2 < length words → e < key_from (get_or words (from + 2) 0) → (x y : ℕ) → x ≡ bool_byte (leb (key_from (get_or words from 0)) e) → y ≡ bool_byte (leb (key_from (get_or words (from + 1) 0)) e) → Bound words (e + 1) (from + x + y)
    counted a h t x y p q = go (leb (key_from (get_or words from 0)) e) (leb (key_from (get_or words (from + 1) 0)) e) refl refl p q
      where
        go : (u v : Bool) → leb (key_from (get_or words from 0)) e ≡ u → leb (key_from (get_or words (from + 1) 0)) e ≡ v → x ≡ bool_byte u → y ≡ bool_byte v → Bound words (e + 1) (from + x + y)
        go true true f g p q = subst (Bound words (e + 1)) (omega arith) (past a (from + 2) h (λ k l m. by_cases (ℕ_discrete k from) (λ z. rw z (leb-true _ _ f)) (λ n. rw (is_next k l m n) (leb-true _ _ g))) t)
          where
            is_next : (k : ℕ) → from ≤ k → k < from + 2 → (k ≡ from → ⊥) → k ≡ from + 1
            is_next k l m n = omega arith
        go true false f g p q = subst (Bound words (e + 1)) (omega arith) (past a (from + 1) (omega arith) (λ k l m. rw (is_from k l m) (leb-true _ _ f)) (leb-false _ _ g))
          where
            is_from : (k : ℕ) → from ≤ k → k < from + 1 → k ≡ from
            is_from k l m = omega arith
        go false true f g p q = let r : get_or words from 0 ≤ get_or words (from + 1) 0 = places_asc words a from (from + 1) (omega arith) (omega arith) in absurd (omega (arith, leb-false _ _ f, leb-true _ _ g))
        go false false f g p q = subst (Bound words (e + 1)) (omega arith) (past a from (omega arith) (λ k l m. absurd (omega arith)) (leb-false _ _ f))

  module _ (a : Asc words) (lo hi : ℕ) (s : Halving words e lo hi) (mid : ℕ) (g : lo ≤ mid) (h : mid < hi) where
    pub halving-up : key_from (get_or words mid 0) < e → Halving words e (mid + 1) hi
    halving-up t =
        record {
          order = omega arith;
          within = s.within;
          below = λ i b. let k : get_or words i 0 ≤ get_or words mid 0 = places_asc words a i mid (omega arith) (omega (arith, s.within)) in omega arith;
          above = s.above;
        }

    pub halving-down : e ≤ key_from (get_or words mid 0) → Halving words e lo mid
    halving-down t =
        record {
          order = g;
          within = omega (arith, s.within);
          below = s.below;
          above = λ i b c. let k : get_or words mid 0 ≤ get_or words i 0 = places_asc words a mid i b c in omega arith;
        }

  pub halving_done : (lo hi : ℕ) → Halving words e lo hi → hi ≤ lo → Bound words e lo
  halving_done lo hi s h =
      record { within = omega (arith, s.order, s.within); below = s.below; above = λ i b c. s.above i (omega (arith, s.order)) c }

-- ---- the words of one edge stand between two bounds

-- the elements between two places
abbrev between : ℕ → ℕ → List ℕ → List ℕ
between from to l = take (to - from) (drop from l)

split : (from to : ℕ) (l : List ℕ) → from ≤ to → l ≡ take from l ++ (between from to l ++ drop to l)
split from to l h =
    let z : from + (to - from) ≡ to = omega arith in
    sym (take-append-drop from l)
    ∙ ap (λ (k : List ℕ). take from l ++ k) (sym (take-append-drop (to - from) (drop from l)) ∙ ap (λ (k : List ℕ). between from to l ++ k) (drop-drop (to - from) from l ∙ ap (λ (k : ℕ). drop k l) z))

module _ (words : List ℕ) (e from to : ℕ) (a : Bound words e from) (b : Bound words (e + 1) to) where
  pub ordered : from ≤ to
  ordered = by_cases (dec_lt to from) (λ h. let x = a.below to h in let y = b.above to (le_refl to) (omega (arith, a.within)) in absurd (omega arith)) (λ h. omega arith)

  kept : keep (of_edge e) words ≡ between from to words
  kept =
      let low : keep (of_edge e) (take from words) ≡ [] = keep-none (of_edge e) (take from words) (λ i h. before i (rw length-take at h)) in
      let high : keep (of_edge e) (drop to words) ≡ [] = keep-none (of_edge e) (drop to words) (λ i h. behind i (rw length-drop at h)) in
      let mid : keep (of_edge e) (between from to words) ≡ between from to words = keep_all (of_edge e) (between from to words) (λ i h. inside i (rw (length-take, length-drop) at h)) in
      ap (keep (of_edge e)) (split from to words ordered)
      ∙ keep_append (of_edge e) (take from words) (between from to words ++ drop to words)
      ∙ ap₂ (λ (x y : List ℕ). x ++ y) low (keep_append (of_edge e) (between from to words) (drop to words) ∙ ap₂ (λ (x y : List ℕ). x ++ y) mid high)
      ∙ append-nil (between from to words)
    where
      before : (i : ℕ) → i < min from (length words) → of_edge e (get_or (take from words) i 0) ≡ false
      before i h =
          let k : i < from = omega arith in
          ap (of_edge e) (get_or-take from words i 0 k) ∙ ne_eqb e (key_from (get_or words i 0)) (λ q. let x = a.below i k in omega arith)

      behind : (i : ℕ) → i < length words - to → of_edge e (get_or (drop to words) i 0) ≡ false
      behind i h =
          ap (of_edge e) (get_or-drop to words i 0) ∙ ne_eqb e (key_from (get_or words (to + i) 0)) (λ q. let x = b.above (to + i) (omega arith) (omega arith) in omega arith)

      inside : (i : ℕ) → i < min (to - from) (length words - from) → of_edge e (get_or (between from to words) i 0) ≡ true
      inside i h =
          let k : i < to - from = omega arith in
          let x = a.above (from + i) (omega arith) (omega (arith, b.within)) in
          let y = b.below (from + i) (omega arith) in
          ap (of_edge e) (get_or-take (to - from) (drop from words) i 0 k ∙ get_or-drop from words i 0) ∙ eq-eqb e (key_from (get_or words (from + i) 0)) (omega arith)

  -- so the users are the polygons of the words between
  users_between : users_in e words ≡ map poly_from (between from to words)
  unfolding users_in
  users_between = ap (map poly_from) kept

  length-between : length (between from to words) ≡ to - from
  length-between = length-take-le (to - from) (drop from words) (simp length-drop (omega (arith, b.within)))

  users_count : length (users_in e words) ≡ to - from
  users_count = ap length users_between ∙ length-map (between from to words) poly_from ∙ length-between

  some_user : (i d : ℕ) → from + i < to → get_or (users_in e words) i d ≡ poly_from (get_or words (from + i) 0)
  some_user i d h =
      let k : i < to - from = omega arith in
      ap (λ (l : List ℕ). get_or l i d) users_between
      ∙ map_at poly_from (between from to words) i 0 d (omega (arith, length-between))
      ∙ ap poly_from (get_or-take (to - from) (drop from words) i 0 k ∙ get_or-drop from words i 0)

  no_user : (i d : ℕ) → (from + i < to → ⊥) → get_or (users_in e words) i d ≡ d
  no_user i d h = get_or-eq_default (users_in e words) d (omega (arith, users_count))

  user_is : (i r : ℕ) → UserAt words (from + i) to r → r ≡ get_or (users_in e words) i 65535
  user_is i r u = by_cases (dec_lt (from + i) to) (λ h. u.inside h ∙ sym (some_user i 65535 h)) (λ h. u.outside (omega arith) ∙ sym (no_user i 65535 h))

  pub told_of : (x y : ℕ) → UserAt words from to x → UserAt words (from + 1) to y → Told (users_in e words) (to - from) x y
  told_of x y u v = record { count_is = sym users_count; lowest_is = user_is 0 x (rw add-zero u); second_is = user_is 1 y v }
