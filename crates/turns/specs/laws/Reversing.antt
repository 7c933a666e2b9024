-- A part of a list reversed in its place, a part written there, and one element of a list told by its index stored anew.
use Prim.Native.Nat.{ℕ, zero, suc, ◌+◌, ◌-◌, ◌≤◌, ◌<◌}
use Rattle.std.specs.Prelude.{◌≡◌, refl, ltb, get_or, take, drop}
use Rattle.std.proofs.Common.{append_assoc, sym, ap, ◌∙◌, arith, add-one, length-set, length-drop, drop-cons, get_or-drop, take-suc}
use mathlib.Core.List.{List, [], ◌∷◌, ◌++◌, reverse, reverse-append}
use borrow.Author.Tests.{ltb-true, ltb-false}
use Rattle.std.proofs.Math.ListN.{length, set}
use Rattle.std.proofs.lemmas.List.{drop-drop, length-reverse, set_at, set-append_left, set_comm, set-get_or}
use Rattle.std.proofs.lemmas.List.Edits.{sets, sets-eq}
use borrow.Rule.Slice.PartMut.{put_mid}
use Rattle.whole.specs.laws.Stores.{sets_append, cases}
use Rattle.whole.specs.Lists.{tab}
use Rattle.whole.specs.laws.Places.{tab-length}
use Rattle.building.specs.held.Rings.{cut}
use Rattle.building.specs.laws.Lists.{tab_ext, length_cut, cut-set_past, cut-set-before}

module _ {A : Type 0} where
  pub tab-set : (f g : ℕ → A) (n p : ℕ) → p < n → ((q : ℕ) → q < n → (q ≡ p → ⊥) → g q ≡ f q) → tab g n ≡ set (tab f n) p (g p)
  unfolding tab
  tab-set f g zero p h k = absurd (omega arith)
  tab-set f g (suc n) p h k =
      cases (ltb p n)
      (λ t. let b : p < n = ltb-true p n t in
      let i : p < length (tab f n) = rw tab-length b in
      let r : tab g n ≡ set (tab f n) p (g p) = tab-set f g n p b (λ q u v. k q (omega arith) v) in
      let l : g n ≡ f n = k n (omega arith) (λ e. omega arith) in
      rw (r, l) (sym (set-append_left (tab f n) (f n ∷ []) p (g p) i)))
      (λ t. let e : p ≡ n = omega (arith, ltb-false p n t) in
      let r : tab g n ≡ tab f n = tab_ext g f n (λ q u. k q (omega arith) (λ v. omega arith)) in
      rw (e, r) (sym (set_at (tab f n) (f n) [] (g n) n (tab-length f n))))

  pub cut_cons : (a e : ℕ) (l : List A) (d : A) → a < e → e ≤ length l → cut a e l ≡ get_or l a d ∷ cut (suc a) e l
  cut_cons a e l d h g =
      let i : a < length l = omega arith in
      let n : e - a ≡ suc (e - suc a) = omega arith in
      rw (n, drop-cons l a d i)

  pub cut-snoc : (a e : ℕ) (l : List A) (d : A) → a ≤ e → e < length l → cut a (suc e) l ≡ cut a e l ++ (get_or l e d ∷ [])
  cut-snoc a e l d h g =
      let n : suc e - a ≡ suc (e - a) = omega arith in
      let i : e - a < length (drop a l) = simp length-drop (omega arith) in
      let k : a + (e - a) ≡ e = omega arith in
      rw (n, take-suc (drop a l) (e - a) d i, get_or-drop a l (e - a) d, k)

  -- ---- runs of stores
  pub set-sets : (l vs : List A) (i j : ℕ) (v : A) → i + length vs ≤ j → set (sets l i vs) j v ≡ sets (set l j v) i vs
  set-sets l [] i j v h = refl
  set-sets l (x ∷ vs) i j v h =
      set-sets (set l i x) vs (suc i) j v (omega arith) ∙ ap (λ (r : List A). sets r (suc i) vs) (set_comm l i j x v (λ e. omega arith))

  -- ---- reversing a part in its place
  reverse-ends : (x y : A) (m : List A) → reverse (x ∷ (m ++ (y ∷ []))) ≡ y ∷ (reverse m ++ (x ∷ []))
  reverse-ends x y m = reverse-append (x ∷ m) (y ∷ []) ∙ ap (λ (r : List A). y ∷ r) (reverse-append (x ∷ []) m)

  -- the two ends change places; the rest is still to be reversed
  pub swap-turn : (l : List A) (i k : ℕ) (d : A) → i < k → k < length l
      → sets (set (set l i (get_or l k d)) k (get_or l i d)) (suc i) (reverse (cut (suc i) k (set (set l i (get_or l k d)) k (get_or l i d)))) ≡ sets l i (reverse (cut i (suc k) l))
  swap-turn l i k d h g =
      let x = get_or l i d in
      let y = get_or l k d in
      let m = cut (suc i) k l in
      let same : cut (suc i) k (set (set l i y) k x) ≡ m = cut-set_past (suc i) k k (set l i y) x (omega arith) (omega arith) ∙ cut-set-before (suc i) k i l y (omega arith) in
      let whole : cut i (suc k) l ≡ x ∷ (m ++ (y ∷ [])) = cut_cons i (suc k) l d (omega arith) (omega arith) ∙ ap (λ (r : List A). x ∷ r) (cut-snoc (suc i) k l d (omega arith) g) in
      let n : length (reverse m) ≡ k - suc i = length-reverse m ∙ length_cut (suc i) k l (omega arith) in
      let at : suc i + length (reverse m) ≡ k = omega arith in
      ap (λ (r : List A). sets (set (set l i y) k x) (suc i) (reverse r)) same
      ∙ sym (set-sets (set l i y) (reverse m) (suc i) k x (omega arith))
      ∙ ap (λ (j : ℕ). set (sets (set l i y) (suc i) (reverse m)) j x) (sym at)
      ∙ sets_append (reverse m) (x ∷ []) (set l i y) (suc i)
      ∙ sym (ap (λ (r : List A). sets l i r) (ap reverse whole ∙ reverse-ends x y m))

  -- at most one is left
  pub swap_done : (l : List A) (i j : ℕ) (d : A) → i ≤ j → j ≤ i + 1 → j ≤ length l → sets l i (reverse (cut i j l)) ≡ l
  swap_done l i j d h g w =
      cases (ltb i j)
      (λ t. let e : j ≡ suc i = omega (arith, ltb-true i j t) in
      let z : suc i - suc i ≡ 0 = omega arith in
      let one : cut i (suc i) l ≡ get_or l i d ∷ [] = cut_cons i (suc i) l d (omega arith) (omega (arith, ltb-true i j t)) ∙ ap (λ (n : ℕ). get_or l i d ∷ take n (drop (suc i) l)) z in
      rw e (ap (λ (r : List A). sets l i (reverse r)) one ∙ set-get_or l i d))
      (λ t. let e : j - i ≡ 0 = omega (arith, ltb-false i j t) in rw e)

-- ---- the loop that reverses a part in its place: what is done, and what is still to be reversed
pub record Reversing (l₀ : List ℕ) (from to : ℕ) (l : List ℕ) (i j : ℕ) : Type 0 where
  pub size : length l ≡ length l₀
  pub apart : i ≤ j
  pub inside : j ≤ length l₀
  pub rest : sets l i (reverse (cut i j l)) ≡ sets l₀ from (reverse (cut from to l₀))

pub reversing_none : (l : List ℕ) (from to : ℕ) → from ≤ to → to ≤ length l → Reversing l from to l from to
reversing_none l from to h g = record { size = refl; apart = h; inside = g; rest = refl }

module _ (l₀ : List ℕ) (from to : ℕ) (l : List ℕ) (i j : ℕ) (r : Reversing l₀ from to l i j) where
  pub reversing_more : i + 1 < j → Reversing l₀ from to (set (set l i (get_or l (j - 1) 0)) (j - 1) (get_or l i 0)) (i + 1) (j - 1)
  reversing_more h =
      let s : length l ≡ length l₀ = r.size in
      let w : j ≤ length l₀ = r.inside in
      let e : suc (j - 1) ≡ j = omega arith in
      let t : sets l i (reverse (cut i (suc (j - 1)) l)) ≡ sets l₀ from (reverse (cut from to l₀)) = rw e r.rest in
      record {
        size = length-set (set l i (get_or l (j - 1) 0)) (j - 1) (get_or l i 0) ∙ length-set l i (get_or l (j - 1) 0) ∙ s;
        apart = omega arith;
        inside = omega arith;
        rest = rw add-one (swap-turn l i (j - 1) 0 (omega arith) (omega arith) ∙ t);
      }

  pub reversing_done : j ≤ i + 1 → l ≡ sets l₀ from (reverse (cut from to l₀))
  reversing_done h = sym (swap_done l i j 0 r.apart h (omega (arith, r.size, r.inside))) ∙ r.rest

module _ {A : Type 0} where
  -- a part of the list after a write to it
  pub put_mid-sets : (l ys vs : List A) (a k : ℕ) → ys ≡ vs → k ≡ length vs → a + k ≤ length l → put_mid a k l ys ≡ sets l a vs
  put_mid-sets l ys vs a k e n h = let w : a + length vs ≤ length l = omega arith in rw (e, n, sets-eq vs l a w, drop-drop (length vs) a l, append_assoc)
