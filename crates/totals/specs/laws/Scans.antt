-- The report's loops over the first n findings and parts.
use Prim.Native.Nat.{ℕ, zero, suc, ◌+◌, ◌≤◌, ◌<◌}
use Rattle.std.proofs.Common.{arith, add-one, zero-add, sym, ◌∙◌, subst, lt-ltb, drop-cons, get_or-take, length-take-le, take-suc, SFits, of_z, to_z, to_z-of_z}
use Rattle.std.specs.Prelude.{◌≡◌, refl, Bool, List, [], ◌∷◌, ◌++◌, ltb, length, get_or, take, drop, ℤ, pos, ◌+ℤ◌}
use Rattle.std.proofs.Math.Path.{ap}
use Rattle.std.proofs.Math.Bool.{true, false}
use Rattle.std.proofs.Math.Seq.{drop-length}
use Rattle.std.proofs.Math.IntN.{+ℤ_idl, +ℤ_idr, +ℤ_assoc}
use Rattle.std.specs.Int.{w64}
use Rattle.whole.specs.laws.Size.{small_fits}
use Rattle.whole.specs.Lists.{tally, sum_of}
use Rattle.whole.specs.laws.Search.{drop-next, drop_end}
use Rattle.totals.specs.held.Scans.{lowest, sum_up_to, Summable}

pub record Searched (l : List ℕ) (n i : ℕ) : Type 0 where
  pub passed : i ≤ n
  pub is : i + lowest (drop i (take n l)) ≡ lowest (take n l)

pub record Counted (l : List ℕ) (i count : ℕ) : Type 0 where
  pub passed : i ≤ length l
  pub few : count ≤ i
  pub is : count + tally (ltb 0) (drop i l) ≡ tally (ltb 0) l

pub above : (x : ℕ) → (x ≡ 0 → ⊥) → ltb 0 x ≡ true
above x e = lt-ltb 0 x (pos_of x e)
  where
    pos_of : (x : ℕ) → (x ≡ 0 → ⊥) → 0 < x
    pos_of zero e = absurd (e refl)
    pos_of (suc x) e = omega arith

module _ (l : List ℕ) (n : ℕ) (w : n ≤ length l) where
  whole : length (take n l) ≡ n
  whole = length-take-le n l w

  front : (i : ℕ) → i < n → drop i (take n l) ≡ get_or l i 0 ∷ drop (suc i) (take n l)
  front i h = drop-cons (take n l) i 0 (rw whole h) ∙ ap (λ (x : ℕ). x ∷ drop (suc i) (take n l)) (get_or-take n l i 0 h)

  none_left : (i : ℕ) → i ≤ n → n ≤ i → drop i (take n l) ≡ []
  none_left i h g = let e : i ≡ length (take n l) = omega (arith, whole) in ap (λ (k : ℕ). drop k (take n l)) e ∙ drop-length (take n l)

  pub searched_none : Searched l n 0
  searched_none = record { passed = omega arith; is = zero-add (lowest (take n l)) }

  module _ (i : ℕ) (h : i < n) where
    pub searched-more : Searched l n i → get_or l i 0 ≡ 0 → Searched l n (i + 1)
    unfolding lowest
    searched-more s e =
        let f : lowest (drop i (take n l)) ≡ suc (lowest (drop (i + 1) (take n l))) = rw (add-one, front i h, e) in
        record { passed = omega arith; is = omega (arith, s.is) }

    pub searched-found : Searched l n i → (get_or l i 0 ≡ 0 → ⊥) → i ≡ lowest (take n l)
    unfolding lowest
    searched-found s e =
        let f : lowest (drop i (take n l)) ≡ 0 = ap lowest (front i h) ∙ ap (λ (b : Bool). elim b [ true ↦ 0 | false ↦ suc (lowest (drop (suc i) (take n l))) ]) (above (get_or l i 0) e) in
        omega (arith, s.is)

  pub searched_done : (i : ℕ) → Searched l n i → n ≤ i → i ≡ lowest (take n l)
  unfolding lowest
  searched_done i s h =
      let f : lowest (drop i (take n l)) ≡ 0 = ap lowest (none_left i s.passed h) in
      omega (arith, s.is)

-- ---- the loop that counts a part
module _ (l : List ℕ) where
  pub counted_none : Counted l 0 0
  counted_none = record { passed = omega arith; few = omega arith; is = zero-add (tally (ltb 0) l) }

  module _ (i : ℕ) (h : i < length l) (count : ℕ) (s : Counted l i count) where
    pub counted_skip : get_or l i 0 ≡ 0 → Counted l (i + 1) count
    unfolding tally
    counted_skip e =
        let f : tally (ltb 0) (drop i l) ≡ tally (ltb 0) (drop (i + 1) l) = rw (drop-next l i 0 h, e) in
        record { passed = omega arith; few = omega (arith, s.few); is = omega (arith, s.is) }

    pub counted_more : (get_or l i 0 ≡ 0 → ⊥) → Counted l (i + 1) (count + 1)
    unfolding tally
    counted_more e =
        let f : tally (ltb 0) (drop i l) ≡ suc (tally (ltb 0) (drop (i + 1) l)) =
        ap (tally (ltb 0)) (drop-next l i 0 h) ∙ ap (λ (b : Bool). elim b [ true ↦ suc (tally (ltb 0) (drop (i + 1) l)) | false ↦ tally (ltb 0) (drop (i + 1) l) ]) (above (get_or l i 0) e) in
        record { passed = omega arith; few = omega (arith, s.few); is = omega (arith, s.is) }

  pub counted_done : (i count : ℕ) → Counted l i count → length l ≤ i → count ≡ tally (ltb 0) l
  unfolding tally
  counted_done i count s h =
      let f : tally (ltb 0) (drop i l) ≡ 0 = ap (tally (ltb 0)) (drop_end l i (omega (arith, s.passed))) in
      omega (arith, s.is)

-- ---- the lowest is the length exactly where there is none
pub lowest_is_length : (l : List ℕ) → tally (ltb 0) l ≡ 0 → lowest l ≡ length l
unfolding lowest tally
lowest_is_length [] e = refl
lowest_is_length (x ∷ l) e = go (ltb 0 x) refl e (lowest_is_length l)
  where
    go : (b : Bool) → ltb 0 x ≡ b → tally (ltb 0) (x ∷ l) ≡ 0 → (tally (ltb 0) l ≡ 0 → lowest l ≡ length l) → lowest (x ∷ l) ≡ length (x ∷ l)
    go true q e ih = absurd (let f : suc (tally (ltb 0) l) ≡ 0 = rw (q, tally) at e in omega arith)
    go false q e ih = let f : tally (ltb 0) l ≡ 0 = rw (q, tally) at e in rw (q, lowest) (ap suc (ih f))

pub lowest-inside : (l : List ℕ) → (tally (ltb 0) l ≡ 0 → ⊥) → lowest l < length l
unfolding lowest tally
lowest-inside [] e = absurd (e refl)
lowest-inside (x ∷ l) e = go (ltb 0 x) refl e (lowest-inside l)
  where
    go : (b : Bool) → ltb 0 x ≡ b → (tally (ltb 0) (x ∷ l) ≡ 0 → ⊥) → ((tally (ltb 0) l ≡ 0 → ⊥) → lowest l < length l) → lowest (x ∷ l) < length (x ∷ l)
    go true q e ih = rw (q, lowest) (omega arith)
    go false q e ih = let f : lowest l < length l = ih (λ z. e (rw (q, tally) z)) in rw (q, lowest) (omega arith)

pub sum_append : (s t : List ℤ) → sum_of (λ z. z) (s ++ t) ≡ sum_of (λ z. z) s +ℤ sum_of (λ z. z) t
unfolding sum_of
sum_append [] t = sym (+ℤ_idl (sum_of (λ z. z) t))
sum_append (x ∷ s) t = ap (λ (z : ℤ). x +ℤ z) (sum_append s t) ∙ sym (+ℤ_assoc x (sum_of (λ z. z) s) (sum_of (λ z. z) t))

-- one more
pub sum_more : (l : List ℤ) (i : ℕ) → i < length l → sum_up_to l (i + 1) ≡ sum_up_to l i +ℤ get_or l i (pos 0)
unfolding sum_of
sum_more l i h =
    ap (λ (n : ℕ). sum_up_to l n) (add-one i)
    ∙ ap (sum_of (λ z. z)) (take-suc l i (pos 0) h)
    ∙ sum_append (take i l) (get_or l i (pos 0) ∷ [])
    ∙ ap (λ (z : ℤ). sum_up_to l i +ℤ z) (+ℤ_idr (get_or l i (pos 0)))

-- the loop that sums the parts: a is the sum so far and b the next part, as the machine reads them
module _ (parts : List ℤ) (n i : ℕ) (s : Summable parts n) (h : i < n) (a b : ℤ) (e : a ≡ sum_up_to parts i) (f : b ≡ get_or parts i (pos 0)) where
  sum_is : a +ℤ b ≡ sum_up_to parts (i + 1)
  sum_is = (λ j. e j +ℤ f j) ∙ sym (sum_more parts i (omega (arith, s.size, s.few)))

  pub sum_fits : SFits w64 (a +ℤ b)
  sum_fits = subst (λ (z : ℤ). SFits w64 z) (sym sum_is) (small_fits tt (s.small (i + 1) (omega arith)))

  pub sum-next : to_z w64 (of_z w64 (a +ℤ b)) ≡ sum_up_to parts (i + 1)
  sum-next = to_z-of_z sum_fits ∙ sum_is
