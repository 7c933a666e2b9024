-- How often a number stands in a sorted list, by its runs.
use Rattle.std.specs.Prelude.{ℕ, zero, suc, ◌+◌, ◌-◌, ◌≤◌, ◌<◌, ◌≡◌, refl, Bool, true, false, ◌&&◌, not, ◌≢◌, List, [], ◌∷◌, map, eqb, length, get_or}
use Rattle.std.proofs.Common.{zero-le, suc-le-suc, suc-ne-zero, le_refl, le_antisymm, le_of_suc-le-suc, not-suc-le-zero, arith, sym, ap, ◌∙◌, true≢false, eqb-true, eq-eqb, ne_eqb}
use Rattle.std.proofs.Math.Decide.{ℕ_discrete, dec_lt}
use Rattle.std.proofs.Math.Logic.{by_cases}
use Rattle.std.proofs.lemmas.Bool.{eqb-false, not-true, not-false}
use Rattle.std.proofs.lemmas.List.{length-map}
use Rattle.std.proofs.Math.ListN.{get_or-map}
use Rattle.whole.specs.laws.Bools.{and_left, and_right}
use Rattle.whole.specs.laws.Stores.{cases}
use Rattle.edges.specs.Edges.{count}
use Rattle.edges.specs.laws.Tallies.{tally_cons, tally_nil, one_yes, one_no}
use Rattle.words.specs.held.Words.{key_from}
use Rattle.edges.specs.held.Ascending.{Asc}
use Rattle.edges.specs.laws.Ascending.{places_asc}
use Rattle.edges.specs.held.Steps.{SortedTo}
use Rattle.shell.specs.held.Runs.{RunEnd, Between, LeastAt, Twice}

-- a list's count of k, by whether its head is k
pub count_yes : (k x : ℕ) (l : List ℕ) → x ≡ k → count k (x ∷ l) ≡ suc (count k l)
unfolding count
count_yes k x l e = tally_cons (eqb k) x l ∙ omega (arith, one_yes (eqb k) x (eq-eqb k x (sym e)))

pub count_no : (k x : ℕ) (l : List ℕ) → x ≢ k → count k (x ∷ l) ≡ count k l
unfolding count
count_no k x l n = tally_cons (eqb k) x l ∙ omega (arith, one_no (eqb k) x (ne_eqb k x (λ e. n (sym e))))

count_nil : (k : ℕ) → count k [] ≡ 0
unfolding count
count_nil k = tally_nil (eqb k)

sorted_tail : (x : ℕ) (l : List ℕ) → SortedTo (x ∷ l) (length (x ∷ l)) → SortedTo l (length l)
sorted_tail x l s p q pq ql = s (suc p) (suc q) (suc-le-suc pq) (suc-le-suc ql)

pub count_le : (k x : ℕ) (l : List ℕ) → count k l ≤ count k (x ∷ l)
count_le k x l = by_cases (ℕ_discrete x k) (λ e. omega (arith, count_yes k x l e)) (λ n. omega (arith, count_no k x l n))

-- m + 1 places of a sorted list, from `at` to `end`, hold k
pub record Stretch (k : ℕ) (l : List ℕ) (m : ℕ) : Type 0 where
  pub at : ℕ
  pub end : ℕ
  pub long : end ≡ at + m
  pub within : end < length l
  pub left : get_or l at 0 ≡ k
  pub right : get_or l end 0 ≡ k

later : (k x m : ℕ) (l : List ℕ) → Stretch k l m → Stretch k (x ∷ l) m
later k x m l s = record {
  at = suc s.at;
  end = suc s.end;
  long = omega (arith, s.long);
  within = suc-le-suc s.within;
  left = s.left;
  right = s.right;
}

pub stretch : (k m : ℕ) (l : List ℕ) → SortedTo l (length l) → suc m ≤ count k l → Stretch k l m
stretch k m [] s h = absurd (none (count_nil k))
  where
    none : count k [] ≡ 0 → ⊥
    none e = omega arith
stretch k m (x ∷ l) s h = go m h (ℕ_discrete x k) (λ m' h'. stretch k m' l (sorted_tail x l s) h')
  where
    go : (m : ℕ) → suc m ≤ count k (x ∷ l) → Dec (x ≡ k) → ((m' : ℕ) → suc m' ≤ count k l → Stretch k l m') → Stretch k (x ∷ l) m
    go m h (no n) ih = later k x m l (ih m (omega (arith, count_no k x l n)))
    go zero h (yes e) ih = record { at = 0; end = 0; long = refl; within = suc-le-suc zero-le; left = e; right = e }
    go (suc m) h (yes e) ih =
        let r : Stretch k l m = ih m (omega (arith, count_yes k x l e)) in
        let w : m < length l = omega (arith, r.within, r.long) in
        let a : x ≤ get_or l m 0 = s 0 (suc m) zero-le (suc-le-suc w) in
        let b : get_or l m 0 ≤ get_or l r.end 0 = s (suc m) (suc r.end) (omega (arith, r.long)) (suc-le-suc r.within) in
        record { at = 0; end = suc m; long = omega arith; within = suc-le-suc w; left = e; right = omega (arith, r.right) }

-- the other way round
pub stretch_count : (k m : ℕ) (l : List ℕ) → SortedTo l (length l) → (i j : ℕ) → j ≡ i + m → j < length l → get_or l i 0 ≡ k → get_or l j 0 ≡ k → suc m ≤ count k l
stretch_count k m [] s i j e h a b = absurd (not-suc-le-zero h)
stretch_count k m (x ∷ l) s (suc i) zero e h a b = omega arith
stretch_count k m (x ∷ l) s (suc i) (suc j) e h a b =
    omega (arith, stretch_count k m l (sorted_tail x l s) i j (omega arith) (le_of_suc-le-suc h) a b, count_le k x l)
stretch_count k zero (x ∷ l) s zero j e h a b = omega (arith, count_yes k x l a)
stretch_count k (suc m) (x ∷ l) s zero zero e h a b = omega arith
stretch_count k (suc m) (x ∷ l) s zero (suc j) e h a b =
    let u : x ≤ get_or l 0 0 = s 0 1 zero-le (omega arith) in
    let v : get_or l 0 0 ≤ get_or l j 0 = s 1 (suc j) (omega arith) h in
    omega (arith, count_yes k x l a, stretch_count k m l (sorted_tail x l s) 0 j (omega arith) (le_of_suc-le-suc h) (omega arith) b)

-- a run that begins where a larger number than all before stands is as long as its number's count
pub run-count : (l : List ℕ) → SortedTo l (length l) → (i r : ℕ) → ((p : ℕ) → p < i → get_or l p 0 < get_or l i 0) → RunEnd l i r → count (get_or l i 0) l ≡ r - i
run-count l s i r fresh e = le_antisymm above below
  where
    below : r - i ≤ count (get_or l i 0) l
    below = omega (arith, stretch_count (get_or l i 0) (r - i - 1) l s i (r - 1) (omega (arith, e.above)) (omega (arith, e.above, e.within)) refl (e.same (r - 1) (omega (arith, e.above)) (omega (arith, e.above))), e.above)

    over : Stretch (get_or l i 0) l (r - i) → ⊥
    over t =
        by_cases (dec_lt t.at i) (λ h. omega (arith, fresh t.at h, t.left)) (λ h. past t (omega arith))
      where
        past : (t : Stretch (get_or l i 0) l (r - i)) → i ≤ t.at → ⊥
        past t h =
            let w : r ≤ t.end = omega (arith, t.long, e.above) in
            let u : get_or l r 0 ≤ get_or l t.end 0 = s r t.end w t.within in
            let v : get_or l i 0 ≤ get_or l r 0 = s i r (omega (arith, e.above)) (omega (arith, t.within)) in
            e.stop (omega (arith, t.within)) (omega (arith, t.right))

    above : count (get_or l i 0) l ≤ r - i
    above = by_cases (dec_lt (r - i) (count (get_or l i 0) l)) (λ h. absurd (over (stretch (get_or l i 0) (r - i) l s h))) (λ h. omega arith)

pub same-one : (l : List ℕ) (i k : ℕ) → i ≤ k → k < i + 1 → get_or l k 0 ≡ get_or l i 0
same-one l i k a b = ap (λ (n : ℕ). get_or l n 0) (omega arith)

pub same_more : (l : List ℕ) (i j : ℕ) → ((k : ℕ) → i ≤ k → k < j → get_or l k 0 ≡ get_or l i 0) → get_or l j 0 ≡ get_or l i 0 → (k : ℕ) → i ≤ k → k < j + 1 → get_or l k 0 ≡ get_or l i 0
same_more l i j h e k a b = by_cases (dec_lt k j) (λ lt. h k a lt) (λ n. ap (λ (x : ℕ). get_or l x 0) (omega arith) ∙ e)

-- what holds where a search of runs has come to i
pub record Finding (least most : ℕ) (l : List ℕ) (i : ℕ) : Type 0 where
  pub within : i ≤ length l
  pub fresh : i < length l → (p : ℕ) → p < i → get_or l p 0 < get_or l i 0
  pub passed : (k : ℕ) → Between least most l k → (p : ℕ) → p < i → get_or l p 0 ≢ k

pub find_none : (least most : ℕ) (l : List ℕ) → Finding least most l 0
find_none least most l = record {
  within = zero-le;
  fresh = λ _ p h. absurd (not-suc-le-zero h);
  passed = λ k b p h. absurd (not-suc-le-zero h);
}

module _ (least most : ℕ) (l : List ℕ) (i : ℕ) (s : SortedTo l (length l)) (some : 1 ≤ least) (f : Finding least most l i) where
  place : (k : ℕ) → Between least most l k → Stretch k l 0
  place k b = stretch k 0 l s (omega (arith, b.enough))

  pub find_out : length l ≤ i → LeastAt (Between least most l) l i
  find_out h = record {
    within = f.within;
    found = λ lt. absurd (no_both lt);
    missing = λ _ k b. let t = place k b in f.passed k b t.end (omega (arith, t.within)) t.right;
  }
    where
      no_both : i < length l → ⊥
      no_both lt = omega arith

  module _ (r : ℕ) (h : i < length l) (e : RunEnd l i r) where
    long : count (get_or l i 0) l ≡ r - i
    long = run-count l s i r (f.fresh h) e

    pub find-here : least ≤ r - i → r - i ≤ most → LeastAt (Between least most l) l i
    find-here a b = record {
      within = f.within;
      found = λ _. record { holds = record { enough = omega (arith, long); few = omega (arith, long) }; first = first };
      missing = λ g. absurd (no_both g);
    }
      where
        no_both : length l ≤ i → ⊥
        no_both lt = omega arith

        first : (j : ℕ) → Between least most l j → get_or l i 0 ≤ j
        first j b =
            let t = place j b in
            by_cases (dec_lt t.end i) (λ lt. absurd (f.passed j b t.end lt t.right)) (λ n. omega (arith, t.right, s i t.end (omega arith) t.within))

    pub find-more : ((least ≤ r - i) × (r - i ≤ most) → ⊥) → Finding least most l r
    find-more bad = record {
      within = e.within;
      fresh = λ lt p pr. fresh lt p pr;
      passed = λ k b p pr. by_cases (dec_lt p i) (λ lt. f.passed k b p lt) (λ n eq. not-here k b (sym (e.same p (omega arith) pr) ∙ eq));
    }
      where
        not-here : (k : ℕ) → Between least most l k → get_or l i 0 ≡ k → ⊥
        not-here k b eq = let d : count k l ≡ r - i = rw eq at long in bad (omega (arith, b.enough), omega (arith, b.few))

        fresh : r < length l → (p : ℕ) → p < r → get_or l p 0 < get_or l r 0
        fresh lt p pr =
            let u : get_or l i 0 ≤ get_or l r 0 = s i r (omega (arith, e.above)) lt in
            let v : get_or l i 0 < get_or l r 0 = by_cases (dec_lt (get_or l i 0) (get_or l r 0)) (λ x. x) (λ n. absurd (e.stop lt (omega arith))) in
            by_cases (dec_lt p i) (λ x. omega (arith, f.fresh h p x)) (λ n. omega (arith, e.same p (omega arith) pr))

-- what holds where a sweep by pairs has come to i: no search for counts other than 2 would have stopped
abbrev pub Pairing : List ℕ → ℕ → Type 0
Pairing l i = (least most : ℕ) → 1 ≤ least → ((least ≤ 2) × (2 ≤ most) → ⊥) → Finding least most l i

pub pairing_none : (l : List ℕ) → Pairing l 0
pairing_none l least most some bad = find_none least most l

-- the run of two words that begins at i
pub pair_run : (l : List ℕ) (i : ℕ) → i + 1 < length l → get_or l (i + 1) 0 ≡ get_or l i 0 → (i + 2 < length l → get_or l (i + 2) 0 ≡ get_or l i 0 → ⊥) → RunEnd l i (i + 2)
pair_run l i h e d = record {
  above = omega arith;
  within = omega arith;
  same = λ k a b. same_more l i (i + 1) (same-one l i) e k a (omega arith);
  stop = d;
}

module _ (l : List ℕ) (i : ℕ) (s : SortedTo l (length l)) (f : Pairing l i) where
  pub pairing_more : i < length l → RunEnd l i (i + 2) → Pairing l (i + 2)
  pairing_more h e least most some bad = find-more least most l i s some (f least most some bad) (i + 2) h e (λ b. bad (omega (arith, b.0), omega (arith, b.1)))

  pub twice-paired : length l ≤ i → Twice l
  twice-paired h k some =
      by_cases (ℕ_discrete (count k l) 2) (λ e. e)
      (λ n. absurd ((find_out (count k l) (count k l) l i s some (f (count k l) (count k l) some (λ b. n (le_antisymm b.0 b.1))) h).missing h k (record { enough = le_refl (count k l); few = le_refl (count k l) })))

pub twice-none : (l : List ℕ) → Twice l → (least most : ℕ) → 1 ≤ least → ((least ≤ 2) × (2 ≤ most) → ⊥) → LeastAt (Between least most l) l (length l)
twice-none l t least most some bad = record {
  within = le_refl (length l);
  found = λ lt. absurd (no_both lt);
  missing = λ _ k b. bad (omega (arith, b.enough, two k b), omega (arith, b.few, two k b));
}
  where
    no_both : length l < length l → ⊥
    no_both lt = omega arith

    two : (k : ℕ) → Between least most l k → count k l ≡ 2
    two k b = t k (omega (arith, b.enough))

-- the keys of words, place by place
pub key_at : (l : List ℕ) (i : ℕ) → get_or (map key_from l) i 0 ≡ key_from (get_or l i 0)
key_at l i = get_or-map key_from l i 0

pub keys_same : (l : List ℕ) (i j a b : ℕ) → a ≡ key_from (get_or l j 0) → b ≡ key_from (get_or l i 0) → a ≡ b → get_or (map key_from l) j 0 ≡ get_or (map key_from l) i 0
keys_same l i j a b x y e = key_at l j ∙ (sym x ∙ (e ∙ (y ∙ sym (key_at l i))))

pub keys_differ : (l : List ℕ) (i j a b : ℕ) → a ≡ key_from (get_or l j 0) → b ≡ key_from (get_or l i 0) → (a ≡ b → ⊥) → get_or (map key_from l) j 0 ≡ get_or (map key_from l) i 0 → ⊥
keys_differ l i j a b x y d e = d (x ∙ (sym (key_at l j) ∙ (e ∙ (key_at l i ∙ sym y))))

-- words in order have keys in order
pub keys_sorted : (l : List ℕ) → Asc l → SortedTo (map key_from l) (length (map key_from l))
keys_sorted l a p q h k = rw (key_at l p, key_at l q) (le-key (get_or l p 0) (get_or l q 0) (places_asc l a p q h (rw length-map at k)))
  where
    le-key : (x y : ℕ) → x ≤ y → key_from x ≤ key_from y
    le-key x y h = omega arith

pub key_below : (l : List ℕ) (i : ℕ) → i < length l → i < length (map key_from l)
key_below l i h = rw length-map h

pub key_above : (l : List ℕ) (i : ℕ) → length l ≤ i → length (map key_from l) ≤ i
key_above l i h = rw length-map h

-- what a sweep by pairs knows at i, where `two` says whether all before were pairs
pub record Sweeping (l : List ℕ) (i : ℕ) (two : Bool) : Type 0 where
  pub within : i ≤ length l
  pub ended : i ≡ length l → l ≡ []
  pub pairs : two ≡ true → Pairing (map key_from l) i
  pub others : two ≡ false → Twice (map key_from l) → ⊥

pub sweeping_none : (l : List ℕ) → Sweeping l 0 true
sweeping_none l = record { within = zero-le; ended = none l; pairs = λ _. pairing_none (map key_from l); others = λ e. absurd (true≢false e) }
  where
    none : (l : List ℕ) → 0 ≡ length l → l ≡ []
    none [] e = refl
    none (x ∷ l) e = absurd (suc-ne-zero (length l) (sym e))

module _ (l : List ℕ) (asc : Asc l) (i : ℕ) (two : Bool) (f : Sweeping l i two) (h : i < length l) where
  -- a word whose edge has no other
  lone_fails : two ≡ true → (i + 1 < length (map key_from l) → get_or (map key_from l) (i + 1) 0 ≡ get_or (map key_from l) i 0 → ⊥) → Twice (map key_from l) → ⊥
  lone_fails e stop t =
      let run : RunEnd (map key_from l) i (i + 1) = record { above = omega arith; within = omega (arith, key_below l i h); same = same-one (map key_from l) i; stop = stop } in
      let fresh = (f.pairs e 1 1 (le_refl 1) (λ b. never b.1)).fresh (key_below l i h) in
      let one : count (get_or (map key_from l) i 0) (map key_from l) ≡ 1 = run-count (map key_from l) (keys_sorted l asc) i (i + 1) fresh run ∙ omega arith in
      let both : count (get_or (map key_from l) i 0) (map key_from l) ≡ 2 = t (get_or (map key_from l) i 0) (omega arith) in
      omega arith
    where
      never : 2 ≤ 1 → ⊥
      never le = omega arith

  last_fails : length l ≡ i + 1 → Twice (map key_from l) → ⊥
  last_fails e = cases two (λ y. lone_fails y (λ lt. absurd (past (rw length-map at lt)))) (λ n. f.others n)
    where
      past : i + 1 < length l → ⊥
      past lt = omega arith

  module _ (a b : ℕ) (ha : a ≡ key_from (get_or l i 0)) (hb : b ≡ key_from (get_or l (i + 1) 0)) (h₁ : i + 1 < length l) where
    pair-here : (two && eqb a b) ≡ true → (i + 2 < length (map key_from l) → get_or (map key_from l) (i + 2) 0 ≡ get_or (map key_from l) i 0 → ⊥) → Pairing (map key_from l) (i + 2)
    pair-here e stop =
        let same : b ≡ a = sym (eqb-true a b (and_right two (eqb a b) e)) in
        pairing_more (map key_from l) i (keys_sorted l asc) (f.pairs (and_left two (eqb a b) e)) (key_below l i h) (pair_run (map key_from l) i (key_below l (i + 1) h₁) (keys_same l i (i + 1) b a hb ha same) stop)

    pair-fails : (two && eqb a b) ≡ false → Twice (map key_from l) → ⊥
    pair-fails e = cases two (λ y. lone_fails y (λ _. keys_differ l i (i + 1) b a hb ha (λ z. eqb-false a b (sym (ap (λ (t : Bool). t && eqb a b) y) ∙ e) (sym z)))) (λ n. f.others n)

    pub pair-last : i + 2 ≡ length l → ((two && eqb a b) ≡ true → Twice (map key_from l)) × ((two && eqb a b) ≡ false → Twice (map key_from l) → ⊥)
    pair-last z = (
      (λ e. twice-paired (map key_from l) (i + 2) (keys_sorted l asc) (pair-here e (λ lt. absurd (past (rw length-map at lt)))) (key_above l (i + 2) (omega arith))),
      pair-fails,
    )
      where
        past : i + 2 < length l → ⊥
        past lt = omega arith

    pub pair-next : (c : ℕ) → c ≡ key_from (get_or l (i + 2) 0) → i + 2 < length l → Sweeping l (i + 2) ((two && eqb a b) && not (eqb b c))
    pair-next c hc h₂ = record {
      within = omega arith;
      ended = λ e. absurd (short e);
      pairs = λ e.
          let pair : (two && eqb a b) ≡ true = and_left (two && eqb a b) (not (eqb b c)) e in
          pair-here pair (λ _. keys_differ l i (i + 2) c a hc ha (λ z. eqb-false b c (not-true (eqb b c) (and_right (two && eqb a b) (not (eqb b c)) e)) (sym (eqb-true a b (and_right two (eqb a b) pair)) ∙ sym z)));
      others = λ e. cases (two && eqb a b) (λ y. three y (not-false (eqb b c) (sym (ap (λ (t : Bool). t && not (eqb b c)) y) ∙ e))) pair-fails;
    }
      where
        short : i + 2 ≡ length l → ⊥
        short e = omega arith

        three : (two && eqb a b) ≡ true → eqb b c ≡ true → Twice (map key_from l) → ⊥
        three y z t =
            let same : get_or (map key_from l) (i + 2) 0 ≡ get_or (map key_from l) i 0 = keys_same l i (i + 2) c a hc ha (sym (eqb-true a b (and_right two (eqb a b) y) ∙ eqb-true b c z)) in
            let many : 3 ≤ count (get_or (map key_from l) i 0) (map key_from l) = stretch_count (get_or (map key_from l) i 0) 2 (map key_from l) (keys_sorted l asc) i (i + 2) refl (key_below l (i + 2) h₂) refl same in
            let both : count (get_or (map key_from l) i 0) (map key_from l) ≡ 2 = t (get_or (map key_from l) i 0) (omega arith) in
            omega arith

-- a sweep that ends without a last pair: no words, or one more than pairs
pub unpaired : (l : List ℕ) → Asc l → (i : ℕ) (two : Bool) → Sweeping l i two → length l ≤ i + 2 → (i + 2 ≡ length l → ⊥) → (eqb i (length l) ≡ true → Twice (map key_from l)) × (eqb i (length l) ≡ false → Twice (map key_from l) → ⊥)
unpaired l asc i two f h n = (
  (λ e k some. absurd (none k (rw (f.ended (eqb-true i (length l) e)) at some))),
  (λ e. last_fails l asc i two f (below (eqb-false i (length l) e)) (next (eqb-false i (length l) e))),
)
  where
    none : (k : ℕ) → 1 ≤ count k [] → ⊥
    none k le = omega (arith, count_nil k)

    below : (i ≡ length l → ⊥) → i < length l
    below d = omega (arith, f.within)

    next : (i ≡ length l → ⊥) → length l ≡ i + 1
    next d = omega (arith, f.within)
