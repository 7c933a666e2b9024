-- Marks over nodes: what a store does to them, what a test tells of them, and what words hold.
use Rattle.std.specs.Prelude.{ℕ, zero, suc, ◌*◌, ◌/◌, ◌≤◌, ◌<◌, ◌≡◌, refl, true, false, ◌⊎◌, ◌≢◌, List, [], ◌∷◌, eqb, length, get_or, set, replicate}
use Rattle.std.proofs.Common.{suc-le-suc, le_of_suc-le-suc, not-suc-le-zero, suc-ne-zero, arith, sym, ap, ◌∙◌, inl, inr, ⊎_elim, eqb-true, get_or-set_same, get_or-set_other}
use Rattle.std.proofs.Math.Decide.{ℕ_discrete, dec_lt}
use Rattle.std.proofs.Math.Logic.{by_cases}
use Rattle.std.proofs.lemmas.Bool.{eqb-false}
use Rattle.std.proofs.lemmas.List.{length-replicate}
use Rattle.std.proofs.Math.ListN.{get_or-eq_default}
use Rattle.whole.specs.laws.Places.{all_alike}
use Rattle.bits.specs.held.Bits.{marks_of}
use Rattle.bits.specs.laws.Words.{length-spread, spread_small, spread_none}
use Rattle.reach.specs.held.Marking.{Marked, Marks, Blank, zeros}

-- an element after a store: the stored one, or the old one
pub at_set : (l : List ℕ) (i a j : ℕ) → i < length l → ((j ≡ i) × (get_or (set l i a) j 0 ≡ a)) ⊎ ((j ≢ i) × (get_or (set l i a) j 0 ≡ get_or l j 0))
at_set l i a j h = go (ℕ_discrete j i)
  where
    go : Dec (j ≡ i) → ((j ≡ i) × (get_or (set l i a) j 0 ≡ a)) ⊎ ((j ≢ i) × (get_or (set l i a) j 0 ≡ get_or l j 0))
    go (yes e) = inl (e, ap (λ (k : ℕ). get_or (set l i a) k 0) e ∙ get_or-set_same l i a 0 h)
    go (no n) = inr (n, get_or-set_other l i j a 0 n)

-- a store of what stands there
pub set_as_is : (l : List ℕ) (i a : ℕ) → i < length l → get_or l i 0 ≡ a → set l i a ≡ l
set_as_is [] i a h e = refl
set_as_is (x ∷ l) zero a h e = ap (λ (y : ℕ). y ∷ l) (sym e)
set_as_is (x ∷ l) (suc i) a h e = ap (λ (m : List ℕ). x ∷ m) (set_as_is l i a (le_of_suc-le-suc h) e)

-- marking one more node never adds a zero, and takes one away where it was unmarked
pub zeros_lt : (m : List ℕ) (x : ℕ) → x < length m → get_or m x 0 ≡ 0 → zeros (set m x 1) < zeros m
unfolding zeros
zeros_lt [] x h e = absurd (not-suc-le-zero h)
zeros_lt (zero ∷ m) zero h e = omega arith
zeros_lt (suc a ∷ m) zero h e = absurd (suc-ne-zero _ e)
zeros_lt (zero ∷ m) (suc x) h e = suc-le-suc (zeros_lt m x (le_of_suc-le-suc h) e)
zeros_lt (suc a ∷ m) (suc x) h e = zeros_lt m x (le_of_suc-le-suc h) e

-- a mark stands below the number of marks
pub marked_small : (n : ℕ) (m : List ℕ) (p : ℕ) → length m ≡ n → Marked m p → p < n
marked_small n m p e h = by_cases (dec_lt p n) (λ lt. lt) (λ ge. absurd (beyond (get_or-eq_default m 0 (omega arith))))
  where
    beyond : get_or m p 0 ≡ 0 → ⊥
    beyond z = omega arith

-- ---- one more mark
module _ (m : List ℕ) (x : ℕ) (h : x < length m) where
  after : (p : ℕ) → ((p ≡ x) × Marked (set m x 1) p) ⊎ ((p ≢ x) × (get_or (set m x 1) p 0 ≡ get_or m p 0))
  after p = at_set m x 1 p h

  pub mark_new : Marked (set m x 1) x
  mark_new = get_or-set_same m x 1 0 h

  pub mark_stays : (p : ℕ) → Marked m p → Marked (set m x 1) p
  mark_stays p k = ⊎_elim (λ (w : (p ≡ x) × Marked (set m x 1) p). w.1) (λ (w : (p ≢ x) × (get_or (set m x 1) p 0 ≡ get_or m p 0)). w.1 ∙ k) (after p)

  pub mark_either : (p : ℕ) → Marked (set m x 1) p → (p ≡ x) ⊎ Marked m p
  mark_either p k = ⊎_elim (λ (w : (p ≡ x) × Marked (set m x 1) p). inl w.0) (λ (w : (p ≢ x) × (get_or (set m x 1) p 0 ≡ get_or m p 0)). inr (sym w.1 ∙ k)) (after p)

  pub mark-bits : ((p : ℕ) → get_or m p 0 ≤ 1) → (p : ℕ) → get_or (set m x 1) p 0 ≤ 1
  mark-bits bits p = ⊎_elim (λ (w : (p ≡ x) × Marked (set m x 1) p). omega (arith, w.1)) (λ (w : (p ≢ x) × (get_or (set m x 1) p 0 ≡ get_or m p 0)). omega (arith, w.1, bits p)) (after p)

-- ---- what the test of a mark tells
pub marked_is : (m : List ℕ) (p : ℕ) → true ≡ eqb (get_or m p 0) 1 → Marked m p
marked_is m p e = eqb-true (get_or m p 0) 1 (sym e)

pub not_marked : (m : List ℕ) (p : ℕ) → false ≡ eqb (get_or m p 0) 1 → Marked m p → ⊥
not_marked m p e = eqb-false (get_or m p 0) 1 (sym e)

pub bare_is : (m : List ℕ) (p : ℕ) → ((q : ℕ) → get_or m q 0 ≤ 1) → false ≡ eqb (get_or m p 0) 1 → get_or m p 0 ≡ 0
bare_is m p bits e = small (get_or m p 0) (bits p) (not_marked m p e)
  where
    small : (b : ℕ) → b ≤ 1 → (b ≡ 1 → ⊥) → b ≡ 0
    small b h d = omega arith

-- ---- the marks that q words hold
pub words_marks : (q : ℕ) (ws : List ℕ) → length ws ≡ q → Marks (q * 64) (marks_of ws)
words_marks q ws e = record { size = length-spread 64 ws ∙ ap (λ (k : ℕ). k * 64) e; bits = spread_small 64 ws }

-- a node whose word is there is one of them
pub words_hold : (ws : List ℕ) (x : ℕ) → x / 64 < length ws → x < length (marks_of ws)
words_hold ws x h = let e = length-spread 64 ws in omega arith

pub words-blank : (q : ℕ) → Blank (q * 64) (marks_of (replicate q 0))
words-blank q = record { size = (words_marks q (replicate q 0) (length-replicate {A = ℕ} q 0)).size; bare = spread_none 64 (replicate q 0) (all_alike 0 q) }
