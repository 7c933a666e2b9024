-- Several words of n bits: the marks that they hold together, one read, one set, the lowest that is not set, how many are.
use Prim.Native.Nat.{ℕ, zero, suc, ◌+◌, ◌*◌, ◌/◌, ◌%◌, ◌≤◌, ◌<◌, zero-le}
use Rattle.std.proofs.Common.{add_assoc, suc-add, suc-mul, zero-mul, zero-add, div-add-mod', add-one, ◌∙◌}
use Rattle.std.proofs.Math.Nat.{add_comm, add-zero}
use native.Mathlib.Omega.{arith}
use Rattle.std.specs.Prelude.{◌≡◌, ◌^◌, drop, eqb, map, sum}
use Rattle.std.specs.Int.Count.{ones}
use Rattle.std.proofs.lemmas.List.Sums.{sum-map, sum_by-cons}
use Rattle.std.proofs.Math.Path.{refl, sym, ap, ap₂}
use mathlib.Core.List.{List, [], ◌∷◌, ◌++◌}
use Rattle.std.proofs.Math.ListN.{length, get_or, set, length-append, get_or-append}
use Rattle.std.proofs.lemmas.List.{set-append_left}
use Rattle.std.proofs.Math.Seq.{get_or-append-add}
use Rattle.whole.specs.Lists.{least_index}
use Rattle.whole.specs.laws.Index.{index_past, index_within}
use Rattle.whole.specs.laws.Search.{drop-next, drop_end}
use Rattle.bits.specs.Lowest.{lowest_bare_of}
use Rattle.bits.specs.held.Bits.{bits_of, spread, marks_of, sum_of}
use Rattle.bits.specs.laws.Word.{length-bits, bit_small, bits_none, bits-sum}

-- a store, and what holds of all, in the second of two lists
set_second : (a b : List ℕ) (i x : ℕ) → set (a ++ b) (length a + i) x ≡ a ++ set b i x
set_second [] b i x = ap (λ (j : ℕ). set b j x) (zero-add i)
set_second (y ∷ a) b i x = ap (λ (j : ℕ). set (y ∷ a ++ b) j x) (suc-add (length a) i) ∙ ap (λ (l : List ℕ). y ∷ l) (set_second a b i x)

all_append : (P : ℕ → Type 0) (a b : List ℕ) → ((p : ℕ) → P (get_or a p 0)) → ((p : ℕ) → P (get_or b p 0)) → (p : ℕ) → P (get_or (a ++ b) p 0)
all_append P [] b f g p = g p
all_append P (x ∷ a) b f g zero = f zero
all_append P (x ∷ a) b f g (suc p) = all_append P a b (λ q. f (suc q)) g p

sum_append : (a b : List ℕ) → sum_of (a ++ b) ≡ sum_of a + sum_of b
unfolding sum_of
sum_append [] b = sym (zero-add (sum_of b))
sum_append (x ∷ a) b = ap (λ (y : ℕ). x + y) (sum_append a b) ∙ sym (add_assoc x (sum_of a) (sum_of b))

module _ (n : ℕ) where
  pub length-spread : (ws : List ℕ) → length (spread n ws) ≡ length ws * n
  unfolding spread
  length-spread [] = omega arith
  length-spread (w ∷ ws) = length-append (bits_of n w) (spread n ws) ∙ ap₂ (λ (x y : ℕ). x + y) (length-bits n w) (length-spread ws) ∙ add_comm n (length ws * n) ∙ sym (suc-mul (length ws) n)

  -- words without a bit
  pub spread_none : (ws : List ℕ) → ((i : ℕ) → get_or ws i 0 ≡ 0) → (p : ℕ) → get_or (spread n ws) p 0 ≡ 0
  unfolding spread
  spread_none [] f p = refl
  spread_none (w ∷ ws) f p = all_append (λ x. x ≡ 0) (bits_of n w) (spread n ws) (λ q. rw (f 0) (bits_none n q)) (spread_none ws (λ i. f (suc i))) p

  -- place k of word q + 1 is k places into word q of the rest
  place : (w q k : ℕ) → suc q * n + k ≡ length (bits_of n w) + (q * n + k)
  place w q k = ap (λ (x : ℕ). x + k) (suc-mul q n ∙ add_comm (q * n) n) ∙ add_assoc n (q * n) k ∙ ap (λ (x : ℕ). x + (q * n + k)) (sym (length-bits n w))

  first : (k : ℕ) → 0 * n + k ≡ k
  first k = ap (λ (x : ℕ). x + k) (zero-mul n) ∙ zero-add k

  -- bit k of word q
  pub spread_at : (ws : List ℕ) (q k : ℕ) → q < length ws → k < n → get_or (spread n ws) (q * n + k) 0 ≡ get_or (bits_of n (get_or ws q 0)) k 0
  unfolding spread
  spread_at [] q k h l = absurd (omega arith)
  spread_at (w ∷ ws) zero k h l = ap (λ (i : ℕ). get_or (bits_of n w ++ spread n ws) i 0) (first k) ∙ get_or-append (bits_of n w) (spread n ws) 0 k (rw length-bits l)
  spread_at (w ∷ ws) (suc q) k h l =
      ap (λ (i : ℕ). get_or (bits_of n w ++ spread n ws) i 0) (place w q k)
      ∙ get_or-append-add (bits_of n w) (spread n ws) (q * n + k) 0
      ∙ spread_at ws q k (omega arith) l

  -- words of which word q has its bit k set
  pub spread-set : (ws : List ℕ) (q k v : ℕ) → q < length ws → k < n → bits_of n v ≡ set (bits_of n (get_or ws q 0)) k 1 → spread n (set ws q v) ≡ set (spread n ws) (q * n + k) 1
  unfolding spread
  spread-set [] q k v h l e = refl
  spread-set (w ∷ ws) zero k v h l e =
      ap (λ (a : List ℕ). a ++ spread n ws) e
      ∙ sym (set-append_left (bits_of n w) (spread n ws) k 1 (rw length-bits l))
      ∙ ap (λ (i : ℕ). set (bits_of n w ++ spread n ws) i 1) (sym (first k))
  spread-set (w ∷ ws) (suc q) k v h l e =
      ap (λ (a : List ℕ). bits_of n w ++ a) (spread-set ws q k v (omega arith) l e)
      ∙ sym (set_second (bits_of n w) (spread n ws) (q * n + k) 1)
      ∙ ap (λ (i : ℕ). set (bits_of n w ++ spread n ws) i 1) (sym (place w q k))

  -- marks are 0 or 1
  pub spread_small : (ws : List ℕ) (p : ℕ) → get_or (spread n ws) p 0 ≤ 1
  unfolding spread
  spread_small [] p = zero-le
  spread_small (w ∷ ws) p = all_append (λ x. x ≤ 1) (bits_of n w) (spread n ws) (bit_small n w) (spread_small ws) p

  -- from word i on: its bits, then those of the words after it
  rest : (ws : List ℕ) (i : ℕ) → i < length ws → spread n (drop i ws) ≡ bits_of n (get_or ws i 0) ++ spread n (drop (i + 1) ws)
  unfolding spread
  rest ws i h = ap (spread n) (drop-next ws i 0 h)

  next : (i k : ℕ) → i * n + (n + k) ≡ (i + 1) * n + k
  next i k = sym (add_assoc (i * n) n k) ∙ ap (λ (x : ℕ). x + k) (sym (suc-mul i n) ∙ ap (λ (x : ℕ). x * n) (sym (add-one i)))

  -- ---- the lowest that is not set, word by word: the words before i are full
  pub record Full (ws : List ℕ) (i : ℕ) : Type 0 where
    pub upto : i ≤ length ws
    pub past : lowest_bare_of (spread n ws) ≡ i * n + lowest_bare_of (spread n (drop i ws))

  pub full_none : (ws : List ℕ) → Full ws 0
  full_none ws = record { upto = zero-le; past = sym (first (lowest_bare_of (spread n ws))) }

  module _ (ws : List ℕ) (i k : ℕ) (f : Full ws i) (h : i < length ws) (e : k ≡ lowest_bare_of (bits_of n (get_or ws i 0))) (m : k ≤ n) where
    abbrev word : List ℕ
    word = bits_of n (get_or ws i 0)

    pub full-more : (k < n → ⊥) → Full ws (i + 1)
    unfolding lowest_bare_of
    full-more g = record {
      upto = omega arith;
      past =
          f.past
          ∙ ap (λ (x : ℕ). i * n + x) (ap lowest_bare_of (rest ws i h) ∙ index_past (eqb 0) word (spread n (drop (i + 1) ws)) (sym e ∙ all ∙ sym (length-bits n (get_or ws i 0))) ∙ ap (λ (x : ℕ). x + lowest_bare_of (spread n (drop (i + 1) ws))) (length-bits n (get_or ws i 0)))
          ∙ next i (lowest_bare_of (spread n (drop (i + 1) ws)));
    }
      where
        all : k ≡ n
        all = omega arith

    pub full-stop : k < n → i * n + k ≡ lowest_bare_of (spread n ws)
    unfolding lowest_bare_of
    full-stop l = ap (λ (x : ℕ). i * n + x) (e ∙ sym (ap lowest_bare_of (rest ws i h) ∙ index_within (eqb 0) word (spread n (drop (i + 1) ws)) (rw length-bits (rw e at l)))) ∙ sym f.past

  pub full_end : (ws : List ℕ) (i : ℕ) → Full ws i → length ws ≤ i → length ws * n ≡ lowest_bare_of (spread n ws)
  unfolding spread lowest_bare_of least_index
  full_end ws i f h =
      let e : i ≡ length ws = omega (arith, f.upto) in
      sym (f.past ∙ ap₂ (λ (x : ℕ) (l : List ℕ). x * n + lowest_bare_of (spread n l)) e (drop_end ws i e) ∙ add-zero (length ws * n))

  -- ---- how many are set, word by word
  pub record Summed (ws : List ℕ) (i all : ℕ) : Type 0 where
    pub few : all ≤ i * n
    pub sum : all + sum_of (spread n (drop i ws)) ≡ sum_of (spread n ws)

  pub summed_none : (ws : List ℕ) → Summed ws 0 0
  summed_none ws = record { few = zero-le; sum = zero-add (sum_of (spread n ws)) }

  pub summed_more : (ws : List ℕ) (i all k : ℕ) → Summed ws i all → i < length ws → k ≡ sum_of (bits_of n (get_or ws i 0)) → k ≤ n → Summed ws (i + 1) (all + k)
  summed_more ws i all k s h e m = record { few = more; sum = ap (λ (x : ℕ). all + x + sum_of (spread n (drop (i + 1) ws))) e ∙ add_assoc all (sum_of (bits_of n (get_or ws i 0))) (sum_of (spread n (drop (i + 1) ws))) ∙ ap (λ (x : ℕ). all + x) (sym (ap sum_of (rest ws i h) ∙ sum_append (bits_of n (get_or ws i 0)) (spread n (drop (i + 1) ws)))) ∙ s.sum }
    where
      more : all + k ≤ (i + 1) * n
      more = let b = ap (λ (x : ℕ). x) (next i 0) in omega (arith, s.few)

  pub summed_done : (ws : List ℕ) (i all : ℕ) → Summed ws i all → i ≡ length ws → all ≡ sum_of (spread n ws)
  unfolding spread sum_of
  summed_done ws i all s e = sym (add-zero all) ∙ ap (λ (l : List ℕ). all + sum_of (spread n l)) (sym (drop_end ws i e)) ∙ s.sum

-- ---- words of 64 bits: the marks set are the bits set of each word
pub ones_each : (ws : List ℕ) → ((i : ℕ) → get_or ws i 0 < 2 ^ 64) → sum (map ones ws) ≡ sum_of (marks_of ws)
unfolding spread sum_of
ones_each [] h = refl
ones_each (w ∷ ws) h =
    sum-map ones (w ∷ ws)
    ∙ sum_by-cons ones w ws
    ∙ ap₂ (λ (x y : ℕ). x + y) (bits-sum 64 w (h 0)) (sym (sum-map ones ws) ∙ ones_each ws (λ i. h (suc i)))
    ∙ sym (sum_append (bits_of 64 w) (spread 64 ws))

-- ---- words of 64 bits: the mark of p is bit p % 64 of word p / 64
module _ (ws : List ℕ) (p : ℕ) (h : p / 64 < length ws) where
  pub mark-at : get_or (bits_of 64 (get_or ws (p / 64) 0)) (p % 64) 0 ≡ get_or (marks_of ws) p 0
  mark-at = sym (spread_at 64 ws (p / 64) (p % 64) h (omega arith)) ∙ ap (λ (i : ℕ). get_or (marks_of ws) i 0) (div-add-mod' p 64)

  pub mark_put : (v : ℕ) → bits_of 64 v ≡ set (bits_of 64 (get_or ws (p / 64) 0)) (p % 64) 1 → marks_of (set ws (p / 64) v) ≡ set (marks_of ws) p 1
  mark_put v e = spread-set 64 ws (p / 64) (p % 64) v h (omega arith) e ∙ ap (λ (i : ℕ). set (marks_of ws) i 1) (div-add-mod' p 64)
