-- The loop of `first_repeated`: the entries below i are marked, and what is left of the ring tells the entry that is looked for.
use Prim.Native.Nat.{ℕ, ◌+◌, ◌-◌, ◌*◌, ◌/◌, ◌%◌, ◌≤◌, ◌<◌}
use native.Mathlib.Omega.{arith}
use native.Mathlib.Nat.{div-add-mod'}
use native.Mathlib.Numerals.{add-one}
use mathlib.Core.Path.{◌≡◌, sym, ap, ◌∙◌, subst}
use mathlib.Core.Bool.{Bool, true, false, ◌||◌, or-true, or-false}
use mathlib.Core.List.{List, [], ◌∷◌, ◌++◌}
use borrow.Author.Tests.{eqb-true, eqb-false}
use lib.Dec.{eqb}
use lib.ListN.{length, get_or, take, drop, set, replicate, length-set, length-replicate}
use lib.Seq.{take-suc, get_or-set_same, get_or-set_other}
use Rattle.whole.specs.Lists.{any, lists, front, least_index, numbered}
use Rattle.whole.specs.laws.Stores.{cases}
use Rattle.whole.specs.laws.Reverse.{any_snoc}
use Rattle.whole.specs.laws.Front.{front_length, front_at}
use Rattle.whole.specs.laws.Index.{index_here, index_next, index_end}
use Rattle.whole.specs.laws.Places.{all_alike, numbered-length}
use Rattle.bits.specs.held.Bits.{bits_of, spread}
use Rattle.bits.specs.laws.Words.{length-spread, spread_none, spread_at, spread-set}
use Rattle.space.specs.held.Points.{Known}
use Rattle.ring.specs.Entries.{stood_earlier, repeated_at}
use Rattle.ring.specs.laws.Repeated.{stood_at}

-- ---- marks: eight words mark the points of a list, and no others
pub record Marked (words met : List ℕ) : Type 0 where
  pub eight : length words ≡ 8
  pub each : (p : ℕ) → eqb (get_or (spread 64 words) p 0) 1 ≡ lists p met

marked_none : Marked (replicate 8 0) []
unfolding lists any
marked_none = record { eight = length-replicate {A = ℕ} 8 0; each = λ p. ap (λ (b : ℕ). eqb b 1) (spread_none 64 (replicate 8 0) (all_alike 0 8) p) }

module _ (words met : List ℕ) (x : ℕ) (small : x < 512) (m : Marked words met) where
  size : length (spread 64 words) ≡ 512
  size = length-spread 64 words ∙ ap (λ (n : ℕ). n * 64) m.eight

  -- the bit that is read is point x's mark
  mark_is : eqb (get_or (bits_of 64 (get_or words (x / 64) 0)) (x % 64) 0) 1 ≡ lists x met
  mark_is =
      ap (λ (b : ℕ). eqb b 1)
      (sym (spread_at 64 words (x / 64) (x % 64) (omega (arith, m.eight)) (omega arith)) ∙ ap (λ (p : ℕ). get_or (spread 64 words) p 0) (div-add-mod' x 64))
      ∙ m.each x

  -- point x is marked: its bit is set in its word
  marked_more : (word : ℕ) → bits_of 64 word ≡ set (bits_of 64 (get_or words (x / 64) 0)) (x % 64) 1 → Marked (set words (x / 64) word) (met ++ (x ∷ []))
  unfolding lists
  marked_more word e = record { eight = length-set words (x / 64) word ∙ m.eight; each = λ p. ap (λ (l : List ℕ). eqb (get_or l p 0) 1) now ∙ go p ∙ sym (any_snoc (eqb p) met x) }
    where
      now : spread 64 (set words (x / 64) word) ≡ set (spread 64 words) x 1
      now = spread-set 64 words (x / 64) (x % 64) word (omega (arith, m.eight)) (omega arith) e ∙ ap (λ (p : ℕ). set (spread 64 words) p 1) (div-add-mod' x 64)

      go : (p : ℕ) → eqb (get_or (set (spread 64 words) x 1) p 0) 1 ≡ (any (eqb p) met || eqb p x)
      go p =
          cases (eqb p x)
          (λ t. ap (λ (q : ℕ). eqb (get_or (set (spread 64 words) x 1) q 0) 1) (eqb-true p x t)
          ∙ ap (λ (b : ℕ). eqb b 1) (get_or-set_same (spread 64 words) x 1 0 (omega (arith, size)))
          ∙ sym (ap (λ (b : Bool). any (eqb p) met || b) t ∙ or-true (any (eqb p) met)))
          (λ t. ap (λ (b : ℕ). eqb b 1) (get_or-set_other (spread 64 words) x p 1 0 (eqb-false p x t))
          ∙ m.each p
          ∙ sym (ap (λ (b : Bool). any (eqb p) met || b) t ∙ or-false (any (eqb p) met)))

-- ---- the loop
-- an entry, the closing one too, is one of the points that can be marked
pub point : (ring : List ℕ) (i x : ℕ) → Known ring → i < length ring → x ≡ get_or ring i 0 → x < 512
point ring i x known h is = subst (λ (n : ℕ). n < 512) (sym is) (known.each i h)

pub record Passed (ring words : List ℕ) (i : ℕ) : Type 0 where
  pub inside : i ≤ length ring - 1
  pub marked : Marked words (take i (front ring))
  pub left : i + least_index (stood_earlier (front ring)) (drop i (numbered (front ring))) ≡ repeated_at ring

pub passed_none : (ring : List ℕ) → Passed ring (replicate 8 0) 0
unfolding repeated_at
passed_none ring = record { inside = omega arith; marked = marked_none; left = omega arith }

module _ (ring words : List ℕ) (i x : ℕ) (known : Known ring) (inside : i + 1 < length ring) (is : x ≡ get_or ring i 0) (p : Passed ring words i) where
  abbrev rest : List (ℕ × ℕ)
  rest = numbered (front ring)

  within : i < length rest
  within = omega (arith, numbered-length (front ring), front_length ring)

  small : x < 512
  small = point ring i x known (omega arith) is

  -- the mark tells whether the number stood earlier
  tells : {b : Bool} → b ≡ eqb (get_or (bits_of 64 (get_or words (x / 64) 0)) (x % 64) 0) 1 → stood_earlier (front ring) (get_or rest i (0, 0)) ≡ b
  tells e = stood_at ring i inside ∙ ap (λ (n : ℕ). lists n (take i (front ring))) (sym is) ∙ sym (mark_is words (take i (front ring)) x small p.marked) ∙ sym e

  pub passed_more : (word : ℕ) → false ≡ eqb (get_or (bits_of 64 (get_or words (x / 64) 0)) (x % 64) 0) 1
      → bits_of 64 word ≡ set (bits_of 64 (get_or words (x / 64) 0)) (x % 64) 1
      → Passed ring (set words (x / 64) word) (i + 1)
  passed_more word e s = record {
    inside = omega arith;
    marked = subst (Marked (set words (x / 64) word)) (sym next) (marked_more words (take i (front ring)) x small p.marked word s);
    left = let n = index_next (stood_earlier (front ring)) rest i (0, 0) within (tells e) in omega (arith, p.left);
  }
    where
      next : take (i + 1) (front ring) ≡ take i (front ring) ++ (x ∷ [])
      next =
          ap (λ (n : ℕ). take n (front ring)) (add-one i)
          ∙ take-suc (front ring) i 0 (omega (arith, front_length ring))
          ∙ ap (λ (n : ℕ). take i (front ring) ++ (n ∷ [])) (front_at ring i 0 inside ∙ sym is)

  pub passed_found : true ≡ eqb (get_or (bits_of 64 (get_or words (x / 64) 0)) (x % 64) 0) 1 → i ≡ repeated_at ring
  passed_found e = let n = index_here (stood_earlier (front ring)) rest i (0, 0) within (tells e) in omega (arith, p.left)

pub passed_done : (ring words : List ℕ) (i : ℕ) → length ring ≤ i + 1 → Passed ring words i → i ≡ repeated_at ring
passed_done ring words i h p =
    let n = index_end (stood_earlier (front ring)) (numbered (front ring)) i (omega (arith, p.inside, numbered-length (front ring), front_length ring)) in
    omega (arith, p.left)
