-- Marks on nodes of words: there are at most as many as words, and where there are as many each word's node has one. So where the marks
-- that grew from one corner of each point are as many as the words, no point is cut off.
use Prim.Native.Nat.{ℕ, zero, suc, ◌≤◌, ◌<◌}
use native.Mathlib.Decide.{ℕ_discrete}
use native.Mathlib.Nat.{le_refl, lt_irrefl, le_of_suc-le-suc, not-suc-le-zero}
use native.Mathlib.Omega.{arith}
use mathlib.Core.Path.{◌≡◌, refl, sym, subst, ◌∙◌}
use mathlib.Core.Logic.{⊎_elim, ◌≢◌, by_cases}
use mathlib.Core.List.{List, [], ◌∷◌}
use lib.ListN.{length, get_or, set}
use lib.Seq.{get_or-set_other}
use Rattle.bits.specs.held.Bits.{sum_of}
use Rattle.words.specs.held.Words.{step_of}
use Rattle.reach.specs.Reach.{start}
use Rattle.reach.specs.held.Marking.{Marked, Marks, Grown, Flooded}
use Rattle.reach.specs.laws.Joins.{grown_on, grown_floods}
use Rattle.reach.specs.laws.Marks.{mark_either, mark-bits}
use Rattle.links.specs.held.Linking.{Joins, Cornered, Seeds, Cut, Begun, Unlinks}
use Rattle.links.proofs.Corners.{Starts, starts_small, joins-starts, reach-starts}

-- ---- the sum of marks after a store
abbrev Bits : List ℕ → Type 0
Bits m = (p : ℕ) → get_or m p 0 ≤ 1

sum-none : (m : List ℕ) → ((p : ℕ) → get_or m p 0 ≡ 0) → sum_of m ≡ 0
unfolding sum_of
sum-none [] f = refl
sum-none (b ∷ m) f = omega (arith, f 0, sum-none m (λ p. f (suc p)))

cleared : (m : List ℕ) (x : ℕ) → get_or (set m x 0) x 0 ≡ 0
cleared [] x = refl
cleared (b ∷ m) zero = refl
cleared (b ∷ m) (suc x) = cleared m x

sum-clear : (m : List ℕ) (x : ℕ) → Bits m → sum_of m ≤ suc (sum_of (set m x 0))
unfolding sum_of
sum-clear [] x f = omega arith
sum-clear (b ∷ m) zero f = omega (arith, f 0)
sum-clear (b ∷ m) (suc x) f = omega (arith, sum-clear m x (λ p. f (suc p)))

sum_more : (m : List ℕ) (x : ℕ) → x < length m → get_or m x 0 ≡ 0 → sum_of (set m x 1) ≡ suc (sum_of m)
unfolding sum_of
sum_more [] x h z = absurd (not-suc-le-zero h)
sum_more (b ∷ m) zero h z = omega arith
sum_more (b ∷ m) (suc x) h z = omega (arith, sum_more m x (le_of_suc-le-suc h) z)

-- ---- marks on what g makes of the words
abbrev pub Owned : (ℕ → ℕ) → List ℕ → List ℕ → Type 0
Owned g l m = (e : ℕ) → Marked m e → (i : ℕ) × (i < length l) × (g (get_or l i 0) ≡ e)

module _ (g : ℕ → ℕ) where
  -- clearing the first word's node leaves marks on the nodes of the others
  pub count_few : (l m : List ℕ) → Bits m → Owned g l m → sum_of m ≤ length l
  count_few [] m b o = omega (arith, sum-none m none)
    where
      none : (p : ℕ) → get_or m p 0 ≡ 0
      none p = by_cases (ℕ_discrete (get_or m p 0) 1) (λ e. absurd (not-suc-le-zero (o p e).1)) (λ d. omega (arith, b p))
  count_few (w ∷ l) m b o = omega (arith, sum-clear m (g w) b, count_few l (set m (g w) 0) bits owned)
    where
      old : (e : ℕ) → e ≢ g w → get_or (set m (g w) 0) e 0 ≡ get_or m e 0
      old e d = get_or-set_other m (g w) e 0 0 d

      bits : Bits (set m (g w) 0)
      bits e = by_cases (ℕ_discrete e (g w)) (λ q. rw q (omega (arith, cleared m (g w)))) (λ d. omega (arith, old e d, b e))

      owned : Owned g l (set m (g w) 0)
      owned e h = by_cases (ℕ_discrete e (g w)) (λ q. absurd (gone e q h)) (λ d. later e d (o e (sym (old e d) ∙ h)))
        where
          gone : (e : ℕ) → e ≡ g w → Marked (set m (g w) 0) e → ⊥
          gone e q h = let k : Marked (set m (g w) 0) (g w) = rw q at h in omega (arith, cleared m (g w))

          later : (e : ℕ) → e ≢ g w → (i : ℕ) × (i < suc (length l)) × (g (get_or (w ∷ l) i 0) ≡ e) → (i : ℕ) × (i < length l) × (g (get_or l i 0) ≡ e)
          later e d (zero, h, q) = absurd (d (sym q))
          later e d (suc i, h, q) = (i, le_of_suc-le-suc h, q)

  -- one more mark would be one too many
  pub count-all : (l m : List ℕ) → Bits m → Owned g l m → sum_of m ≡ length l → (i : ℕ) → i < length l → g (get_or l i 0) < length m → Marked m (g (get_or l i 0))
  count-all l m b o e i h k = by_cases (ℕ_discrete (get_or m x 0) 1) (λ q. q) (λ d. absurd (more (omega (arith, b x))))
    where
      x : ℕ
      x = g (get_or l i 0)

      more : get_or m x 0 ≡ 0 → ⊥
      more z = omega (arith, sum_more m x k z, count_few l (set m x 1) (mark-bits m x k b) (λ f r. ⊎_elim (λ (q : f ≡ x). (i, h, sym q)) (λ (q : Marked m f). o f q) (mark_either m x k f r)))

-- ---- marks on corners
flood_grown : (R : ℕ → ℕ → Type 0) (m₀ m : List ℕ) → Flooded R m₀ m → Grown R m₀ m
flood_grown R m₀ m f = record { grows = λ p h. f.whole p (start h); sound = f.sound }

module _ (es l : List ℕ) (c : Cornered es l) where
  module _ (from m : List ℕ) (s : Seeds es l from) (g : Grown (Joins 1 2 l) from m) (marks : Marks 1024 m) (e : sum_of m ≡ length l) where
    -- each corner has a mark
    marked : (x : ℕ) → Starts l x → Marked m x
    marked x k = subst (Marked m) k.2 (count-all step_of l m marks.bits (λ p h. reach-starts l es c from s.node (g.sound p h)) e k.0 k.1 (subst (λ (z : ℕ). z < length m) (sym k.2) (inside x (starts_small l x k))))
      where
        inside : (x : ℕ) → x < 1024 → x < length m
        inside x h = omega (arith, marks.size)

    pub all-linked : Unlinks es l 65536
    all-linked = record {
      from = from;
      seeds = s;
      to = m;
      marks = marks;
      flood = grown_floods (Joins 1 2 l) from m g (λ p q _ j. marked q (joins-starts l es c p q j));
      least = record { within = le_refl 65536; found = λ h. absurd (lt_irrefl 65536 h); missing = λ _ v u. uncut v u };
    }
      where
        uncut : (v : ℕ) → Cut es l m v → ⊥
        uncut v u = omega (arith, marked (step_of (get_or l u.at 0)) (u.at, u.within, refl), u.bare)

  -- as many marks as words after the pass, or after the walks
  pub begun-linked : (m : List ℕ) → Begun es l m → Marks 1024 m → sum_of m ≡ length l → Unlinks es l 65536
  begun-linked m b = all-linked b.from m b.seeds b.grown

  pub traced_linked : (m m' : List ℕ) → Begun es l m → Flooded (Joins 1 2 l) m m' → Marks 1024 m' → sum_of m' ≡ length l → Unlinks es l 65536
  traced_linked m m' b f = all-linked b.from m' b.seeds (grown_on (Joins 1 2 l) b.from m m' b.grown (flood_grown (Joins 1 2 l) m m' f))
