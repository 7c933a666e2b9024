-- The mark of polygon 0, the lowest polygon that has none, and what it is where the marks are what polygon 0 reaches.
use Prim.Native.Nat.{ℕ, ◌≤◌, ◌<◌}
use native.Mathlib.Nat.{le_refl}
use native.Mathlib.Decide.{dec_lt}
use native.Mathlib.Omega.{arith}
use Rattle.std.specs.Prelude.{Bool, true, false, not, Option, None, Some, unwrap_or}
use Rattle.std.specs.Option.{is_some}
use mathlib.Core.Path.{◌≡◌, refl, sym, subst}
use mathlib.Core.Logic.{⊎_elim, by_cases}
use mathlib.Core.List.{List}
use borrow.Author.Tests.{eq-eqb, eqb-true}
use lib.Dec.{eqb}
use lib.ListN.{length, get_or, set, length-set}
use Rattle.whole.specs.laws.Index.{index_least}
use Rattle.bits.specs.Lowest.{lowest_bare_of}
use Rattle.words.specs.held.Words.{poly_from}
use Rattle.reach.specs.Reach.{start}
use Rattle.reach.specs.held.Marking.{Marked, Blank, Flooded, Joined}
use Rattle.reach.specs.laws.Marks.{mark_new, mark_either, mark-bits}
use Rattle.reach.specs.laws.Joins.{reach_map}
use Rattle.apart.specs.held.Reaching.{Seeded, Spread, LowestBare, LowestCut}

-- one mark alone
pub seed_first : (m : List ℕ) → Blank 256 m → Seeded (set m 0 1)
seed_first m b = record {
  marks = record { size = simp length-set b.size; bits = mark-bits m 0 long (λ p. omega (arith, b.bare p)) };
  first = mark_new m 0 long;
  only = λ p h. ⊎_elim (λ (e : p ≡ 0). e) (λ (g : Marked m p). absurd (bad p g)) (mark_either m 0 long p h);
}
  where
    long : 0 < length m
    long = omega (arith, b.size)

    bad : (p : ℕ) → Marked m p → ⊥
    bad p g = omega (arith, b.bare p)

-- the lowest of the marks that is not set tells the lowest below n
module _ (m : List ℕ) (n r : ℕ) (few : n ≤ length m) (e : r ≡ lowest_bare_of m) where
  unset : (k : ℕ) → k < length m → get_or m k 0 ≡ 0 → r ≤ k
  unfolding lowest_bare_of
  unset k h z = by_cases (dec_lt r (length m)) (λ lt. rw e (((index_least (eqb 0) 0 m).found (rw e at lt)).first k (h, eq-eqb 0 (get_or m k 0) (sym z)))) (λ ge. absurd ((index_least (eqb 0) 0 m).missing (rw e at (over ge)) k (h, eq-eqb 0 (get_or m k 0) (sym z))))
    where
      over : (r < length m → ⊥) → length m ≤ r
      over ge = omega arith

  set-not : r < length m → get_or m r 0 ≡ 0
  unfolding lowest_bare_of
  set-not h = sym (eqb-true 0 (get_or m r 0) (rw e ((index_least (eqb 0) 0 m).found (rw e at h)).holds.1))

  before : (b : ℕ) → b ≤ r → b ≤ n → (k : ℕ) → k < b → get_or m k 0 ≡ 0 → ⊥
  before b s t k h z = omega (arith, unset k (omega arith) z)

  pub lowest_found : r < n → LowestBare m n r
  lowest_found h = record { within = omega arith; before = before r (le_refl r) (omega arith); bare = λ _. set-not (omega arith) }

  pub lowest-none : n ≤ r → LowestBare m n n
  lowest-none h = record { within = le_refl n; before = before n h (le_refl n); bare = λ l. absurd (omega arith) }

-- where no polygon is named, the number of them stands for it
pub unnamed : (o : Option ℕ) (n : ℕ) (b : Bool) → is_some o ≡ not b → b ≡ true → unwrap_or o n ≡ n
unnamed None n b e f = refl
unnamed (Some p) n true e f = cc
unnamed (Some p) n false e f = cc

module _ (l m m' : List ℕ) (n r : ℕ) (b : Seeded m) (f : Spread (Joined l poly_from) n m m') (bits : (p : ℕ) → get_or m' p 0 ≤ 1) (u : LowestBare m' n r) where
  pub lowest_of-spread : LowestCut l n r
  lowest_of-spread = record {
    within = u.within;
    before = λ k h. reach_map (λ q s. start (b.only q s)) (λ p q j. j) (f.sound k (omega (arith, u.before k h, bits k)));
    cut = λ h c. omega (arith, u.bare h, f.whole r h (reach_map (λ q s. start (subst (λ (x : ℕ). Marked m x) (sym s) b.first)) (λ p q j. j) c));
  }

pub flood_spreads : (l m m' : List ℕ) (n : ℕ) → Flooded (Joined l poly_from) m m' → Spread (Joined l poly_from) n m m'
flood_spreads l m m' n g = record { sound = g.sound; whole = λ p h. g.whole p }
