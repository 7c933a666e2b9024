-- Sweeps over the pairs, up and down: what one pair leaves, and what both sweeps together tell.
use Prim.Native.Nat.{ℕ, ◌+◌, ◌%◌, ◌≤◌, ◌<◌, zero-le}
use native.Mathlib.Nat.{le_refl}
use native.Mathlib.Decide.{ℕ_discrete, dec_lt}
use native.Mathlib.Omega.{arith}
use mathlib.Core.Path.{◌≡◌, refl, sym, subst, ◌∙◌}
use mathlib.Core.Logic.{◌⊎◌, inl, inr, by_cases}
use mathlib.Core.Bool.{Bool, true, false, ◌||◌, or-true, or-false}
use mathlib.Core.List.{List}
use lib.ListN.{length, get_or}
use Rattle.words.specs.held.Words.{poly_from}
use Rattle.reach.specs.held.Marking.{Joined, Marked, Joint, Grown, Flooded}
use Rattle.reach.specs.laws.Joins.{joint_still, joint-grown, grown_none, grown_on, grown_floods}
use Rattle.apart.proofs.Lowest.{flood_spreads}
use Rattle.apart.specs.held.Reaching.{Level, SweptUp, SweptDown, Spread, LowestBare}

-- both polygons of the pair at k are marked or neither
abbrev Agrees : List ℕ → List ℕ → ℕ → Type 0
Agrees l m k = get_or m (poly_from (get_or l k 0)) 0 ≡ get_or m (poly_from (get_or l (k + 1) 0)) 0

-- ---- stretches of pairs that agree
level_none : (l m : List ℕ) (a : ℕ) → Level l m a a
level_none l m a = record { each = λ k e h g. absurd (omega arith) }

level_up : (l m : List ℕ) (a i : ℕ) → i % 2 ≡ 0 → Level l m a i → Agrees l m i → Level l m a (i + 2)
level_up l m a i ev f here = record { each = λ k e h g. by_cases (ℕ_discrete k i) (λ q. subst (Agrees l m) (sym q) here) (λ n. f.each k e h (below k e g n)) }
  where
    below : (k : ℕ) → k % 2 ≡ 0 → k + 1 < i + 2 → (k ≡ i → ⊥) → k + 1 < i
    below k e g n = omega arith

level_down : (l m : List ℕ) (i b : ℕ) → i % 2 ≡ 0 → Level l m (i + 2) b → Agrees l m i → Level l m i b
level_down l m i b ev f here = record { each = λ k e h g. by_cases (ℕ_discrete k i) (λ q. subst (Agrees l m) (sym q) here) (λ n. f.each k e (above k e h n) g) }
  where
    above : (k : ℕ) → k % 2 ≡ 0 → i ≤ k → (k ≡ i → ⊥) → i + 2 ≤ k
    above k e h n = omega arith

level_as : (l m m' : List ℕ) (a b : ℕ) → m' ≡ m → Level l m a b → Level l m' a b
level_as l m m' a b e f = subst (λ (x : List ℕ). Level l x a b) (sym e) f

-- marks that agree across all pairs lead to no others
level_floods : (l m₀ m : List ℕ) (a : ℕ) → Grown (Joined l poly_from) m₀ m → Level l m 0 a → Level l m a (length l) → a % 2 ≡ 0 → Flooded (Joined l poly_from) m₀ m
level_floods l m₀ m a g low high ev = grown_floods (Joined l poly_from) m₀ m g (λ p q h j. closed p q h j j.ends)
  where
    all : (k : ℕ) → k % 2 ≡ 0 → k + 1 < length l → Agrees l m k
    all k e h = by_cases (dec_lt (k + 1) a) (λ lt. low.each k e zero-le lt) (λ ge. high.each k e (from k e ge) h)
      where
        from : (k : ℕ) → k % 2 ≡ 0 → (k + 1 < a → ⊥) → a ≤ k
        from k e ge = omega arith

    closed : (p q : ℕ) → Marked m p → (j : Joined l poly_from p q) → ((poly_from (get_or l j.at 0) ≡ p) × (poly_from (get_or l (j.at + 1) 0) ≡ q)) ⊎ ((poly_from (get_or l (j.at + 1) 0) ≡ p) × (poly_from (get_or l j.at 0) ≡ q)) → Marked m q
    closed p q h j (inl w) = sym (rw (w.0, w.1) at (all j.at j.even j.within)) ∙ h
    closed p q h j (inr w) = rw (w.0, w.1) at (all j.at j.even j.within) ∙ h

-- ---- one pair
module _ (l m₀ m m' : List ℕ) (i x y : ℕ) (r : Bool) (size : length m ≡ 256) (bits : (p : ℕ) → get_or m p 0 ≤ 1) (ev : i % 2 ≡ 0) (h : i + 1 < length l) (ex : x ≡ poly_from (get_or l i 0)) (ey : y ≡ poly_from (get_or l (i + 1) 0)) (in_x : x < 256) (in_y : y < 256) (j : Joint x y m m' r) (g : Grown (Joined l poly_from) m₀ m) where
  pair_grown : Grown (Joined l poly_from) m₀ m'
  pair_grown =
      joint-grown x y m m' r j bits (omega arith) (omega arith) (Joined l poly_from) m₀ g
      (record { at = i; even = ev; within = h; ends = inl (sym ex, sym ey) })
      (record { at = i; even = ev; within = h; ends = inr (sym ey, sym ex) })

  -- without a mark the marks are as they were, and agree there
  pair_agrees : r ≡ false → Agrees l m i
  pair_agrees z = rw (ex, ey) at (joint_still x y m m' r j z).1

-- ---- a sweep up
pub record Up (l m₀ m : List ℕ) (last i : ℕ) : Type 0 where
  pub even : i % 2 ≡ 0
  pub upto : i ≤ length l
  pub last_even : last % 2 ≡ 0
  pub before : last ≤ i
  pub grown : Grown (Joined l poly_from) m₀ m
  pub level : Level l m last i

pub up_none : (l m : List ℕ) → Up l m m 0 0
up_none l m = record { even = refl; upto = zero-le; last_even = refl; before = le_refl 0; grown = grown_none (Joined l poly_from) m; level = level_none l m 0 }

two-on : (n : ℕ) → n % 2 ≡ 0 → (n + 2) % 2 ≡ 0
two-on n e = omega arith

module _ (l m₀ m m' : List ℕ) (last i x y : ℕ) (r : Bool) (size : length m ≡ 256) (bits : (p : ℕ) → get_or m p 0 ≤ 1) (s : Up l m₀ m last i) (h : i + 1 < length l) (ex : x ≡ poly_from (get_or l i 0)) (ey : y ≡ poly_from (get_or l (i + 1) 0)) (in_x : x < 256) (in_y : y < 256) (j : Joint x y m m' r) where
  pub up_still : r ≡ false → Up l m₀ m' last (i + 2)
  up_still z = record {
    even = two-on i s.even;
    upto = omega arith;
    last_even = s.last_even;
    before = omega (arith, s.before);
    grown = pair_grown l m₀ m m' i x y r size bits s.even h ex ey in_x in_y j s.grown;
    level = level_as l m m' last (i + 2) (joint_still x y m m' r j z).0 (level_up l m last i s.even s.level (pair_agrees l m₀ m m' i x y r size bits s.even h ex ey in_x in_y j s.grown z));
  }

  pub up_marked : Up l m₀ m' (i + 2) (i + 2)
  up_marked = record {
    even = two-on i s.even;
    upto = omega arith;
    last_even = two-on i s.even;
    before = le_refl (i + 2);
    grown = pair_grown l m₀ m m' i x y r size bits s.even h ex ey in_x in_y j s.grown;
    level = level_none l m' (i + 2);
  }

-- ---- a sweep down
pub record Down (l : List ℕ) (from : ℕ) (m₀ m : List ℕ) (some : Bool) (i : ℕ) : Type 0 where
  pub even : i % 2 ≡ 0
  pub upto : i ≤ from
  pub grown : Grown (Joined l poly_from) m₀ m
  pub level : some ≡ false → (m ≡ m₀) × Level l m i from

pub down-none : (l : List ℕ) (from : ℕ) (m : List ℕ) → from % 2 ≡ 0 → Down l from m m false from
down-none l from m e = record { even = e; upto = le_refl from; grown = grown_none (Joined l poly_from) m; level = λ _. (refl, level_none l m from) }

module _ (l : List ℕ) (from : ℕ) (m₀ m m' : List ℕ) (some : Bool) (at i x y : ℕ) (r : Bool) (size : length m ≡ 256) (bits : (p : ℕ) → get_or m p 0 ≤ 1) (s : Down l from m₀ m some at) (down : at ≡ i + 2) (within : from ≤ length l) (ex : x ≡ poly_from (get_or l i 0)) (ey : y ≡ poly_from (get_or l (i + 1) 0)) (in_x : x < 256) (in_y : y < 256) (j : Joint x y m m' r) where
  ev : i % 2 ≡ 0
  ev = back i (subst (λ (k : ℕ). k % 2 ≡ 0) down s.even)
    where
      back : (n : ℕ) → (n + 2) % 2 ≡ 0 → n % 2 ≡ 0
      back n e = omega arith

  h : i + 1 < length l
  h = omega (arith, s.upto)

  down_grown : Grown (Joined l poly_from) m₀ m'
  down_grown = pair_grown l m₀ m m' i x y r size bits ev h ex ey in_x in_y j s.grown

  down_still : r ≡ false → Down l from m₀ m' some i
  down_still z = record {
    even = ev;
    upto = omega (arith, s.upto);
    grown = down_grown;
    level = λ e. let w = s.level e in
        let q = (joint_still x y m m' r j z).0 in
        (q ∙ w.0, level_as l m m' i from q (level_down l m i from ev (subst (λ (k : ℕ). Level l m k from) down w.1) (pair_agrees l m₀ m m' i x y r size bits ev h ex ey in_x in_y j s.grown z)));
  }

  down_marked : Down l from m₀ m' true i
  down_marked = record { even = ev; upto = omega (arith, s.upto); grown = down_grown; level = λ e. cc }

  pub down_more : Down l from m₀ m' (some || r) i
  down_more = go r refl
    where
      go : (b : Bool) → r ≡ b → Down l from m₀ m' (some || r) i
      go true e = rw (e, or-true) down_marked
      go false e = rw (e, or-false) (down_still e)

-- ---- both, and the polygons below n
module _ (l : List ℕ) (n : ℕ) (m₀ m₁ : List ℕ) (last : ℕ) (a : SweptUp l m₀ m₁ last) where
  spread-all : (m : List ℕ) (b : ℕ) → Grown (Joined l poly_from) m₀ m → ((p : ℕ) → get_or m p 0 ≤ 1) → LowestBare m n b → b ≡ n → Spread (Joined l poly_from) n m₀ m
  spread-all m b g bits u e = record { sound = g.sound; whole = λ p h k. omega (arith, u.before p (omega arith), bits p) }

  pub spread-up : (b : ℕ) → ((p : ℕ) → get_or m₁ p 0 ≤ 1) → LowestBare m₁ n b → b ≡ n → Spread (Joined l poly_from) n m₀ m₁
  spread-up b bits u e = spread-all m₁ b a.grown bits u e

  module _ (m : List ℕ) (r : Bool) (d : SweptDown l last m₁ m r) where
    both : Grown (Joined l poly_from) m₀ m
    both = grown_on (Joined l poly_from) m₀ m₁ m a.grown d.grown

    pub spread-still : r ≡ false → Spread (Joined l poly_from) n m₀ m
    spread-still z = let w = d.level z in
        flood_spreads l m₀ m n (level_floods l m₀ m last both w.1 (level_as l m₁ m last (length l) w.0 a.level) a.even)

    pub spread-down : (b : ℕ) → ((p : ℕ) → get_or m p 0 ≤ 1) → LowestBare m n b → b ≡ n → Spread (Joined l poly_from) n m₀ m
    spread-down b bits u e = spread-all m b both bits u e
