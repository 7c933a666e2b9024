-- Check 05 by its position: two edges cross exactly where an edge is told, and it is the least that has a forbidden meeting. Such an
-- edge meets a later one, so that a search for pairs stands at it.
use Rattle.std.specs.Prelude.{ℕ, ◌+◌, ◌-◌, ◌≤◌, ◌<◌, ◌≡◌, Bool, true, false, ◌||◌, ◌⊎◌, List, length, get_or, drop}
use Rattle.std.proofs.Common.{arith, sym, ◌∙◌, true≢false, length-drop, get_or-drop}
use Rattle.std.proofs.Math.Decide.{dec_lt}
use Rattle.std.proofs.Math.Path.{ap, ap₂, subst}
use Rattle.std.proofs.Math.Bool.{◌&&◌, or-true}
use Rattle.std.proofs.Math.Logic.{inl, inr, ⊎_elim}
use borrow.Author.Tests.{lt-ltb, ltb-true, ltb-false}
use Rattle.std.proofs.Math.Dec.{ltb}
use Rattle.whole.specs.Lists.{any, least_index, numbered}
use Rattle.whole.specs.Least.{LeastBelow}
use Rattle.whole.specs.laws.Bools.{and_left, and_right, or_cases}
use Rattle.whole.specs.laws.Index.{any-holds, holds-any, HoldsAt, index_least, two-holds, holds-two}
use Rattle.whole.specs.laws.Least.{below_as, below_one}
use Rattle.whole.specs.laws.Places.{numbered-at, numbered-length}
use Rattle.whole.specs.laws.Stores.{cases}
use Rattle.plane.specs.Plane.{Segment}
use Rattle.crossing.specs.Crossed.{forbidden, is_crossed, meets, crossed_at}
use Rattle.crossing.specs.Position.{nowhere, edge, Clash, Meets}

module _ (es : List Segment) where
  abbrev m : ℕ
  m = length es

  abbrev pairs : List (ℕ × Segment)
  pairs = numbered es

  abbrev has : ℕ × Segment → Bool
  has e = any (meets m e) pairs

  edge_at : (i : ℕ) → i < m → get_or pairs i (0, nowhere) ≡ edge es i
  edge_at i h = numbered-at es i (0, nowhere) nowhere h

  meets_is : (i j : ℕ) → i < m → j < m → meets m (edge es i) (edge es j) ≡ true → Clash es i j ⊎ Clash es j i
  unfolding meets
  meets_is i j hi hj e =
      ⊎_elim
      (λ (h : (ltb i j && forbidden m (edge es i) (edge es j)) ≡ true).
      inl (record { order = ltb-true i j (and_left (ltb i j) (forbidden m (edge es i) (edge es j)) h); within = hj; clash = and_right (ltb i j) (forbidden m (edge es i) (edge es j)) h }))
      (λ (h : (ltb j i && forbidden m (edge es j) (edge es i)) ≡ true).
      inr (record { order = ltb-true j i (and_left (ltb j i) (forbidden m (edge es j) (edge es i)) h); within = hi; clash = and_right (ltb j i) (forbidden m (edge es j) (edge es i)) h }))
      (or_cases (ltb i j && forbidden m (edge es i) (edge es j)) (ltb j i && forbidden m (edge es j) (edge es i)) e)

  is_meets : (i j : ℕ) → Clash es i j ⊎ Clash es j i → meets m (edge es i) (edge es j) ≡ true
  unfolding meets
  is_meets i j (inl c) = ap (λ (b : Bool). b || ltb j i && forbidden m (edge es j) (edge es i)) (ap₂ ◌&&◌ (lt-ltb i j c.order) c.clash)
  is_meets i j (inr c) = ap (λ (b : Bool). ltb i j && forbidden m (edge es i) (edge es j) || b) (ap₂ ◌&&◌ (lt-ltb j i c.order) c.clash) ∙ or-true (ltb i j && forbidden m (edge es i) (edge es j))

  here : (i : ℕ) (s : Meets es i) → i < m
  here i s = ⊎_elim (λ (c : Clash es i s.other). omega (arith, c.order, c.within)) (λ (c : Clash es s.other i). c.within) s.clash

  there : (i : ℕ) (s : Meets es i) → s.other < m
  there i s = ⊎_elim (λ (c : Clash es i s.other). c.within) (λ (c : Clash es s.other i). omega (arith, c.order, c.within)) s.clash

  met : (i : ℕ) → HoldsAt has (0, nowhere) pairs i → Meets es i
  met i p =
      let h : i < m = omega (arith, p.0, numbered-length es) in
      let q = any-holds (meets m (edge es i)) (0, nowhere) pairs (ap has (sym (edge_at i h)) ∙ p.1) in
      let j = least_index (meets m (edge es i)) pairs in
      let l : j < m = omega (arith, q.0, numbered-length es) in
      record { other = j; clash = meets_is i j h l (ap (meets m (edge es i)) (sym (edge_at j l)) ∙ q.1) }

  told : (i : ℕ) → Meets es i → HoldsAt has (0, nowhere) pairs i
  told i s =
      let h = here i s in
      let l = there i s in (
        omega (arith, numbered-length es),
        ap has (edge_at i h)
            ∙ holds-any (meets m (edge es i)) (0, nowhere) pairs s.other (omega (arith, numbered-length es), ap (meets m (edge es i)) (edge_at s.other l) ∙ is_meets i s.other s.clash),
      )

  -- "the least edge index, counted from 0, that has a forbidden meeting"
  pub crossed_least : LeastBelow (Meets es) (length es) (crossed_at es)
  unfolding crossed_at
  crossed_least = subst (λ (n : ℕ). LeastBelow (Meets es) n (crossed_at es)) (numbered-length es) (below_as met told (index_least has (0, nowhere) pairs))

  -- two that clash, as 05 asks for them
  pair : (i j : ℕ) → Clash es i j → is_crossed es ≡ true
  unfolding is_crossed
  pair i j c =
      holds-two (forbidden m) (0, nowhere) pairs
      (record { low = i; high = j; order = c.order; within = omega (arith, c.within, numbered-length es); related = ap₂ (forbidden m) (edge_at i (omega (arith, c.order, c.within))) (edge_at j c.within) ∙ c.clash })

  paired : is_crossed es ≡ true → Meets es (crossed_at es)
  unfolding is_crossed
  paired e =
      let t = two-holds (forbidden m) (0, nowhere) pairs e in
      let h : t.high < m = omega (arith, t.within, numbered-length es) in
      let s : Meets es t.low = record { other = t.high; clash = inl (record { order = t.order; within = h; clash = ap₂ (forbidden m) (sym (edge_at t.low (omega (arith, t.order)))) (sym (edge_at t.high h)) ∙ t.related }) } in
      cases (ltb (crossed_at es) m) (λ b. (crossed_least.found (ltb-true (crossed_at es) m b)).holds) (λ b. absurd (crossed_least.missing (ltb-false (crossed_at es) m b) t.low s))

  -- two edges cross exactly where an edge is told
  pub crossed_is : is_crossed es ≡ ltb (crossed_at es) (length es)
  crossed_is =
      cases (is_crossed es)
      (λ e. e ∙ sym (lt-ltb (crossed_at es) m (here (crossed_at es) (paired e))))
      (λ e. e ∙ sym (cases (ltb (crossed_at es) m) (λ b. absurd (never e (crossed_least.found (ltb-true (crossed_at es) m b)).holds)) (λ b. b)))
    where
      never : is_crossed es ≡ false → Meets es (crossed_at es) → ⊥
      never e s = true≢false (⊎_elim (λ (c : Clash es (crossed_at es) s.other). sym (pair (crossed_at es) s.other c)) (λ (c : Clash es s.other (crossed_at es)). sym (pair s.other (crossed_at es) c)) s.clash ∙ e)

  -- ---- a search for pairs, edge by edge
  -- whether edge i meets a later one
  abbrev pub row : ℕ → Bool
  row i = any (forbidden (length es) (edge es i)) (drop (i + 1) (numbered es))

  row-clash : (i : ℕ) → i < m → row i ≡ true → Meets es i
  row-clash i h e =
      let q = any-holds (forbidden m (edge es i)) (0, nowhere) (drop (i + 1) pairs) e in
      let k = least_index (forbidden m (edge es i)) (drop (i + 1) pairs) in
      let l : i + 1 + k < m = omega (arith, q.0, length-drop (i + 1) pairs, numbered-length es) in
      record { other = i + 1 + k; clash = inl (record { order = omega arith; within = l; clash = ap (forbidden m (edge es i)) (sym (get_or-drop (i + 1) pairs k (0, nowhere) ∙ edge_at (i + 1 + k) l)) ∙ q.1 }) }

  clash-row : (i j : ℕ) → Clash es i j → row i ≡ true
  clash-row i j c =
      let k = j - (i + 1) in
      let z : i + 1 + k ≡ j = omega (arith, c.order) in
      holds-any (forbidden m (edge es i)) (0, nowhere) (drop (i + 1) pairs) k (
        omega (arith, c.order, c.within, length-drop (i + 1) pairs, numbered-length es),
        ap (forbidden m (edge es i)) (get_or-drop (i + 1) pairs k (0, nowhere) ∙ ap (λ (n : ℕ). get_or pairs n (0, nowhere)) z ∙ edge_at j c.within) ∙ c.clash,
      )

  -- no edge before i meets a later one, so that none before i meets any
  module _ (i : ℕ) (none : (k : ℕ) → k < i → row k ≡ false) where
    first : (j : ℕ) → Meets es j → i ≤ j
    first j s = ⊎_elim (λ (c : Clash es j s.other). past j (clash-row j s.other c)) (λ (c : Clash es s.other j). omega (arith, past s.other (clash-row s.other j c), c.order)) s.clash
      where
        past : (k : ℕ) → row k ≡ true → i ≤ k
        past k e = go (dec_lt k i)
          where
            go : Dec (k < i) → i ≤ k
            go (yes p) = absurd (true≢false (sym e ∙ none k p))
            go (no p) = omega arith

    -- the first that meets a later one is told
    pub row_first : i < length es → row i ≡ true → i ≡ crossed_at es
    row_first h e = below_one (record { within = omega arith; found = λ _. record { holds = row-clash i h e; first = first }; missing = λ l. absurd (omega arith) }) crossed_least

    pub row-none : i ≡ length es → i ≡ crossed_at es
    row-none z = below_one (record { within = omega arith; found = λ l. absurd (omega arith); missing = λ _ j s. omega (arith, first j s, here j s) }) crossed_least
