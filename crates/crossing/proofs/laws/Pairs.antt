-- Check 05, pair of edges by pair of edges.
use Rattle.std.specs.Prelude.{ℕ, zero, suc, ◌+◌, ◌-◌, ◌≤◌, ◌<◌, ◌≡◌, Bool, true, false, ◌&&◌, ◌||◌, List, eqb, length, get_or, drop, ℤ, pos}
use Rattle.std.proofs.Common.{arith, add-one, ap, ◌∙◌, subst, eq-eqb, ne_eqb}
use Rattle.std.proofs.Math.Decide.{dec_lt}
use Rattle.std.proofs.Math.Path.{refl, sym, ap₂}
use Rattle.whole.specs.Lists.{any, tab, numbered}
use Rattle.whole.specs.laws.Search.{any_here, any_next, any_end}
use Rattle.whole.specs.laws.Places.{tab-length, tab-at, numbered-length, numbered-at}
use Rattle.plane.specs.Plane.{Segment, share, share_more_of}
use Rattle.crossing.specs.Crossed.{follows, forbidden, crossed_at}
use Rattle.plane.specs.held.Edges.{Ends, edge_at, spot}
use Rattle.crossing.specs.held.Columns.{Spread}
use Rattle.crossing.proofs.laws.Least.{row, row_first, row-none}

-- ---- which pairs are neighbours: i before j
follows_yes : (m i j : ℕ) → i + 1 ≡ j → follows m i j ≡ true
unfolding follows
follows_yes m i j e = ap (λ (t : Bool). t || eqb j 0 && eqb (suc i) m) (eq-eqb j (suc i) (omega arith))

follows-not : (m i j : ℕ) → i < j → (i + 1 ≡ j → ⊥) → follows m i j ≡ false
unfolding follows
follows-not m i j h f =
    ap₂ (λ (t s : Bool). t || s && eqb (suc i) m) (ne_eqb j (suc i) (λ e. f (add-one i ∙ sym e))) (ne_eqb j 0 (λ e. absurd (omega arith)))

follows-back : (m i j : ℕ) → i < j → follows m j i ≡ (eqb i 0 && eqb (j + 1) m)
unfolding follows
follows-back m i j h = ap₂ (λ (t : Bool) (n : ℕ). t || eqb i 0 && eqb n m) (ne_eqb i (suc j) (λ e. omega arith)) (sym (add-one j))

abbrev pick : Bool → Bool → Segment → Segment → Bool
pick s t e f = elim s [ true ↦ share_more_of e f | false ↦ elim t [ true ↦ share_more_of f e | false ↦ share e f ] ]

module _ (m i j : ℕ) (e f : Segment) where
  picked : forbidden m (i, e) (j, f) ≡ pick (follows m i j) (follows m j i) e f
  unfolding forbidden
  picked = refl

  pub clash_next_lem : i + 1 ≡ j → share_more_of e f ≡ forbidden m (i, e) (j, f)
  clash_next_lem z = sym (picked ∙ ap (λ (s : Bool). pick s (follows m j i) e f) (follows_yes m i j z))

  module _ (h : i < j) (z : i + 1 ≡ j → ⊥) where
    rest : {t : Bool} → (eqb i 0 && eqb (j + 1) m) ≡ t → pick false t e f ≡ forbidden m (i, e) (j, f)
    rest y = sym (picked ∙ ap₂ (λ (s t : Bool). pick s t e f) (follows-not m i j h z) (follows-back m i j h ∙ y))

    pub clash-last : (eqb i 0 && eqb (j + 1) m) ≡ true → share_more_of f e ≡ forbidden m (i, e) (j, f)
    clash-last y = rest y

    pub clash-other : (eqb i 0 && eqb (j + 1) m) ≡ false → share e f ≡ forbidden m (i, e) (j, f)
    clash-other y = rest y

-- ---- the edges between places that are there
pub ends_at : {us vs : List ℤ} {m : ℕ} → Spread us vs m → (i : ℕ) → i < m → Ends (edge_at us vs i)
ends_at s i h =
    record {
      from = record { on_u = s.close_u i (omega arith); on-v = s.close_v i (omega arith) };
      to = record { on_u = s.close_u (i + 1) (omega arith); on-v = s.close_v (i + 1) (omega arith) };
    }

pub ends_same : {e f : Segment} → e ≡ f → Ends f → Ends e
ends_same e h = subst (λ (s : Segment). Ends s) (sym e) h

module _ (us vs : List ℤ) (m : ℕ) where
  -- the edges with their numbers
  abbrev pub edges : List (ℕ × Segment)
  edges = numbered (tab (edge_at us vs) m)

  nowhere : ℕ × Segment
  nowhere = (0, (spot (pos 0) (pos 0), spot (pos 0) (pos 0)))

  edges-length : length edges ≡ m
  edges-length = numbered-length (tab (edge_at us vs) m) ∙ tab-length (edge_at us vs) m

  edge_is : (j : ℕ) → j < m → get_or edges j nowhere ≡ (j, edge_at us vs j)
  edge_is j h =
      numbered-at (tab (edge_at us vs) m) j nowhere nowhere.1 (subst (λ (n : ℕ). j < n) (sym (tab-length (edge_at us vs) m)) h)
      ∙ ap (λ (e : Segment). (j, e)) (tab-at (edge_at us vs) m j nowhere.1 h)

  inside : (j : ℕ) → j < m → j < length edges
  inside j h = subst (λ (n : ℕ). j < n) (sym edges-length) h

  -- ---- one row: an edge and a later one
  module _ (t : ℕ × Segment → Bool) (j : ℕ) where
    pub row_here : j < m → t (j, edge_at us vs j) ≡ true → any t (drop j edges) ≡ true
    row_here h e = any_here t edges j nowhere (inside j h) (ap t (edge_is j h) ∙ e)

    pub row_next : j < m → t (j, edge_at us vs j) ≡ false → any t (drop (j + 1) edges) ≡ any t (drop j edges)
    row_next h e = sym (any_next t edges j nowhere (inside j h) (ap t (edge_is j h) ∙ e))

    pub row_back : j < m → any t (drop (j + 1) edges) ≡ true → any t (drop j edges) ≡ true
    row_back h e = go (t (j, edge_at us vs j)) refl
      where
        go : (b : Bool) → t (j, edge_at us vs j) ≡ b → any t (drop j edges) ≡ true
        go true z = row_here h z
        go false z = sym (row_next h z) ∙ e

    pub row-end : j ≡ m → any t (drop j edges) ≡ false
    row-end e = any_end t edges j (e ∙ sym edges-length)

  -- edges that do not pass a test tell nothing
  row-some : (t : ℕ × Segment → Bool) (j d : ℕ) → j + d ≤ m → ((k : ℕ) → j ≤ k → k < j + d → t (k, edge_at us vs k) ≡ false) → any t (drop j edges) ≡ any t (drop (j + d) edges)
  row-some t j zero h f = let z : j ≡ j + 0 = omega arith in ap (λ (n : ℕ). any t (drop n edges)) z
  row-some t j (suc d) h f =
      let z : j + d + 1 ≡ j + suc d = omega arith in
      row-some t j d (omega arith) (λ k a b. f k a (omega arith)) ∙ sym (row_next t (j + d) (omega arith) (f (j + d) (omega arith) (omega arith))) ∙ ap (λ (n : ℕ). any t (drop n edges)) z

  pub row-over : (t : ℕ × Segment → Bool) (j n : ℕ) → j ≤ n → n ≤ m → ((k : ℕ) → j ≤ k → k < n → t (k, edge_at us vs k) ≡ false) → any t (drop j edges) ≡ any t (drop n edges)
  row-over t j n a b f =
      let z : j + (n - j) ≡ n = omega arith in
      row-some t j (n - j) (omega arith) (λ k g h. f k g (omega arith)) ∙ ap (λ (n : ℕ). any t (drop n edges)) z

  -- what is found from a later edge on is found from an earlier one on
  pub row-back_to : (t : ℕ × Segment → Bool) (j d : ℕ) → j + d < m → any t (drop (j + d) edges) ≡ true → any t (drop j edges) ≡ true
  row-back_to t j zero h e = let z : j ≡ j + 0 = omega arith in ap (λ (n : ℕ). any t (drop n edges)) z ∙ e
  row-back_to t j (suc d) h e =
      let z : j + d + 1 ≡ j + suc d = omega arith in
      row-back_to t j d (omega arith) (row_back t (j + d) (omega arith) (ap (λ (n : ℕ). any t (drop n edges)) z ∙ e))

  -- ---- all rows
  -- whether edge i and a later one have in common what they may not
  abbrev pub row_at : ℕ → Bool
  row_at i = any (forbidden m (i, edge_at us vs i)) (drop (i + 1) edges)

  -- not so of the first i edges
  pub record Clear (i : ℕ) : Type 0 where
    pub each : (k : ℕ) → k < i → row_at k ≡ false

  pub clear_none : Clear 0
  clear_none = record { each = λ k h. absurd (omega arith) }

  pub clear_more : {i : ℕ} → Clear i → row_at i ≡ false → Clear (i + 1)
  clear_more {i} c e = record { each = λ k h. go k h (dec_lt k i) }
    where
      go : (k : ℕ) → k < i + 1 → Dec (k < i) → row_at k ≡ false
      go k h (yes p) = c.each k p
      go k h (no p) = let z : k ≡ i = omega arith in ap row_at z ∙ e

  es : List Segment
  es = tab (edge_at us vs) m

  -- the rows are those of the edges' list
  row_is : (i : ℕ) → i < m → row es i ≡ row_at i
  unfolding es
  row_is i h = ap₂ (λ (n : ℕ) (e : Segment). any (forbidden n (i, e)) (drop (i + 1) edges)) (tab-length (edge_at us vs) m) (tab-at (edge_at us vs) m i _ h)

  module _ {i : ℕ} (c : Clear i) (h : i ≤ m) where
    clear : (k : ℕ) → k < i → row es k ≡ false
    clear k l = row_is k (omega arith) ∙ c.each k l

    pub clear-found : i < m → row_at i ≡ true → i ≡ crossed_at (tab (edge_at us vs) m)
    unfolding es
    clear-found l e = row_first es i clear (omega (arith, tab-length (edge_at us vs) m)) (row_is i l ∙ e)

    pub clear-end : i ≡ m → i ≡ crossed_at (tab (edge_at us vs) m)
    unfolding es
    clear-end z = row-none es i clear (z ∙ sym (tab-length (edge_at us vs) m))
