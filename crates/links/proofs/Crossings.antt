-- The tables of corners across from corners: what a word writes, and a pair, and that all pairs together write what they join.
use Prim.Native.Nat.{ℕ, ◌+◌, ◌/◌, ◌%◌, ◌≤◌, ◌<◌}
use native.Mathlib.Decide.{ℕ_discrete}
use native.Mathlib.Omega.{arith}
use mathlib.Core.Path.{◌≡◌, refl, sym, ap, subst, ◌∙◌}
use mathlib.Core.Logic.{◌⊎◌, inl, inr, ⊎_elim, ◌≢◌, by_cases}
use mathlib.Core.List.{List}
use lib.ListN.{length, get_or, set, length-set}
use Rattle.words.specs.held.Words.{step_of, next_of, node_of, Mate}
use Rattle.reach.specs.held.Marking.{Joined}
use Rattle.links.specs.held.Linking.{Joins, Nodes, Links, Lone, Crossed}
use Rattle.reach.specs.laws.Marks.{at_set}
use Rattle.words.specs.laws.Mates.{mate-up, mate-down, mate_one}
use Rattle.reach.specs.laws.Joined.{mate-joined}
use Rattle.links.proofs.Ends.{End, out_end, inn_end, step-node, next-node, out_end_lem, inn_end_lem, side, node_small}
use Rattle.links.proofs.Corners.{joins_at}

-- q is what a word whose g is p, and the other of its pair, have for a table of f
pub record Noted (g : ℕ → ℕ) (f : ℕ → ℕ → ℕ) (l : List ℕ) (p q : ℕ) : Type 0 where
  pub at : ℕ
  pub to : ℕ
  pub within : at < length l
  pub mate : Mate (length l) at to
  pub from : g (get_or l at 0) ≡ p
  pub ends : f (get_or l at 0) (get_or l to 0) ≡ q

-- a table of f, by g, after i words
pub record Noting (g : ℕ → ℕ) (f : ℕ → ℕ → ℕ) (l t : List ℕ) (i : ℕ) : Type 0 where
  pub nodes : Nodes t
  pub sound : (p q : ℕ) → p < 1024 → get_or t p 0 ≡ q → (p ≡ q) ⊎ Noted g f l p q
  pub whole : Lone g l → (j k : ℕ) → j < i → j < length l → Mate (length l) j k → get_or t (g (get_or l j 0)) 0 ≡ f (get_or l j 0) (get_or l k 0)

-- where two words are one and stand in one pair, so are the others of their pairs
mates_same : (l : List ℕ) (i j k k' : ℕ) → j < length l → i < length l → Mate (length l) i k → Mate (length l) j k' → get_or l i 0 ≡ get_or l j 0 → i / 2 ≡ j / 2 → get_or l k 0 ≡ get_or l k' 0
mates_same l i j k k' hj hi a b e d = by_cases (ℕ_discrete k k') (λ q. ap (λ (x : ℕ). get_or l x 0) q) (λ n. let w = crossed (length l) hi hj a b d n in ap (λ (x : ℕ). get_or l x 0) w.0 ∙ (sym e ∙ ap (λ (x : ℕ). get_or l x 0) (sym w.1)))
  where
    odd : (x : ℕ) → (x % 2 ≡ 0) ⊎ (x % 2 ≡ 1)
    odd x = by_cases (ℕ_discrete (x % 2) 0) (λ q. inl q) (λ n. inr (omega arith))

    crossed : (n : ℕ) → i < n → j < n → Mate n i k → Mate n j k' → i / 2 ≡ j / 2 → k ≢ k' → (k ≡ j) × (k' ≡ i)
    crossed n hi hj a b d ne = go (odd i) (odd j)
      where
        go : (i % 2 ≡ 0) ⊎ (i % 2 ≡ 1) → (j % 2 ≡ 0) ⊎ (j % 2 ≡ 1) → (k ≡ j) × (k' ≡ i)
        go (inl p) (inl q) = absurd (ne (mate_one n j k k' (subst (λ (x : ℕ). Mate n x k) (omega arith) a) b))
        go (inr p) (inr q) = absurd (ne (omega (arith, a.down p, b.down q)))
        go (inl p) (inr q) = (omega (arith, a.up p (omega arith)), omega (arith, b.down q))
        go (inr p) (inl q) = (omega (arith, a.down p), omega (arith, b.up q (omega arith)))

module _ (g : ℕ → ℕ) (f : ℕ → ℕ → ℕ) (l t : List ℕ) (i k : ℕ) (s : Noting g f l t i) (h : i < length l) (mate : Mate (length l) i k) (x y : ℕ) (ex : x ≡ g (get_or l i 0)) (ey : y ≡ f (get_or l i 0) (get_or l k 0)) (in_x : x < 1024) (in_y : y < 1024) where
  inside : x < length t
  inside = omega (arith, s.nodes.size)

  after : (p : ℕ) → ((p ≡ x) × (get_or (set t x y) p 0 ≡ y)) ⊎ ((p ≢ x) × (get_or (set t x y) p 0 ≡ get_or t p 0))
  after p = at_set t x y p inside

  kept : Lone g l → (j k' : ℕ) → j < i + 1 → j < length l → Mate (length l) j k' → ((g (get_or l j 0) ≡ x) × (get_or (set t x y) (g (get_or l j 0)) 0 ≡ y)) ⊎ ((g (get_or l j 0) ≢ x) × (get_or (set t x y) (g (get_or l j 0)) 0 ≡ get_or t (g (get_or l j 0)) 0)) → get_or (set t x y) (g (get_or l j 0)) 0 ≡ f (get_or l j 0) (get_or l k' 0)
  kept o j k' lt hj b (inl w) =
      let e = o.same i j h hj (sym ex ∙ sym w.0) in
      w.1 ∙ (ey ∙ (ap (λ (z : ℕ). f z (get_or l k 0)) e.0 ∙ ap (λ (z : ℕ). f (get_or l j 0) z) (mates_same l i j k k' hj h mate b e.0 e.1)))
  kept o j k' lt hj b (inr w) = w.1 ∙ s.whole o j k' (before (ℕ_discrete j i)) hj b
    where
      before : Dec (j ≡ i) → j < i
      before (yes q) = absurd (w.0 (ap (λ (z : ℕ). g (get_or l z 0)) q ∙ sym ex))
      before (no n) = omega arith

  pub note_more : Noting g f l (set t x y) (i + 1)
  note_more = record {
    nodes = record {
      size = simp length-set s.nodes.size;
      small = λ p. ⊎_elim (λ (w : (p ≡ x) × (get_or (set t x y) p 0 ≡ y)). omega (arith, w.1)) (λ (w : (p ≢ x) × (get_or (set t x y) p 0 ≡ get_or t p 0)). omega (arith, w.1, s.nodes.small p)) (after p);
    };
    sound = λ p q lt e. ⊎_elim (λ (w : (p ≡ x) × (get_or (set t x y) p 0 ≡ y)). inr (record { at = i; to = k; within = h; mate = mate; from = sym ex ∙ sym w.0; ends = sym ey ∙ (sym w.1 ∙ e) })) (λ (w : (p ≢ x) × (get_or (set t x y) p 0 ≡ get_or t p 0)). s.sound p q lt (sym w.1 ∙ e)) (after p);
    whole = λ o j k' lt hj b. kept o j k' lt hj b (after (g (get_or l j 0)));
  }

-- both words of a pair
module _ (g : ℕ → ℕ) (f : ℕ → ℕ → ℕ) (l t : List ℕ) (i : ℕ) (s : Noting g f l t i) (even : i % 2 ≡ 0) (h : i + 1 < length l) (gs : (w : ℕ) → g w < 1024) (fs : (v w : ℕ) → f v w < 1024) where
  abbrev v : ℕ
  v = get_or l i 0

  abbrev w : ℕ
  w = get_or l (i + 1) 0

  first_noted : Noting g f l (set t (g v) (f v w)) (i + 1)
  first_noted = note_more g f l t i (i + 1) s (omega arith) (mate-up (length l) i even h) (g v) (f v w) refl refl (gs v) (fs v w)

  pub note_pair : Noting g f l (set (set t (g v) (f v w)) (g w) (f w v)) (i + 2)
  note_pair = subst (λ (k : ℕ). Noting g f l (set (set t (g v) (f v w)) (g w) (f w v)) k) (two i) (note_more g f l (set t (g v) (f v w)) (i + 1) i first_noted h (mate-down (length l) i even h) (g w) (f w v) refl refl (gs w) (fs w v))
    where
      two : (n : ℕ) → n + 1 + 1 ≡ n + 2
      two n = omega arith

-- ---- both tables

-- the corner of w at the end at which the step of v starts, and the one at the other end
abbrev pub out_of : ℕ → ℕ → ℕ
out_of v w = node_of (out_end v) w

abbrev pub inn_of : ℕ → ℕ → ℕ
inn_of v w = node_of (inn_end v) w

module _ (l t : List ℕ) (i : ℕ) (even : i % 2 ≡ 0) (h : i + 1 < length l) where
  pub out_pair : Noting step_of out_of l t i → Noting step_of out_of l (set (set t (step_of (get_or l i 0)) (out_of (get_or l i 0) (get_or l (i + 1) 0))) (step_of (get_or l (i + 1) 0)) (out_of (get_or l (i + 1) 0) (get_or l i 0))) (i + 2)
  out_pair s = note_pair step_of out_of l t i s even h (λ w. omega arith) (λ v w. node_small (out_end v) w (out_end_lem v))

  pub inn_pair : Noting next_of inn_of l t i → Noting next_of inn_of l (set (set t (next_of (get_or l i 0)) (inn_of (get_or l i 0) (get_or l (i + 1) 0))) (next_of (get_or l (i + 1) 0)) (inn_of (get_or l (i + 1) 0) (get_or l i 0))) (i + 2)
  inn_pair s = note_pair next_of inn_of l t i s even h (λ w. omega arith) (λ v w. node_small (inn_end v) w (inn_end_lem v))

module _ (l : List ℕ) where
  -- what a word writes is joined
  noted_joins : (h p q i k : ℕ) → i < length l → Mate (length l) i k → End h → node_of h (get_or l i 0) ≡ p → node_of h (get_or l k 0) ≡ q → (p ≡ q) ⊎ Joins 1 2 l p q
  noted_joins h p q i k lt m z a b = ⊎_elim (λ (e : i ≡ k). inl (sym a ∙ (ap (λ (x : ℕ). node_of h (get_or l x 0)) e ∙ b))) (λ (j : Joined l (node_of h) (node_of h (get_or l i 0)) (node_of h (get_or l k 0))). inr (joins_at l h p q z (rw (a, b) at j))) (mate-joined l (node_of h) i k lt m)

  module _ (out inn : List ℕ) (i : ℕ) (a : Noting step_of out_of l out i) (b : Noting next_of inn_of l inn i) (even : i % 2 ≡ 0) (ge : length l ≤ i + 1) where
    sound : (p q : ℕ) → p < 1024 → Links out inn p q → (p ≡ q) ⊎ Joins 1 2 l p q
    sound p q h (inl e) = ⊎_elim (λ (z : p ≡ q). inl z) (λ (w : Noted step_of out_of l p q). let v = get_or l w.at 0 in noted_joins (out_end v) p q w.at w.to w.within w.mate (out_end_lem v) (sym (step-node v) ∙ w.from) w.ends) (a.sound p q h e)
    sound p q h (inr e) = ⊎_elim (λ (z : p ≡ q). inl z) (λ (w : Noted next_of inn_of l p q). let v = get_or l w.at 0 in noted_joins (inn_end v) p q w.at w.to w.within w.mate (inn_end_lem v) (sym (next-node v) ∙ w.from) w.ends) (b.sound p q h e)

    module _ (f : Lone step_of l) (g : Lone next_of l) where
      across : (h j k : ℕ) → j < i → j < length l → Mate (length l) j k → End h → Links out inn (node_of h (get_or l j 0)) (node_of h (get_or l k 0))
      across h j k before lt m z = go (side h (get_or l j 0) z)
        where
          go : (h ≡ out_end (get_or l j 0)) ⊎ (h ≡ inn_end (get_or l j 0)) → Links out inn (node_of h (get_or l j 0)) (node_of h (get_or l k 0))
          go (inl e) = inl (ap (λ (x : ℕ). get_or out x 0) (ap (λ (x : ℕ). node_of x (get_or l j 0)) e ∙ sym (step-node (get_or l j 0))) ∙ (a.whole f j k before lt m ∙ ap (λ (x : ℕ). node_of x (get_or l k 0)) (sym e)))
          go (inr e) = inr (ap (λ (x : ℕ). get_or inn x 0) (ap (λ (x : ℕ). node_of x (get_or l j 0)) e ∙ sym (next-node (get_or l j 0))) ∙ (b.whole g j k before lt m ∙ ap (λ (x : ℕ). node_of x (get_or l k 0)) (sym e)))

      joined-links : (h p q : ℕ) → End h → Joined l (node_of h) p q → Links out inn p q
      joined-links h p q s j = go j.ends
        where
          second : (n : ℕ) → n % 2 ≡ 0 → n + 1 < length l → n + 1 < i
          second n e h = omega arith

          first : (n : ℕ) → n + 1 < i → n < i
          first n h = omega arith

          go : ((node_of h (get_or l j.at 0) ≡ p) × (node_of h (get_or l (j.at + 1) 0) ≡ q)) ⊎ ((node_of h (get_or l (j.at + 1) 0) ≡ p) × (node_of h (get_or l j.at 0) ≡ q)) → Links out inn p q
          go (inl w) = rw (w.0, w.1) at (across h j.at (j.at + 1) (first j.at (second j.at j.even j.within)) (omega (arith, j.within)) (mate-up (length l) j.at j.even j.within) s)
          go (inr w) = rw (w.0, w.1) at (across h (j.at + 1) j.at (second j.at j.even j.within) j.within (mate-down (length l) j.at j.even j.within) s)

      whole : (p q : ℕ) → Joins 1 2 l p q → Links out inn p q
      whole p q (inl j) = joined-links 1 p q (inl refl) j
      whole p q (inr j) = joined-links 2 p q (inr refl) j

    pub crossed : Crossed l out inn
    crossed = record { outs = a.nodes; inns = b.nodes; sound = sound; whole = whole }
