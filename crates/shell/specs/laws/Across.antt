-- What the table tells of the rings that it was built from: how often each edge is used, and what is reached across pairs of words.
use Prim.Native.Nat.{ℕ, zero, suc, ◌+◌, ◌-◌, ◌%◌, ◌≤◌, ◌<◌}
use Rattle.std.proofs.Math.Nat.{le_refl}
use Rattle.std.proofs.Common.{add-one, sym, ◌∙◌, inl, inr, eq-eqb}
use Rattle.std.proofs.Math.Decide.{dec_lt, ℕ_discrete}
use native.Mathlib.Omega.{arith}
use Rattle.std.specs.Prelude.{◌≡◌, refl, ◌⊎◌, List, [], map, length}
use Rattle.std.proofs.Math.Path.{ap, subst}
use Rattle.std.proofs.Math.Logic.{⊎_elim, by_cases}
use Rattle.std.proofs.Math.Option.{Option, none, some}
use Rattle.std.proofs.Math.ListN.{get_or}
use Rattle.std.proofs.lemmas.List.{length-map}
use Rattle.ring.specs.Polygon.{Polygon, rings_of, one, all, all_rings}
use Rattle.ring.specs.held.Rings.{ring_at, polygon_at, polygons, owner_of}
use Rattle.ring.specs.laws.Owners.{owner, owned, rings_are, firsts_ordered}
use Rattle.whole.specs.held.Spans.{span}
use Rattle.edges.specs.Edges.{edge, edges_of, count, used_once, used_often}
use Rattle.reach.specs.Reach.{Reach, start, step}
use Rattle.shell.specs.Shell.{nth, edges_at, not_reached}
use Rattle.edges.specs.held.Ascending.{In}
use Rattle.whole.specs.laws.Places.{tab-length, tab-at}
use Rattle.words.specs.held.Words.{key_from, poly_from}
use Rattle.edges.specs.held.Table.{words_of, step_word}
use Rattle.edges.specs.Order.{ascending}
use Rattle.shell.specs.held.Kept.{Loaded}
use Rattle.edges.specs.laws.Tallies.{in_tally, in_place, place_in, in_left, in_right, in_either}
use Rattle.edges.specs.laws.Ascending.{asc_ascending, tally-ascending, in_ascending, ascending_in}
use Rattle.whole.specs.laws.Least.{least_as}
use Rattle.shell.specs.held.Runs.{LeastAt, Between}
use Rattle.reach.specs.held.Marking.{Joined}
use Rattle.apart.specs.held.Reaching.{LowestCut}
use Rattle.shell.specs.laws.Adequate.{reach_by, Is, is_some, is_none, uses, once_is, often_is, apart_is, Shares, Unreached, edge_below}
use Rattle.shell.specs.laws.Uses.{Use, words_use, use_words, step_use, use-key, use-poly, keys_all, ring_edges, in_span, span_in}
use Rattle.shell.specs.laws.Keys.{key_at}
use Rattle.shell.specs.laws.Pairs.{Pairs, pairs, pairs_even, pairs-same, of_edge, tally_keys}

-- what one ring of a row has, all have
module _ (f : List ℕ → List ℕ) (g : ℕ → List ℕ) (x : ℕ) where
  in_rings : (i k j : ℕ) → i ≤ j → j < i + k → In x (f (g j)) → In x (all f (span g i k))
  unfolding all span
  in_rings i zero j a b m = absurd (none a b)
    where
      none : i ≤ j → j < i + 0 → ⊥
      none a b = omega arith
  in_rings i (suc k) j a b m = by_cases (ℕ_discrete j i) (λ e. in_left x (f (g i)) (all f (span g (i + 1) k)) (subst (λ (z : ℕ). In x (f (g z))) e m)) (λ d. in_right x (f (g i)) (all f (span g (i + 1) k)) (in_rings (i + 1) k j (omega arith) (omega arith) m))

  rings_in : (i k : ℕ) → In x (all f (span g i k)) → (j : ℕ) × (i ≤ j) × (j < i + k) × In x (f (g j))
  unfolding all span
  rings_in i zero m = absurd m
  rings_in i (suc k) m = ⊎_elim (λ (y : In x (f (g i))). (i, le_refl i, omega arith, y)) (λ (y : In x (all f (span g (i + 1) k))). let w = rings_in (i + 1) k y in (w.0, omega (arith, w.1), omega (arith, w.2), w.3)) (in_either x (f (g i)) (all f (span g (i + 1) k)) m)

module _ (es st ft : List ℕ) (n : ℕ) (l : Loaded es st ft n) where
  abbrev ps : List Polygon
  ps = polygons es st ft n

  abbrev rs : List (List ℕ)
  rs = all_rings ps

  abbrev many : ℕ
  many = get_or ft n 0

  abbrev of : ℕ → ℕ
  of = owner_of ft n

  abbrev table : List ℕ
  table = ascending (words_of es st ft n)

  pub polygons-length : length ps ≡ n
  unfolding polygons
  polygons-length = tab-length (polygon_at es st ft) n

  pub polygon_is : (p : ℕ) → p < n → nth ps p ≡ polygon_at es st ft p
  unfolding polygons
  polygon_is p h = tab-at (polygon_at es st ft) n p (one []) h

  rings_of_lem : (p : ℕ) → p < n → rings_of (nth ps p) ≡ span (ring_at es st) (get_or ft p 0) (get_or ft (p + 1) 0 - get_or ft p 0)
  rings_of_lem p h = ap rings_of (polygon_is p h) ∙ rings_are es st (get_or ft p 0) (get_or ft (p + 1) 0) (l.layout.rising p (p + 1) (omega arith) (omega arith))

  -- what a ring has, its polygon has, and what a polygon has, one of its rings has
  pub ring_polygon : (f : List ℕ → List ℕ) (r x : ℕ) → r < many → In x (f (ring_at es st r)) → In x (all f (rings_of (nth ps (of r))))
  ring_polygon f r x h i =
      let o = owner es st ft n l.layout r h in
      subst (λ (z : List (List ℕ)). In x (all f z)) (sym (rings_of_lem (of r) o.below)) (in_rings f (ring_at es st) x (get_or ft (of r) 0) (get_or ft (of r + 1) 0 - get_or ft (of r) 0) r o.from (before (get_or ft (of r) 0) (get_or ft (of r + 1) 0) r o.from o.to) i)
    where
      before : (a b r : ℕ) → a ≤ r → r < b → r < a + (b - a)
      before a b r f t = omega arith

  pub record Ringed (f : List ℕ → List ℕ) (p x : ℕ) : Type 0 where
    pub ring : ℕ
    pub below : ring < many
    pub from : get_or ft p 0 ≤ ring
    pub to : ring < get_or ft (p + 1) 0
    pub has : In x (f (ring_at es st ring))

  pub polygon_ring : (f : List ℕ → List ℕ) (p x : ℕ) → p < n → In x (all f (rings_of (nth ps p))) → Ringed f p x
  polygon_ring f p x h i =
      let w = rings_in f (ring_at es st) x (get_or ft p 0) (get_or ft (p + 1) 0 - get_or ft p 0) (subst (λ (z : List (List ℕ)). In x (all f z)) (rings_of_lem p h) i) in
      let t : w.0 < get_or ft (p + 1) 0 = after (get_or ft p 0) (get_or ft (p + 1) 0) w.0 w.1 w.2 in
      record { ring = w.0; below = omega (arith, t, firsts_ordered es st ft n l.layout (p + 1) n (omega arith) (le_refl n)); from = w.1; to = t; has = w.3 }
    where
      after : (a b r : ℕ) → a ≤ r → r < a + (b - a) → r < b
      after a b r f t = omega arith

  pub ringed_owner : (f : List ℕ → List ℕ) (p x : ℕ) → p < n → (w : Ringed f p x) → of w.ring ≡ p
  ringed_owner f p x h w = owned es st ft n l.layout p w.ring h w.from w.to

  -- an edge has as many words as uses
  pub key_count : (e : ℕ) → count e (map key_from table) ≡ uses rs e
  unfolding uses
  key_count e = tally_keys e table ∙ (tally-ascending (of_edge e) (words_of es st ft n) ∙ (sym (tally_keys e (words_of es st ft n)) ∙ ap (count e) (keys_all es st ft n l)))

  -- the run that was found is that of the least edge used so often
  module _ (least most r : ℕ) (f : LeastAt (Between least most (map key_from table)) (map key_from table) r) (P : ℕ → Type 0) (o : Option ℕ) (i : Is P o) (to : (e : ℕ) → least ≤ uses rs e → uses rs e ≤ most → P e) (of : (e : ℕ) → P e → (least ≤ uses rs e) × (uses rs e ≤ most)) where
    to-p : (e : ℕ) → Between least most (map key_from table) e → P e
    to-p e b = to e (subst (λ (k : ℕ). least ≤ k) (key_count e) b.enough) (subst (λ (k : ℕ). k ≤ most) (key_count e) b.few)

    of-p : (e : ℕ) → P e → Between least most (map key_from table) e
    of-p e p = record { enough = subst (λ (k : ℕ). least ≤ k) (sym (key_count e)) (of e p).0; few = subst (λ (k : ℕ). k ≤ most) (sym (key_count e)) (of e p).1 }

    pub run-found : r < length table → o ≡ some (key_from (get_or table r 0))
    run-found h = subst (λ (k : ℕ). o ≡ some k) (key_at table r) (is_some i (least_as to-p of-p (f.found (rw length-map h))))

    pub run-missing : length table ≤ r → o ≡ none
    run-missing h = is_none i (λ e p. f.missing (rw length-map h) e (of-p e p))

  -- where no edge is used once, and none more than twice, the words stand in pairs
  pub all-pairs : used_once rs ≡ none → used_often rs ≡ none → Pairs table
  all-pairs a b = pairs table (asc_ascending (words_of es st ft n)) (λ x i. sym (tally_keys (key_from x) table) ∙ two (key_from x) (some_use x i))
    where
      some_use : (x : ℕ) → In x table → 1 ≤ uses rs (key_from x)
      some_use x i = subst (λ (k : ℕ). 1 ≤ k) (key_count (key_from x)) (subst (λ (k : ℕ). 1 ≤ k) (sym (tally_keys (key_from x) table)) (in_tally (of_edge (key_from x)) x table i (eq-eqb (key_from x) (key_from x) refl)))

      two : (e : ℕ) → 1 ≤ uses rs e → count e (map key_from table) ≡ 2
      two e h = key_count e ∙ exactly (uses rs e) h (λ z. (once_is rs).missing a e z) (λ z. (often_is rs).missing b e z)
        where
          exactly : (k : ℕ) → 1 ≤ k → (k ≡ 1 → ⊥) → (2 < k → ⊥) → k ≡ 2
          exactly k h x y = omega arith

  -- a word's edge is one of its polygon's, and each edge of a polygon has a word
  pub place_use : (i : ℕ) → i < length table → Use es st ft n (get_or table i 0)
  place_use i h = words_use es st ft n l many (get_or table i 0) (le_refl many) (in_ascending (words_of es st ft n) (get_or table i 0) (place_in table i h))

  pub step-place : (r i : ℕ) → r < many → get_or st r 0 ≤ i → i + 1 < get_or st (r + 1) 0 → (j : ℕ) × (j < length table) × (get_or table j 0 ≡ step_word es (of r) (get_or st r 0) (get_or st (r + 1) 0) i)
  step-place r i h f t = in_place (step_word es (of r) (get_or st r 0) (get_or st (r + 1) 0) i) table (ascending_in (words_of es st ft n) (step_word es (of r) (get_or st r 0) (get_or st (r + 1) 0) i) (use_words es st ft n l many r i h (le_refl many) f t))

  use_edge : (w : ℕ) (u : Use es st ft n w) → In (edge (get_or es u.at 0) (get_or es (u.at + 1) 0)) (edges_at ps (of u.ring))
  unfolding edges_at
  use_edge w u =
      ring_polygon edges_of u.ring (edge (get_or es u.at 0) (get_or es (u.at + 1) 0)) u.below (rw (ring_edges es st ft n l u.ring u.below) (span_in (λ i. edge (get_or es i 0) (get_or es (i + 1) 0)) (get_or st u.ring 0) (get_or st (u.ring + 1) 0 - get_or st u.ring 0 - 1) u.at u.from (inner (get_or st u.ring 0) (get_or st (u.ring + 1) 0) u.at u.from u.to)))
    where
      inner : (a b k : ℕ) → a ≤ k → k + 1 < b → k < a + (b - a - 1)
      inner a b k g h = omega arith

  pub place-edge : (i : ℕ) → i < length table → In (key_from (get_or table i 0)) (edges_at ps (poly_from (get_or table i 0)))
  place-edge i h =
      let u = place_use i h in
      rw (use-key es st ft n l (get_or table i 0) u, use-poly es st ft n l (get_or table i 0) u) (use_edge (get_or table i 0) u)

  inner : (a b k : ℕ) → k < a + (b - a - 1) → a ≤ k → k + 1 < b
  inner a b k h g = omega arith

  -- where a word of edge e and polygon p stands
  abbrev Placed : ℕ → ℕ → Type 0
  Placed e p = (i : ℕ) × (i < length table) × (key_from (get_or table i 0) ≡ e) × (poly_from (get_or table i 0) ≡ p)

  step-edge : (e r i : ℕ) (h : r < many) (f : get_or st r 0 ≤ i) (t : i + 1 < get_or st (r + 1) 0) → e ≡ edge (get_or es i 0) (get_or es (i + 1) 0) → (j : ℕ) × (j < length table) × (get_or table j 0 ≡ step_word es (of r) (get_or st r 0) (get_or st (r + 1) 0) i) → Placed e (of r)
  step-edge e r i h f t q j =
      let w = step_word es (of r) (get_or st r 0) (get_or st (r + 1) 0) i in
      let u = step_use es st ft n l r i h f t in
      (j.0, j.1, ap key_from j.2 ∙ (use-key es st ft n l w u ∙ sym q), ap poly_from j.2 ∙ use-poly es st ft n l w u)

  ring_edge : (e r : ℕ) → r < many → (k : ℕ) × (get_or st r 0 ≤ k) × (k < get_or st r 0 + (get_or st (r + 1) 0 - get_or st r 0 - 1)) × (e ≡ edge (get_or es k 0) (get_or es (k + 1) 0)) → Placed e (of r)
  ring_edge e r h (k, f, t, q) = step-edge e r k h f (inner (get_or st r 0) (get_or st (r + 1) 0) k t f) q (step-place r k h f (inner (get_or st r 0) (get_or st (r + 1) 0) k t f))

  pub edge-place : (e p : ℕ) → In e (edges_at ps p) → Placed e p
  unfolding edges_at
  edge-place e p i =
      let h : p < n = subst (λ (k : ℕ). p < k) polygons-length (edge_below ps p e i) in
      let w = polygon_ring edges_of p e h i in
      subst (Placed e) (ringed_owner edges_of p e h w) (ring_edge e w.ring w.below (in_span (λ i. edge (get_or es i 0) (get_or es (i + 1) 0)) e (get_or st w.ring 0) (get_or st (w.ring + 1) 0 - get_or st w.ring 0 - 1) (rw (ring_edges es st ft n l w.ring w.below) at w.has)))

  -- 0B, where the words stand in pairs
  module _ (two : Pairs table) where
    -- words of one edge are one, or a pair
    pub same_key : (i j : ℕ) → i < length table → j < length table → key_from (get_or table i 0) ≡ key_from (get_or table j 0) → (i ≡ j) ⊎ (((i % 2 ≡ 0) × (j ≡ i + 1)) ⊎ ((j % 2 ≡ 0) × (i ≡ j + 1)))
    same_key i j hi hj e = by_cases (dec_lt i j) (λ lt. let r = pairs-same two i j lt hj e in inr (inl (r.0, r.1 ∙ sym (add-one i)))) (λ ge. by_cases (dec_lt j i) (λ lt. let r = pairs-same two j i lt hi (sym e) in inr (inr (r.0, r.1 ∙ sym (add-one j)))) (λ le. inl (omega arith)))

    pub pair-key : (i : ℕ) → i % 2 ≡ 0 → i + 1 < length table → key_from (get_or table i 0) ≡ key_from (get_or table (i + 1) 0)
    pair-key i e h = subst (λ (k : ℕ). key_from (get_or table i 0) ≡ key_from (get_or table k 0)) (sym (add-one i)) (pairs_even two i e (omega arith))

    -- words of one edge are joined
    pub joined_key : {S : ℕ → Type 0} (g : ℕ → ℕ) (i j : ℕ) → i < length table → j < length table → key_from (get_or table i 0) ≡ key_from (get_or table j 0) → Reach S (Joined table g) (g (get_or table i 0)) → Reach S (Joined table g) (g (get_or table j 0))
    joined_key {S} g i j hi hj e r = go (same_key i j hi hj e)
      where
        go : (i ≡ j) ⊎ (((i % 2 ≡ 0) × (j ≡ i + 1)) ⊎ ((j % 2 ≡ 0) × (i ≡ j + 1))) → Reach S (Joined table g) (g (get_or table j 0))
        go (inl q) = subst (λ (k : ℕ). Reach S (Joined table g) (g (get_or table k 0))) q r
        go (inr (inl w)) = step r (record { at = i; even = w.0; within = subst (λ (k : ℕ). k < length table) w.1 hj; ends = inl (refl, ap (λ (k : ℕ). g (get_or table k 0)) (sym w.1)) })
        go (inr (inr w)) = step r (record { at = j; even = w.0; within = subst (λ (k : ℕ). k < length table) w.1 hi; ends = inr (ap (λ (k : ℕ). g (get_or table k 0)) (sym w.1), refl) })

    shares-joined : {S : ℕ → Type 0} {q : ℕ} → Reach S (Shares ps) q → Reach S (Joined table poly_from) q
    shares-joined (start s) = start s
    shares-joined {S} (step {p = p} {q = q} r s) =
        let a = edge-place s.by p s.mine in
        let b = edge-place s.by q s.theirs in
        subst (λ (k : ℕ). Reach S (Joined table poly_from) k) b.3 (joined_key poly_from a.0 b.0 a.1 b.1 (a.2 ∙ sym b.2) (subst (λ (k : ℕ). Reach S (Joined table poly_from) k) (sym a.3) (shares-joined r)))

    pair-shares : (i : ℕ) → i % 2 ≡ 0 → i + 1 < length table → Shares ps (poly_from (get_or table i 0)) (poly_from (get_or table (i + 1) 0))
    pair-shares i e h = record { by = key_from (get_or table i 0); mine = place-edge i (omega arith); theirs = subst (λ (k : ℕ). In k (edges_at ps (poly_from (get_or table (i + 1) 0)))) (sym (pair-key i e h)) (place-edge (i + 1) h) }

    turned_round : {p q : ℕ} → Shares ps p q → Shares ps q p
    turned_round s = record { by = s.by; mine = s.theirs; theirs = s.mine }

    joined-shares : (p q : ℕ) → Joined table poly_from p q → Shares ps p q
    joined-shares p q j = go j.ends
      where
        go : ((poly_from (get_or table j.at 0) ≡ p) × (poly_from (get_or table (j.at + 1) 0) ≡ q)) ⊎ ((poly_from (get_or table (j.at + 1) 0) ≡ p) × (poly_from (get_or table j.at 0) ≡ q)) → Shares ps p q
        go (inl w) = rw (w.0, w.1) at (pair-shares j.at j.even j.within)
        go (inr w) = rw (w.0, w.1) at (turned_round (pair-shares j.at j.even j.within))

    module _ (r : ℕ) (c : LowestCut table n r) where
      reached : (k : ℕ) → k < r → Unreached ps k → ⊥
      reached k h u = u.cut (reach_by joined-shares (c.before k h))

      pub apart-found : r < n → not_reached ps ≡ some r
      apart-found h = is_some (apart_is ps) (record {
        holds = record { within = subst (λ (k : ℕ). r < k) (sym polygons-length) h; cut = λ t. c.cut h (shares-joined t) };
        first = λ j u. by_cases (dec_lt j r) (λ lt. absurd (reached j lt u)) (λ ge. omega arith);
      })

      pub apart-missing : n ≤ r → not_reached ps ≡ none
      apart-missing h = is_none (apart_is ps) (λ k u. reached k (omega (arith, polygons-length, u.within)) u)
