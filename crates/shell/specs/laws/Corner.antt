-- The corners of the rings, as `Fans` asks them, from the pairs of the table.
use Rattle.std.specs.Prelude.{ℕ, zero, suc, ◌+◌, ◌-◌, ◌%◌, ◌≤◌, ◌<◌, min, max, ◌≡◌, refl, Bool, true, false, ◌⊎◌, List, eqb, length, drop}
use Rattle.std.proofs.Common.{le_refl, sym, ◌∙◌, inl, inr, ⊎_elim, eqb-true, length-take, length-drop, get_or-take, get_or-drop}
use Rattle.std.proofs.Math.Decide.{ℕ_discrete, dec_lt}
use native.Mathlib.Omega.{arith}
use Rattle.std.proofs.Math.Path.{ap, subst}
use Rattle.std.proofs.Math.Logic.{by_cases}
use Rattle.std.proofs.Math.Option.{none, some}
use Rattle.std.proofs.lemmas.Bool.{eqb-false}
use Rattle.std.proofs.Math.ListN.{get_or}
use Rattle.ring.specs.Polygon.{Polygon, entries_from}
use Rattle.ring.specs.held.Rings.{ring_at, polygons, owner_of}
use Rattle.ring.specs.laws.Owners.{owner_is, owner}
use Rattle.edges.specs.Edges.{smaller, larger}
use Rattle.edges.specs.laws.EdgeLaws.{smaller-edge, larger-edge}
use Rattle.reach.specs.Reach.{Reach, start}
use Rattle.shell.specs.Shell.{nth, edges_at, not_linked}
use Rattle.edges.specs.held.Ascending.{In}
use Rattle.words.specs.held.Words.{key_from, poly_from, step_of, next_of, dir_of}
use Rattle.edges.specs.held.Table.{next_at, words_of}
use Rattle.edges.specs.Order.{ascending}
use Rattle.shell.specs.held.Kept.{Loaded}
use Rattle.edges.specs.laws.Tallies.{in_place, place_in}
use Rattle.reach.specs.held.Marking.{Joined, Marked, Marks, Flooded}
use Rattle.links.specs.held.Linking.{Joins, Seeds, Cut, Unlinks}
use Rattle.words.specs.held.Words.{pick, low_of, high_of}
use Rattle.shell.specs.laws.Adequate.{is_some, is_none, Around, Ends, Pinched, unlinked_is, reach_by, around_even, entry_below}
use Rattle.words.specs.laws.Nodes.{pick_then, pick_else}
use Rattle.shell.specs.laws.Uses.{Use, step_use, use-key, use-poly, use-step, use-next, use-dir, ring_long, ring_within, entry_small}
use Rattle.shell.specs.laws.Pairs.{Pairs}
use Rattle.whole.specs.laws.Least.{least_as}
use Rattle.shell.specs.laws.Across.{polygons-length, ring_polygon, polygon_ring, ringed_owner, place_use, step-place, place-edge, edge-place, pair-key, joined_key}
use Rattle.shell.specs.laws.Fans.{Corners, linked-around, apart-around}

module _ (es st ft : List ℕ) (n : ℕ) (l : Loaded es st ft n) where
  abbrev ps : List Polygon
  ps = polygons es st ft n

  abbrev many : ℕ
  many = get_or ft n 0

  abbrev of : ℕ → ℕ
  of = owner_of ft n

  -- the polygon that the entry at i belongs to
  abbrev pub poly_at : ℕ → ℕ
  poly_at i = of (owner_of st many i)

  abbrev table : List ℕ
  table = ascending (words_of es st ft n)

  abbrev pub Node : ℕ → Type 0
  Node e = (i : ℕ) × (i < length table) × (step_of (get_or table i 0) ≡ e)

  -- the entries of ring p
  ring_length : (p : ℕ) → p < many → length (ring_at es st p) ≡ get_or st (p + 1) 0 - get_or st p 0
  ring_length p h = length-take (get_or st (p + 1) 0 - get_or st p 0) (drop (get_or st p 0) es) ∙ short (get_or st p 0) (get_or st (p + 1) 0) (length (drop (get_or st p 0) es)) (length-drop (get_or st p 0) es) (ring_within es st ft n l p h)
    where
      short : (a b d : ℕ) → d ≡ length es - a → b ≤ 1024 → min (b - a) d ≡ b - a
      short a b d e k = omega (arith, l.held.size)

  ring_at_lem : (p i : ℕ) → p < many → get_or st p 0 ≤ i → i < get_or st (p + 1) 0 → get_or (ring_at es st p) (i - get_or st p 0) 0 ≡ get_or es i 0
  ring_at_lem p i h f t =
      get_or-take (get_or st (p + 1) 0 - get_or st p 0) (drop (get_or st p 0) es) (i - get_or st p 0) 0 (less (get_or st p 0) (get_or st (p + 1) 0) i f t)
      ∙ get_or-drop (get_or st p 0) es (i - get_or st p 0) 0
      ∙ ap (λ (k : ℕ). get_or es k 0) (back (get_or st p 0) i f)
    where
      less : (a b i : ℕ) → a ≤ i → i < b → i - a < b - a
      less a b i f t = omega arith

      back : (a i : ℕ) → a ≤ i → a + (i - a) ≡ i
      back a i f = omega arith

  ring_lists : (r i : ℕ) → r < many → get_or st r 0 ≤ i → i < get_or st (r + 1) 0 → In (get_or es i 0) (entries_from (nth ps (of r)))
  unfolding entries_from
  ring_lists r i h f t =
      ring_polygon es st ft n l (λ ring. ring) r (get_or es i 0) h (subst (λ (x : ℕ). In x (ring_at es st r)) (ring_at_lem r i h f t) (place_in (ring_at es st r) (i - get_or st r 0) (rw (ring_length r h) (less (get_or st r 0) (get_or st (r + 1) 0) i f t))))
    where
      less : (a b i : ℕ) → a ≤ i → i < b → i - a < b - a
      less a b i f t = omega arith

  -- the last entry is the first again
  closing : (p : ℕ) → p < many → get_or es (get_or st (p + 1) 0 - 1) 0 ≡ get_or es (get_or st p 0) 0
  closing p h =
      sym (ring_at_lem p (get_or st (p + 1) 0 - 1) h (low (get_or st p 0) (get_or st (p + 1) 0) (ring_long es st ft n l p h)) (high (get_or st p 0) (get_or st (p + 1) 0) (ring_long es st ft n l p h)))
      ∙ ap (λ (k : ℕ). get_or (ring_at es st p) k 0) (last (get_or st p 0) (get_or st (p + 1) 0) (length (ring_at es st p)) (ring_length p h))
      ∙ (l.sound p h).closed
      ∙ ap (λ (k : ℕ). get_or (ring_at es st p) k 0) (none (get_or st p 0))
      ∙ ring_at_lem p (get_or st p 0) h (le_refl _) (some (get_or st p 0) (get_or st (p + 1) 0) (ring_long es st ft n l p h))
    where
      low : (a b : ℕ) → a + 4 ≤ b → a ≤ b - 1
      low a b h = omega arith

      high : (a b : ℕ) → a + 4 ≤ b → b - 1 < b
      high a b h = omega arith

      last : (a b k : ℕ) → k ≡ b - a → b - 1 - a ≡ k - 1
      last a b k e = omega arith

      none : (a : ℕ) → 0 ≡ a - a
      none a = omega arith

      some : (a b : ℕ) → a + 4 ≤ b → a < b
      some a b h = omega arith

  pub owned : (r i : ℕ) → r < many → get_or st r 0 ≤ i → i < get_or st (r + 1) 0 → owner_of st many i ≡ r
  owned r i h f t = owner_is st many r i (omega arith) f (λ q a b. above (get_or st (r + 1) 0) (get_or st q 0) i t (l.layout.ordered (r + 1) q (omega arith) b))
    where
      above : (x y i : ℕ) → i < x → x ≤ y → i < y
      above x y i a b = omega arith

  -- the entry after a step's first one is a step's first one too
  pub record After (p i k : ℕ) : Type 0 where
    pub from : get_or st p 0 ≤ k
    pub to : k + 1 < get_or st (p + 1) 0
    pub point : get_or es k 0 ≡ get_or es (i + 1) 0

  pub after : (p i : ℕ) → p < many → get_or st p 0 ≤ i → i + 1 < get_or st (p + 1) 0 → After p i (next_at (get_or st p 0) (get_or st (p + 1) 0) i)
  after p i h f t = go (eqb (i + 2) (get_or st (p + 1) 0)) refl
    where
      last : (b : ℕ) → i + 2 ≡ b → b - 1 ≡ i + 1
      last b e = omega arith

      wide : (a b : ℕ) → a + 4 ≤ b → a + 1 < b
      wide a b h = omega arith

      inner : (b : ℕ) → i + 1 < b → (i + 2 ≡ b → ⊥) → i + 1 + 1 < b
      inner b h d = omega arith

      go : (z : Bool) → eqb (i + 2) (get_or st (p + 1) 0) ≡ z → After p i (elim z as (λ _. ℕ) [ true ↦ get_or st p 0 | false ↦ i + 1 ])
      go true e = record { from = le_refl _; to = wide (get_or st p 0) (get_or st (p + 1) 0) (ring_long es st ft n l p h); point = sym (closing p h) ∙ ap (λ (k : ℕ). get_or es k 0) (last (get_or st (p + 1) 0) (eqb-true (i + 2) (get_or st (p + 1) 0) e)) }
      go false e = record { from = omega arith; to = inner (get_or st (p + 1) 0) t (eqb-false (i + 2) (get_or st (p + 1) 0) e); point = refl }

  -- a node by its place
  pub node_at : (p i : ℕ) → p < many → get_or st p 0 ≤ i → i + 1 < get_or st (p + 1) 0 → Node i
  node_at p i h f t =
      let j = step-place es st ft n l p i h f t in
      (j.0, j.1, ap step_of j.2 ∙ use-step es st ft n l _ (step_use es st ft n l p i h f t))

  -- what one zone of pairs, that of the smaller or that of the larger ends, has of its corners
  pub record Zone (g pnt : ℕ → ℕ) : Type 0 where
    pub node : (i : ℕ) → i < length table → Node (g (get_or table i 0))
    poly : (i : ℕ) → i < length table → poly_at (g (get_or table i 0)) ≡ poly_from (get_or table i 0)
    pub point : (i : ℕ) → i < length table → get_or es (g (get_or table i 0)) 0 ≡ pnt (key_from (get_or table i 0))
    ends : (k : ℕ) → Ends (pnt k) k

  -- the two corners of a word
  record Sides (w : ℕ) : Type 0 where
    step-node : Node (step_of w)
    next-node : Node (next_of w)
    step_poly : poly_at (step_of w) ≡ poly_from w
    next-poly : poly_at (next_of w) ≡ poly_from w
    low : get_or es (low_of w) 0 ≡ smaller (key_from w)
    high : get_or es (high_of w) 0 ≡ larger (key_from w)

  sides : (w : ℕ) → Use es st ft n w → Sides w
  sides w u = record {
    step-node = subst Node (sym (use-step es st ft n l w u)) (node_at u.ring u.at u.below u.from u.to);
    next-node = subst Node (sym (use-next es st ft n l w u)) (node_at u.ring next u.below t.from t.to);
    step_poly = ap poly_at (use-step es st ft n l w u) ∙ (ap of (owned u.ring u.at u.below u.from (before u.at (get_or st (u.ring + 1) 0) u.to)) ∙ sym (use-poly es st ft n l w u));
    next-poly = ap poly_at (use-next es st ft n l w u) ∙ (ap of (owned u.ring next u.below t.from (before next (get_or st (u.ring + 1) 0) t.to)) ∙ sym (use-poly es st ft n l w u));
    low = by_cases (dec_lt b a) (λ lt. ap at (sym (pick_else (dir_of w) (step_of w) (next_of w) (down lt))) ∙ (at_next ∙ (le_of (min a b) b (lesser lt) ∙ sym key-low))) (λ ge. ap at (sym (pick_then (dir_of w) (step_of w) (next_of w) (forth ge))) ∙ (at-step ∙ (le_of (min a b) a (greater ge) ∙ sym key-low)));
    high = by_cases (dec_lt b a) (λ lt. ap at (sym (pick_else (dir_of w) (next_of w) (step_of w) (down lt))) ∙ (at-step ∙ (le_of (max a b) a (upper lt) ∙ sym key-high))) (λ ge. ap at (sym (pick_then (dir_of w) (next_of w) (step_of w) (forth ge))) ∙ (at_next ∙ (le_of (max a b) b (topmost ge) ∙ sym key-high)));
  }
    where
      a : ℕ
      a = get_or es u.at 0

      b : ℕ
      b = get_or es (u.at + 1) 0

      at : ℕ → ℕ
      at k = get_or es k 0

      next : ℕ
      next = next_at (get_or st u.ring 0) (get_or st (u.ring + 1) 0) u.at

      t : After u.ring u.at next
      t = after u.ring u.at u.below u.from u.to

      before : (i b : ℕ) → i + 1 < b → i < b
      before i b h = omega arith

      at-step : at (step_of w) ≡ a
      at-step = ap at (use-step es st ft n l w u)

      at_next : at (next_of w) ≡ b
      at_next = ap at (use-next es st ft n l w u) ∙ t.point

      small-a : a < 65536
      small-a = omega (arith, entry_small es st ft n l u.ring u.at u.below (before u.at (get_or st (u.ring + 1) 0) u.to))

      small_b : b < 65536
      small_b = omega (arith, entry_small es st ft n l u.ring (u.at + 1) u.below u.to)

      key-low : smaller (key_from w) ≡ min a b
      key-low = ap smaller (use-key es st ft n l w u) ∙ smaller-edge a b small-a small_b

      key-high : larger (key_from w) ≡ max a b
      key-high = ap larger (use-key es st ft n l w u) ∙ larger-edge a b small-a small_b

      le_of : (x y : ℕ) → x ≡ y → y ≡ x
      le_of x y e = sym e

      down : b < a → dir_of w ≡ 0 → ⊥
      down lt e = omega (arith, use-dir es st ft n l w u)

      forth : (b < a → ⊥) → dir_of w ≡ 0
      forth ge = omega (arith, use-dir es st ft n l w u)

      lesser : b < a → min a b ≡ b
      lesser lt = omega arith

      greater : (b < a → ⊥) → min a b ≡ a
      greater ge = omega arith

      upper : b < a → max a b ≡ a
      upper lt = omega arith

      topmost : (b < a → ⊥) → max a b ≡ b
      topmost ge = omega arith

  pick_case : (P : ℕ → Type 0) (d a b : ℕ) → P a → P b → P (pick d a b)
  pick_case P zero a b x y = x
  pick_case P (suc d) a b x y = y

  side : (i : ℕ) → i < length table → Sides (get_or table i 0)
  side i h = sides (get_or table i 0) (place_use es st ft n l i h)

  pub low_zone : Zone low_of smaller
  low_zone = record {
    node = λ i h. pick_case Node (dir_of (get_or table i 0)) (step_of (get_or table i 0)) (next_of (get_or table i 0)) (side i h).step-node (side i h).next-node;
    poly = λ i h. pick_case (λ (x : ℕ). poly_at x ≡ poly_from (get_or table i 0)) (dir_of (get_or table i 0)) (step_of (get_or table i 0)) (next_of (get_or table i 0)) (side i h).step_poly (side i h).next-poly;
    point = λ i h. (side i h).low;
    ends = λ k. inl refl;
  }

  pub high_zone : Zone high_of larger
  high_zone = record {
    node = λ i h. pick_case Node (dir_of (get_or table i 0)) (next_of (get_or table i 0)) (step_of (get_or table i 0)) (side i h).next-node (side i h).step-node;
    poly = λ i h. pick_case (λ (x : ℕ). poly_at x ≡ poly_from (get_or table i 0)) (dir_of (get_or table i 0)) (next_of (get_or table i 0)) (step_of (get_or table i 0)) (side i h).next-poly (side i h).step_poly;
    point = λ i h. (side i h).high;
    ends = λ k. inr refl;
  }

  -- a step ends where one starts
  pub next_starts : (i : ℕ) → i < length table → Node (next_of (get_or table i 0))
  next_starts i h = (side i h).next-node

  -- a node, as the use of its step
  node_use : (e : ℕ) → Node e → (p : ℕ) × (p < many) × (get_or st p 0 ≤ e) × (e + 1 < get_or st (p + 1) 0)
  node_use e m =
      let u = place_use es st ft n l m.0 m.1 in
      let q : u.at ≡ e = sym (use-step es st ft n l (get_or table m.0 0) u) ∙ m.2 in
      (u.ring, u.below, subst (λ (k : ℕ). get_or st u.ring 0 ≤ k) q u.from, subst (λ (k : ℕ). k + 1 < get_or st (u.ring + 1) 0) q u.to)

  before : (i b : ℕ) → i + 1 < b → i < b
  before i b h = omega arith

  pub node_small : (e : ℕ) → Node e → get_or es e 0 < 512
  node_small e m = let u = node_use e m in entry_small es st ft n l u.0 e u.1 (before e (get_or st (u.0 + 1) 0) u.3)

  node_owner : (e : ℕ) (m : Node e) → owner_of st many e ≡ (node_use e m).0
  node_owner e m = let u = node_use e m in owned u.0 e u.1 u.2 (before e (get_or st (u.0 + 1) 0) u.3)

  has-node : (e : ℕ) → Node e → In (get_or es e 0) (entries_from (nth ps (poly_at e)))
  has-node e m =
      let u = node_use e m in
      subst (λ (r : ℕ). In (get_or es e 0) (entries_from (nth ps (of r)))) (sym (node_owner e m)) (ring_lists u.0 e u.1 u.2 (before e (get_or st (u.0 + 1) 0) u.3))

  -- each ring that lists v has a corner there
  ring_has : (v r : ℕ) → r < many → In v (ring_at es st r) → (e : ℕ) × Node e × (get_or es e 0 ≡ v) × (owner_of st many e ≡ r)
  ring_has v r h i = found (in_place v (ring_at es st r) i)
    where
      at : (k : ℕ) → get_or st r 0 ≤ k → k + 1 < get_or st (r + 1) 0 → get_or es k 0 ≡ v → (e : ℕ) × Node e × (get_or es e 0 ≡ v) × (owner_of st many e ≡ r)
      at k f t e = (k, node_at r k h f t, e, owned r k h f (before k (get_or st (r + 1) 0) t))

      sum : (a k : ℕ) → a + k - a ≡ k
      sum a k = omega arith

      less : (a b k : ℕ) → k < b - a → a + k < b
      less a b k h = omega arith

      low : (a k : ℕ) → a ≤ a + k
      low a k = omega arith

      last : (a b k : ℕ) → k < b - a → (a + k + 1 < b → ⊥) → a + k ≡ b - 1
      last a b k h d = omega arith

      first : (a b : ℕ) → a + 4 ≤ b → a + 1 < b
      first a b h = omega arith

      found : (k : ℕ) × (k < length (ring_at es st r)) × (get_or (ring_at es st r) k 0 ≡ v) → (e : ℕ) × Node e × (get_or es e 0 ≡ v) × (owner_of st many e ≡ r)
      found w =
          let a = get_or st r 0 in
          let b = get_or st (r + 1) 0 in
          let k : w.0 < b - a = subst (λ (z : ℕ). w.0 < z) (ring_length r h) w.1 in
          let q : get_or es (a + w.0) 0 ≡ v = sym (ring_at_lem r (a + w.0) h (low a w.0) (less a b w.0 k)) ∙ (ap (λ (z : ℕ). get_or (ring_at es st r) z 0) (sum a w.0) ∙ w.2) in
          by_cases (dec_lt (a + w.0 + 1) b) (λ lt. at (a + w.0) (low a w.0) lt q) (λ ge. at a (le_refl a) (first a b (ring_long es st ft n l r h)) (sym (closing r h) ∙ (ap (λ (z : ℕ). get_or es z 0) (sym (last a b w.0 k ge)) ∙ q)))

  -- each polygon at v has a corner there
  node-has : (v p : ℕ) → In v (entries_from (nth ps p)) → (e : ℕ) × Node e × (get_or es e 0 ≡ v) × (poly_at e ≡ p)
  unfolding entries_from
  node-has v p i =
      let h : p < n = subst (λ (k : ℕ). p < k) (polygons-length es st ft n l) (entry_below ps p v i) in
      let w = polygon_ring es st ft n l (λ ring. ring) p v h i in
      let e = ring_has v w.ring w.below w.has in
      (e.0, e.1, e.2, ap of e.3 ∙ ringed_owner es st ft n l (λ ring. ring) p v h w)

  -- a ring has one corner at a point, and no two rings of a polygon have one at the same
  ring_once : (e f : ℕ) → Node e → Node f → e < f → get_or es e 0 ≡ get_or es f 0 → owner_of st many e ≡ owner_of st many f → ⊥
  ring_once e f x y lt q o =
      let u = node_use e x in
      let v = node_use f y in
      let s : v.0 ≡ u.0 = sym (node_owner f y) ∙ (sym o ∙ node_owner e x) in
      let t : f + 1 < get_or st (u.0 + 1) 0 = subst (λ (p : ℕ). f + 1 < get_or st (p + 1) 0) s v.3 in
      let a = get_or st u.0 0 in
      (l.sound u.0 u.1).once (e - a) (f - a) (apart a e f u.2 lt) (rw (ring_length u.0 u.1) (inside a (get_or st (u.0 + 1) 0) e f u.2 lt t)) (ring_at_lem u.0 e u.1 u.2 (before e (get_or st (u.0 + 1) 0) u.3) ∙ (q ∙ sym (ring_at_lem u.0 f u.1 (beyond a e f u.2 lt) (before f (get_or st (u.0 + 1) 0) t))))
    where
      apart : (a e f : ℕ) → a ≤ e → e < f → e - a < f - a
      apart a e f g h = omega arith

      inside : (a b e f : ℕ) → a ≤ e → e < f → f + 1 < b → f - a + 1 < b - a
      inside a b e f g h k = omega arith

      beyond : (a e f : ℕ) → a ≤ e → e < f → a ≤ f
      beyond a e f g h = omega arith

  rings-once : (e f : ℕ) → Node e → Node f → get_or es e 0 ≡ get_or es f 0 → poly_at e ≡ poly_at f → owner_of st many e < owner_of st many f → ⊥
  rings-once e f x y q o lt =
      let u = node_use e x in
      let v = node_use f y in
      let a = owner es st ft n l.layout u.0 u.1 in
      let b = owner es st ft n l.layout v.0 v.1 in
      let c : of v.0 ≡ of u.0 = ap of (sym (node_owner f y)) ∙ (sym o ∙ ap of (node_owner e x)) in
      let s : v.0 < get_or ft (of u.0 + 1) 0 = subst (λ (p : ℕ). v.0 < get_or ft (p + 1) 0) c b.to in
      l.apart (of u.0) u.0 v.0 (e - get_or st u.0 0) (f - get_or st v.0 0) a.below a.from (less (owner_of st many e) (owner_of st many f) u.0 v.0 (node_owner e x) (node_owner f y) lt) s (rw (ring_length u.0 u.1) (within (get_or st u.0 0) (get_or st (u.0 + 1) 0) e u.2 u.3)) (rw (ring_length v.0 v.1) (within (get_or st v.0 0) (get_or st (v.0 + 1) 0) f v.2 v.3)) (ring_at_lem u.0 e u.1 u.2 (before e (get_or st (u.0 + 1) 0) u.3) ∙ (q ∙ sym (ring_at_lem v.0 f v.1 v.2 (before f (get_or st (v.0 + 1) 0) v.3))))
    where
      less : (a b c d : ℕ) → a ≡ c → b ≡ d → a < b → c < d
      less a b c d e f h = omega arith

      within : (a b k : ℕ) → a ≤ k → k + 1 < b → k - a < b - a
      within a b k f t = omega arith

  -- a polygon has one corner at a point
  pub one_corner : (e f : ℕ) → Node e → Node f → get_or es e 0 ≡ get_or es f 0 → poly_at e ≡ poly_at f → e ≡ f
  one_corner e f x y q o =
      by_cases (dec_lt (owner_of st many e) (owner_of st many f)) (λ lt. absurd (rings-once e f x y q o lt)) (λ ge.
      by_cases (dec_lt (owner_of st many f) (owner_of st many e)) (λ lt. absurd (rings-once f e y x (sym q) (sym o) lt)) (λ le. one_ring (same (owner_of st many e) (owner_of st many f) ge le)))
    where
      same : (a b : ℕ) → (a < b → ⊥) → (b < a → ⊥) → a ≡ b
      same a b g h = omega arith

      one_ring : owner_of st many e ≡ owner_of st many f → e ≡ f
      one_ring r = by_cases (dec_lt e f) (λ lt. absurd (ring_once e f x y lt q r)) (λ ge. by_cases (dec_lt f e) (λ lt. absurd (ring_once f e y x lt (sym q) (sym r))) (λ le. same e f ge le))

  -- ---- where the words stand in pairs
  module _ (two : Pairs table) where
    abbrev Meets : ℕ → ℕ → Type 0
    Meets e f = (get_or es e 0 ≡ get_or es f 0) × ((poly_at e ≡ poly_at f) ⊎ Around ps (get_or es e 0) (poly_at e) (poly_at f))

    meets-even : (e f : ℕ) → Meets e f → Meets f e
    meets-even e f j = (sym j.0, ⊎_elim (λ q. inl (sym q)) (λ a. inr (subst (λ (v : ℕ). Around ps v (poly_at f) (poly_at e)) j.0 (around_even ps (get_or es e 0) (poly_at e) (poly_at f) a))) j.1)

    module _ (g pnt : ℕ → ℕ) (z : Zone g pnt) where
      pair-meets : (i : ℕ) → i % 2 ≡ 0 → i + 1 < length table → Meets (g (get_or table i 0)) (g (get_or table (i + 1) 0))
      pair-meets i v h = (
        same,
        inr (record {
          has_p = has-node (g (get_or table i 0)) (z.node i lt);
          has_q = subst (λ (x : ℕ). In x (entries_from (nth ps (poly_at (g (get_or table (i + 1) 0)))))) (sym same) (has-node (g (get_or table (i + 1) 0)) (z.node (i + 1) h));
          by = key_from (get_or table i 0);
          ends = rw (z.point i lt) (z.ends (key_from (get_or table i 0)));
          mine = rw (z.poly i lt) (place-edge es st ft n l i lt);
          theirs = rw (z.poly (i + 1) h, e) (place-edge es st ft n l (i + 1) h);
        }),
      )
        where
          lt : i < length table
          lt = omega arith

          e : key_from (get_or table i 0) ≡ key_from (get_or table (i + 1) 0)
          e = pair-key es st ft n l two i v h

          same : get_or es (g (get_or table i 0)) 0 ≡ get_or es (g (get_or table (i + 1) 0)) 0
          same = z.point i lt ∙ (ap pnt e ∙ sym (z.point (i + 1) h))

      joined_meets : (e f : ℕ) → Joined table g e f → Meets e f
      joined_meets e f j = go j.ends
        where
          go : ((g (get_or table j.at 0) ≡ e) × (g (get_or table (j.at + 1) 0) ≡ f)) ⊎ ((g (get_or table (j.at + 1) 0) ≡ e) × (g (get_or table j.at 0) ≡ f)) → Meets e f
          go (inl w) = rw (w.0, w.1) at (pair-meets j.at j.even j.within)
          go (inr w) = rw (w.0, w.1) at (meets-even (g (get_or table j.at 0)) (g (get_or table (j.at + 1) 0)) (pair-meets j.at j.even j.within))

      -- two polygons with one edge have joined corners at its end
      zone-meets : (by v p q : ℕ) → pnt by ≡ v → In by (edges_at ps p) → In by (edges_at ps q) → (e : ℕ) × (f : ℕ) × Node e × Node f × (get_or es e 0 ≡ v) × (poly_at e ≡ p) × (get_or es f 0 ≡ v) × (poly_at f ≡ q) × Reach (λ x. x ≡ e) (Joined table g) f
      zone-meets by v p q w mine theirs =
          let a = edge-place es st ft n l by p mine in
          let b = edge-place es st ft n l by q theirs in (
            g (get_or table a.0 0),
            g (get_or table b.0 0),
            z.node a.0 a.1,
            z.node b.0 b.1,
            z.point a.0 a.1 ∙ (ap pnt a.2 ∙ w),
            z.poly a.0 a.1 ∙ a.3,
            z.point b.0 b.1 ∙ (ap pnt b.2 ∙ w),
            z.poly b.0 b.1 ∙ b.3,
            joined_key es st ft n l two g a.0 b.0 a.1 b.1 (a.2 ∙ sym b.2) (start refl),
          )

    corners : Corners Node (λ e. get_or es e 0) poly_at (Joins 1 2 table) (Around ps)
    corners = record {
      joins = λ e f j. ⊎_elim (λ (k : Joined table low_of e f). joined_meets low_of smaller low_zone e f k) (λ (k : Joined table high_of e f). joined_meets high_of larger high_zone e f k) j;
      meets = λ v p q a. meets v p q a a.ends;
      once = λ e f x y q o. start (sym (one_corner e f x y q o));
      even = around_even ps;
    }
      where
        meets : (v p q : ℕ) (a : Around ps v p q) → Ends v a.by → (e : ℕ) × (f : ℕ) × Node e × Node f × (get_or es e 0 ≡ v) × (poly_at e ≡ p) × (get_or es f 0 ≡ v) × (poly_at f ≡ q) × Reach (λ x. x ≡ e) (Joins 1 2 table) f
        meets v p q a (inl w) =
            let r = zone-meets low_of smaller low_zone a.by v p q w a.mine a.theirs in
            (r.0, r.1, r.2, r.3, r.4, r.5, r.6, r.7, reach_by (λ x y j. inl j) r.8)
        meets v p q a (inr w) =
            let r = zone-meets high_of larger high_zone a.by v p q w a.mine a.theirs in
            (r.0, r.1, r.2, r.3, r.4, r.5, r.6, r.7, reach_by (λ x y j. inr j) r.8)

    -- after the flood from one corner of each point, the pinched points are those with a corner that has no mark
    module _ (m m' : List ℕ) (s : Seeds es table m) (f : Flooded (Joins 1 2 table) m m') where
      first : (x : ℕ) → Node x → (e : ℕ) × Node e × Marked m e × (get_or es e 0 ≡ get_or es x 0)
      first x k = let w = s.first k.0 k.1 in (w.0, s.node w.0 w.1, w.1, w.2 ∙ ap (λ (y : ℕ). get_or es y 0) k.2)

      cut-pinched : (v : ℕ) → Cut es table m' v → Pinched ps v
      cut-pinched v u =
          let x = step_of (get_or table u.at 0) in
          let nx : Node x = (u.at, u.within, refl) in
          let w = apart-around Node (λ e. get_or es e 0) poly_at (Joins 1 2 table) (Around ps) corners (Marked m) first s.lone x nx (λ r. omega (arith, f.whole x r, u.bare)) in
          record {
            here = poly_at w.0;
            there = poly_at x;
            has_here = rw (w.2 ∙ u.point) at (has-node w.0 w.1);
            has_there = rw u.point at (has-node x nx);
            apart = λ r. w.3 (rw u.point r);
          }

      cut_at : (v e : ℕ) → Node e → get_or es e 0 ≡ v → get_or m' e 0 ≡ 0 → Cut es table m' v
      cut_at v e k q z = record { at = k.0; within = k.1; bare = rw k.2 z; point = ap (λ (y : ℕ). get_or es y 0) k.2 ∙ q }

      pinched-cut : Marks 1024 m' → (v : ℕ) → Pinched ps v → Cut es table m' v
      pinched-cut b v q =
          let a = node-has v q.here q.has_here in
          let c = node-has v q.there q.has_there in
          by_cases (ℕ_discrete (get_or m' a.0 0) 0) (λ z. cut_at v a.0 a.1 a.2 z) (λ nz. by_cases (ℕ_discrete (get_or m' c.0 0) 0) (λ z. cut_at v c.0 c.1 c.2 z) (λ nz'. absurd (q.apart (rw (a.2, a.3, c.3) at (linked-around Node (λ e. get_or es e 0) poly_at (Joins 1 2 table) (Around ps) corners (Marked m) first s.lone a.0 c.0 a.1 c.1 (a.2 ∙ sym c.2) (f.sound a.0 (omega (arith, b.bits a.0))) (f.sound c.0 (omega (arith, b.bits c.0))))))))

    -- 0C
    module _ (r : ℕ) (u : Unlinks es table r) where
      pub unlinked-found : r < 65536 → not_linked ps ≡ some r
      unlinked-found h = is_some (unlinked_is ps) (least_as (cut-pinched u.from u.to u.seeds u.flood) (pinched-cut u.from u.to u.seeds u.flood u.marks) (u.least.found h))

      pub unlinked-missing : 65536 ≤ r → not_linked ps ≡ none
      unlinked-missing h = is_none (unlinked_is ps) (λ v p. u.least.missing h v (pinched-cut u.from u.to u.seeds u.flood u.marks v p))
