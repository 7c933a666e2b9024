-- The ways that the rings go now, by the words of the table and the flags of the polygons, and check 0A.
use Prim.Native.Nat.{ℕ, zero, suc, ◌+◌, ◌-◌, ◌%◌, ◌≤◌, ◌<◌, min, max}
use Rattle.std.proofs.Common.{le_refl, subst, ◌∙◌, inl, inr, ⊎_elim, eqb-true, eq-eqb, ne_eqb}
use Rattle.std.proofs.Math.Decide.{ℕ_discrete, dec_lt}
use native.Mathlib.Omega.{arith}
use Rattle.std.proofs.Math.Path.{◌≡◌, sym, ap, ap₂}
use Rattle.std.specs.Prelude.{refl, Bool, true, false, ◌⊎◌, ◌≢◌}
use Rattle.std.proofs.Math.Logic.{by_cases}
use mathlib.Core.List.{List, [], ◌∷◌, map, reverse}
use Rattle.std.proofs.Math.Option.{Option, none, some}
use Rattle.std.proofs.lemmas.Bool.{eqb-false}
use Rattle.std.proofs.Math.Dec.{eqb}
use Rattle.std.proofs.Math.ListN.{get_or}
use Rattle.whole.specs.Lists.{steps, tally, tab}
use Rattle.whole.specs.laws.Reverse.{back, steps-reverse}
use Rattle.whole.specs.held.Spans.{span}
use Rattle.whole.specs.laws.Spans.{map-span, span_same}
use Rattle.ring.specs.Polygon.{Polygon, rings_of, all, all_rings, turned_over}
use Rattle.ring.specs.held.Rings.{ring_at, polygon_at, owner_of}
use Rattle.ring.specs.laws.Owners.{owned as ring-owned, rings-at, rings-told}
use Rattle.edges.specs.Edges.{way, edge, smaller, larger, ways_of, count, used_alike}
use Rattle.edges.specs.laws.EdgeLaws.{smaller-edge, larger-edge}
use Rattle.edges.specs.held.Ascending.{In}
use Rattle.words.specs.held.Words.{key_from, poly_from, dir_of}
use Rattle.edges.specs.held.Table.{step_word, ring_words_of, words_to, words_of, next_at}
use Rattle.edges.specs.Order.{ascending}
use Rattle.shell.specs.held.Kept.{Loaded, turn, turned_polygons, heading_of, alike_in}
use Rattle.edges.specs.laws.Tallies.{one, one_yes, one_no, tally_nil, tally_cons, tally-map, tally_append, tally-reverse, tally_in}
use Rattle.edges.specs.laws.Ascending.{tally-ascending, in_ascending}
use Rattle.shell.specs.laws.Adequate.{Is, is_same, goes, uses, alike_is}
use Rattle.whole.specs.Least.{Least}
use Rattle.directions.specs.laws.Turned.{turned_polygons_lem, uses-turned}
use Rattle.shell.specs.laws.Uses.{Use, step_use, words_use, use-key, use-poly, use-dir, ring_ways, ring_steps, ring_long, entry_small, all_append, pair_at}
use Rattle.shell.specs.laws.Pairs.{Pairs, empty, pair, of_edge, tally_keys}
use Rattle.shell.specs.laws.Across.{key_count}
use Rattle.shell.specs.laws.Corner.{one_corner, node_at, owned, After, after}

-- the way the other way round
abbrev round : ℕ → ℕ
round k = way (larger k) (smaller k)

-- the way that a word's step is gone now
unfoldable way_now : List ℕ → ℕ → ℕ
way_now flags w = elim (eqb (heading_of flags w) 0) [ true ↦ key_from w | false ↦ round (key_from w) ]

way_on : (flags : List ℕ) (w : ℕ) → heading_of flags w ≡ 0 → way_now flags w ≡ key_from w
unfolding way_now
way_on flags w e = rw (eq-eqb (heading_of flags w) 0 e, way_now)

way_back : (flags : List ℕ) (w : ℕ) → heading_of flags w ≢ 0 → way_now flags w ≡ round (key_from w)
unfolding way_now
way_back flags w d = rw (ne_eqb (heading_of flags w) 0 d, way_now)

edge-up : (a b : ℕ) → (b < a → ⊥) → edge a b ≡ way a b
unfolding edge way
edge-up a b h = omega arith

edge-down : (a b : ℕ) → b < a → edge a b ≡ way b a
unfolding edge way
edge-down a b h = omega arith

round_up : (a b : ℕ) → a < 65536 → b < 65536 → (b < a → ⊥) → round (edge a b) ≡ way b a
round_up a b x y h = ap₂ way (larger-edge a b x y) (smaller-edge a b x y) ∙ ap₂ way (top a b h) (low a b h)
  where
    top : (a b : ℕ) → (b < a → ⊥) → max a b ≡ b
    top a b h = omega arith

    low : (a b : ℕ) → (b < a → ⊥) → min a b ≡ a
    low a b h = omega arith

round-down : (a b : ℕ) → a < 65536 → b < 65536 → b < a → round (edge a b) ≡ way a b
round-down a b x y h = ap₂ way (larger-edge a b x y) (smaller-edge a b x y) ∙ ap₂ way (top a b h) (low a b h)
  where
    top : (a b : ℕ) → b < a → max a b ≡ a
    top a b h = omega arith

    low : (a b : ℕ) → b < a → min a b ≡ b
    low a b h = omega arith

-- a ring under its polygon's flag
unfoldable turn_ring_of : ℕ → List ℕ → List ℕ
turn_ring_of zero ring = ring
turn_ring_of (suc k) ring = reverse ring

turn_each : (k : ℕ) (p : Polygon) → rings_of (turn k p) ≡ map (turn_ring_of k) (rings_of p)
unfolding turn turn_ring_of rings_of turned_over
turn_each zero p = sym (map_same (p.outer ∷ p.inner))
  where
    map_same : (l : List (List ℕ)) → map (λ r. r) l ≡ l
    map_same [] = refl
    map_same (r ∷ l) = ap (λ (m : List (List ℕ)). r ∷ m) (map_same l)
turn_each (suc k) p = refl

module _ (es st ft : List ℕ) (n : ℕ) (l : Loaded es st ft n) (flags : List ℕ) (few : (q : ℕ) → get_or flags q 0 ≤ 1) where
  abbrev of : ℕ → ℕ
  of = owner_of ft n

  abbrev rings : ℕ
  rings = get_or ft n 0

  -- the way of a use, as loaded or turned
  module _ (w : ℕ) (u : Use es st ft n w) where
    abbrev a : ℕ
    a = get_or es u.at 0

    abbrev b : ℕ
    b = get_or es (u.at + 1) 0

    small-a : a < 65536
    small-a = omega (arith, entry_small es st ft n l u.ring u.at u.below (before u.at (get_or st (u.ring + 1) 0) u.to))
      where
        before : (i b : ℕ) → i + 1 < b → i < b
        before i b h = omega arith

    small_b : b < 65536
    small_b = omega (arith, entry_small es st ft n l u.ring (u.at + 1) u.below u.to)

    heading-is : heading_of flags w ≡ (min 1 (a - b) + get_or flags (of u.ring) 0) % 2
    heading-is = ap₂ (λ (d p : ℕ). (d + get_or flags p 0) % 2) (use-dir es st ft n l w u) (use-poly es st ft n l w u)

    heading : (x y f h : ℕ) → h ≡ (min 1 (x - y) + f) % 2 → (f ≡ 0 → y < x → h ≢ 0) × (f ≡ 0 → (y < x → ⊥) → h ≡ 0) × (f ≡ 1 → y < x → h ≡ 0) × (f ≡ 1 → (y < x → ⊥) → h ≢ 0)
    heading x y f h e = (λ z p q. omega arith, λ z p. omega arith, λ z p. omega arith, λ z p q. omega arith)

    abbrev flag : ℕ
    flag = get_or flags (of u.ring) 0

    way-kept : flag ≡ 0 → way_now flags w ≡ way a b
    way-kept z =
        by_cases
        (dec_lt b a)
        (λ lt. way_back flags w ((heading a b flag (heading_of flags w) heading-is).0 z lt) ∙ (ap round (use-key es st ft n l w u) ∙ round-down a b small-a small_b lt))
        (λ ge. way_on flags w ((heading a b flag (heading_of flags w) heading-is).1 z ge) ∙ (use-key es st ft n l w u ∙ edge-up a b ge))

    way-turned : flag ≡ 1 → way_now flags w ≡ way b a
    way-turned z =
        by_cases
        (dec_lt b a)
        (λ lt. way_on flags w ((heading a b flag (heading_of flags w) heading-is).2 z lt) ∙ (use-key es st ft n l w u ∙ edge-down a b lt))
        (λ ge. way_back flags w ((heading a b flag (heading_of flags w) heading-is).3 z ge) ∙ (ap round (use-key es st ft n l w u) ∙ round_up a b small-a small_b ge))

    -- an edge has two ends
    proper : smaller (key_from w) < larger (key_from w)
    proper =
        subst (λ (k : ℕ). smaller k < larger k) (sym (use-key es st ft n l w u)) (subst (λ (x : ℕ). x < larger (edge a b)) (sym (smaller-edge a b small-a small_b)) (subst (λ (x : ℕ). min a b < x) (sym (larger-edge a b small-a small_b)) (spread a b differ)))
      where
        spread : (a b : ℕ) → a ≢ b → min a b < max a b
        spread a b d = omega arith

        k : ℕ
        k = next_at (get_or st u.ring 0) (get_or st (u.ring + 1) 0) u.at

        t : After es st ft n l u.ring u.at k
        t = after es st ft n l u.ring u.at u.below u.from u.to

        before : (i b : ℕ) → i + 1 < b → i < b
        before i b h = omega arith

        moved : (from to i : ℕ) → from + 4 ≤ to → i + 1 < to → from ≤ i → next_at from to i ≢ i
        moved from to i h g f = go (eqb (i + 2) to) refl
          where
            go : (z : Bool) → eqb (i + 2) to ≡ z → elim z as (λ _. ℕ) [ true ↦ from | false ↦ i + 1 ] ≢ i
            go true e q = omega (arith, eqb-true (i + 2) to e)
            go false e q = omega arith

        differ : a ≢ b
        differ q = moved (get_or st u.ring 0) (get_or st (u.ring + 1) 0) u.at (ring_long es st ft n l u.ring u.below) u.to u.from (one_corner es st ft n l k u.at (node_at es st ft n l u.ring k u.below t.from t.to) (node_at es st ft n l u.ring u.at u.below u.from u.to) (t.point ∙ sym q) (ap of (owned es st ft n l u.ring k u.below t.from (before k (get_or st (u.ring + 1) 0) t.to) ∙ sym (owned es st ft n l u.ring u.at u.below u.from (before u.at (get_or st (u.ring + 1) 0) u.to)))))

  -- the ways of ring p
  module _ (p : ℕ) (h : p < rings) (t : ℕ → Bool) where
    abbrev from : ℕ
    from = get_or st p 0

    abbrev many : ℕ
    many = get_or st (p + 1) 0 - get_or st p 0 - 1

    inner : (a b k : ℕ) → k < a + (b - a - 1) → a ≤ k → k + 1 < b
    inner a b k h g = omega arith

    words-ways : tally (λ w. t (way_now flags w)) (ring_words_of es st (of p) p) ≡ tally t (span (λ i. way_now flags (step_word es (of p) (get_or st p 0) (get_or st (p + 1) 0) i)) from many)
    words-ways = sym (tally-map t (way_now flags) (ring_words_of es st (of p) p)) ∙ ap (tally t) (map-span (way_now flags) (step_word es (of p) (get_or st p 0) (get_or st (p + 1) 0)) from many)

    kept-ways : get_or flags (of p) 0 ≡ 0 → tally t (ways_of (ring_at es st p)) ≡ tally (λ w. t (way_now flags w)) (ring_words_of es st (of p) p)
    kept-ways z =
        ap (tally t) (ring_ways es st ft n l p h)
        ∙ ap (tally t) (span_same (λ i. way (get_or es i 0) (get_or es (i + 1) 0)) (λ i. way_now flags (step_word es (of p) (get_or st p 0) (get_or st (p + 1) 0) i)) from many (λ k f g. sym (way-kept (step_word es (of p) (get_or st p 0) (get_or st (p + 1) 0) k) (step_use es st ft n l p k h f (inner (get_or st p 0) (get_or st (p + 1) 0) k g f)) z)))
        ∙ sym words-ways

    turned-ways : get_or flags (of p) 0 ≡ 1 → tally t (ways_of (reverse (ring_at es st p))) ≡ tally (λ w. t (way_now flags w)) (ring_words_of es st (of p) p)
    unfolding ways_of
    turned-ways z =
        tally-map t (λ s. way s.0 s.1) (steps (reverse (ring_at es st p)))
        ∙ ap (tally (λ s. t (way s.0 s.1))) (steps-reverse (ring_at es st p))
        ∙ tally-reverse (λ s. t (way s.0 s.1)) (map back (steps (ring_at es st p)))
        ∙ tally-map (λ s. t (way s.0 s.1)) back (steps (ring_at es st p))
        ∙ ap (tally (λ s. t (way s.1 s.0))) (ring_steps es st ft n l p h)
        ∙ sym (tally-map t (λ s. way s.1 s.0) (span (pair_at es) from many))
        ∙ ap (tally t) (map-span (λ s. way s.1 s.0) (pair_at es) from many)
        ∙ ap (tally t) (span_same (λ i. way (get_or es (i + 1) 0) (get_or es i 0)) (λ i. way_now flags (step_word es (of p) (get_or st p 0) (get_or st (p + 1) 0) i)) from many (λ k f g. sym (way-turned (step_word es (of p) (get_or st p 0) (get_or st (p + 1) 0) k) (step_use es st ft n l p k h f (inner (get_or st p 0) (get_or st (p + 1) 0) k g f)) z)))
        ∙ sym words-ways

    ring-goes : tally t (ways_of (turn_ring_of (get_or flags (of p) 0) (ring_at es st p))) ≡ tally (λ w. t (way_now flags w)) (ring_words_of es st (of p) p)
    unfolding turn_ring_of
    ring-goes = by_cases (ℕ_discrete (get_or flags (of p) 0) 0) (λ z. ap (λ (k : ℕ). tally t (ways_of (turn_ring_of k (ring_at es st p)))) z ∙ kept-ways z) (λ d. ap (λ (k : ℕ). tally t (ways_of (turn_ring_of k (ring_at es st p)))) (set d) ∙ turned-ways (set d))
      where
        set : get_or flags (of p) 0 ≢ 0 → get_or flags (of p) 0 ≡ 1
        set d = omega (arith, few (of p))

  -- the ways of all rings, each turned as its polygon is
  abbrev ring_now : ℕ → List ℕ
  ring_now r = turn_ring_of (get_or flags (of r) 0) (ring_at es st r)

  all-goes : (m : ℕ) → m ≤ rings → (t : ℕ → Bool) → tally t (all ways_of (tab ring_now m)) ≡ tally (λ w. t (way_now flags w)) (words_to es st of m)
  unfolding tab words_to all
  all-goes zero h t = tally_nil t ∙ sym (tally_nil (λ w. t (way_now flags w)))
  all-goes (suc m) h t =
      ap (tally t) (all_append ways_of (tab ring_now m) (ring_now m))
      ∙ tally_append t (all ways_of (tab ring_now m)) (ways_of (ring_now m))
      ∙ ap₂ (λ (x y : ℕ). x + y) (all-goes m (omega arith) t) (ring-goes m h t)
      ∙ sym (tally_append (λ w. t (way_now flags w)) (words_to es st of m) (ring_words_of es st (of m) m))

  abbrev table : List ℕ
  table = ascending (words_of es st ft n)

  abbrev now : List Polygon
  now = turned_polygons es st ft n flags

  -- the rings of a polygon under its flag
  turned-rings : (p : ℕ) → p < n → rings_of (turn (get_or flags p 0) (polygon_at es st ft p)) ≡ span ring_now (get_or ft p 0) (get_or ft (p + 1) 0 - get_or ft p 0)
  turned-rings p h =
      turn_each (get_or flags p 0) (polygon_at es st ft p)
      ∙ (ap (map (turn_ring_of (get_or flags p 0))) (rings-at es st ft n l.layout p h)
      ∙ (map-span (turn_ring_of (get_or flags p 0)) (ring_at es st) (get_or ft p 0) (get_or ft (p + 1) 0 - get_or ft p 0)
      ∙ span_same (λ r. turn_ring_of (get_or flags p 0) (ring_at es st r)) ring_now (get_or ft p 0) (get_or ft (p + 1) 0 - get_or ft p 0) (λ r a b. ap (λ (q : ℕ). turn_ring_of (get_or flags q 0) (ring_at es st r)) (sym (ring-owned es st ft n l.layout p r h a (within (get_or ft p 0) (get_or ft (p + 1) 0) r b a))))))
    where
      within : (a b k : ℕ) → k < a + (b - a) → a ≤ k → k < b
      within a b k h g = omega arith

  rings-now : all_rings now ≡ tab ring_now rings
  unfolding turned_polygons
  rings-now = rings-told es st ft n l.layout (λ p. turn (get_or flags p 0) (polygon_at es st ft p)) ring_now turned-rings

  -- a way is gone by as many words as it is gone by the rings
  goes_is : (x : ℕ) → goes (all_rings now) x ≡ tally (λ w. eqb x (way_now flags w)) table
  unfolding goes count
  goes_is x = ap (λ (rs : List (List ℕ)). tally (eqb x) (all ways_of rs)) rings-now ∙ (all-goes rings (le_refl rings) (eqb x) ∙ sym (tally-ascending (λ w. eqb x (way_now flags w)) (words_of es st ft n)))

  uses_is : (e : ℕ) → uses (all_rings now) e ≡ tally (of_edge e) table
  uses_is e = uses-turned (turned_polygons_lem es st ft n flags) e ∙ (sym (key_count es st ft n l e) ∙ tally_keys e table)

  all_proper : (w : ℕ) → In w table → smaller (key_from w) < larger (key_from w)
  all_proper w i = proper w (words_use es st ft n l rings w (le_refl rings) (in_ascending (words_of es st ft n) w i))

-- ---- 0A, over words in pairs
abbrev Proper : ℕ → Type 0
Proper e = smaller e < larger e

round-apart : (k e : ℕ) → Proper k → Proper e → round k ≢ e
unfolding way smaller larger
round-apart k e p q h = omega arith

round_same : (k e : ℕ) → Proper k → Proper e → round k ≡ round e → k ≡ e
unfolding way smaller larger
round_same k e p q h = omega arith

module _ (flags : List ℕ) where
  -- whether a word goes the way x
  abbrev goes_by : ℕ → ℕ → Bool
  goes_by x w = eqb x (way_now flags w)

  abbrev AlikeIn : List ℕ → ℕ → Type 0
  AlikeIn l e = (1 ≤ tally (of_edge e) l) × ((2 ≤ tally (goes_by e) l) ⊎ (2 ≤ tally (goes_by (round e)) l))

  -- one word of the edge e, or of another
  module _ (x e : ℕ) (px : Proper (key_from x)) (pe : Proper e) where
    other-on : key_from x ≢ e → one (goes_by e) x ≡ 0
    other-on d = one_no (goes_by e) x (ne_eqb e (way_now flags x) (λ q. by_cases (ℕ_discrete (heading_of flags x) 0) (λ z. d (sym (q ∙ way_on flags x z))) (λ z. round-apart (key_from x) e px pe (sym (q ∙ way_back flags x z)))))

    other-back : key_from x ≢ e → one (goes_by (round e)) x ≡ 0
    other-back d = one_no (goes_by (round e)) x (ne_eqb (round e) (way_now flags x) (λ q. by_cases (ℕ_discrete (heading_of flags x) 0) (λ z. round-apart e (key_from x) pe px (q ∙ way_on flags x z)) (λ z. d (round_same (key_from x) e px pe (sym (q ∙ way_back flags x z))))))

  module _ (x e : ℕ) (k : key_from x ≡ e) (pe : Proper e) where
    on-on : heading_of flags x ≡ 0 → one (goes_by e) x ≡ 1
    on-on z = one_yes (goes_by e) x (eq-eqb e (way_now flags x) (sym (way_on flags x z ∙ k)))

    on-back : heading_of flags x ≡ 0 → one (goes_by (round e)) x ≡ 0
    on-back z = one_no (goes_by (round e)) x (ne_eqb (round e) (way_now flags x) (λ q. round-apart e e pe pe (q ∙ (way_on flags x z ∙ k))))

    back_on : heading_of flags x ≢ 0 → one (goes_by e) x ≡ 0
    back_on z = one_no (goes_by e) x (ne_eqb e (way_now flags x) (λ q. round-apart e e pe pe (sym (q ∙ (way_back flags x z ∙ ap round k)))))

    back-back : heading_of flags x ≢ 0 → one (goes_by (round e)) x ≡ 1
    back-back z = one_yes (goes_by (round e)) x (eq-eqb (round e) (way_now flags x) (sym (way_back flags x z ∙ ap round k)))

  two : (t : ℕ → Bool) (w v : ℕ) (l : List ℕ) → tally t (w ∷ v ∷ l) ≡ one t w + (one t v + tally t l)
  two t w v l = tally_cons t w (v ∷ l) ∙ ap (λ (z : ℕ). one t w + z) (tally_cons t v l)

  edge_in : (l : List ℕ) (e : ℕ) → 1 ≤ tally (of_edge e) l → (x : ℕ) × In x l × (key_from x ≡ e)
  edge_in l e h = let r = tally_in (of_edge e) l h in (r.0, r.1, sym (eqb-true e (key_from r.0) r.2))

  is_as : {P Q : ℕ → Type 0} {o : Option ℕ} → Is P o → ((x : ℕ) → P x → Q x) → ((x : ℕ) → Q x → P x) → Is Q o
  is_as i f g = record {
    found = λ x e. let m = i.found x e in record { holds = f x m.holds; first = λ j q. m.first j (g j q) };
    missing = λ e x q. i.missing e x (g x q);
  }

  module _ (w v : ℕ) (l : List ℕ) (q : key_from w ≡ key_from v) (above : (x : ℕ) → In x l → key_from w < key_from x) (pr : (x : ℕ) → In x (w ∷ v ∷ l) → Proper (key_from x)) where
    abbrev k : ℕ
    k = key_from w

    pk : Proper k
    pk = pr w (inl refl)

    none-on : tally (goes_by k) l ≡ 0
    none-on = by_cases (dec_lt 0 (tally (goes_by k) l)) (λ h. absurd (bad h)) (λ h. omega arith)
      where
        bad : 0 < tally (goes_by k) l → ⊥
        bad h =
            let r = tally_in (goes_by k) l h in
            let e : k ≡ way_now flags r.0 = eqb-true k (way_now flags r.0) r.2 in
            by_cases (ℕ_discrete (heading_of flags r.0) 0) (λ z. less k (key_from r.0) (above r.0 r.1) (e ∙ way_on flags r.0 z)) (λ z. round-apart (key_from r.0) k (pr r.0 (inr (inr r.1))) pk (sym (e ∙ way_back flags r.0 z)))
          where
            less : (a b : ℕ) → a < b → a ≡ b → ⊥
            less a b h e = omega arith

    none-back : tally (goes_by (round k)) l ≡ 0
    none-back = by_cases (dec_lt 0 (tally (goes_by (round k)) l)) (λ h. absurd (bad h)) (λ h. omega arith)
      where
        bad : 0 < tally (goes_by (round k)) l → ⊥
        bad h =
            let r = tally_in (goes_by (round k)) l h in
            let e : round k ≡ way_now flags r.0 = eqb-true (round k) (way_now flags r.0) r.2 in
            let px : Proper (key_from r.0) = pr r.0 (inr (inr r.1)) in
            by_cases (ℕ_discrete (heading_of flags r.0) 0) (λ z. round-apart k (key_from r.0) pk px (e ∙ way_on flags r.0 z)) (λ z. less k (key_from r.0) (above r.0 r.1) (round_same k (key_from r.0) pk px (e ∙ way_back flags r.0 z)))
          where
            less : (a b : ℕ) → a < b → a ≡ b → ⊥
            less a b h e = omega arith

    -- the two go in one direction
    alike-here : heading_of flags w ≡ heading_of flags v → Least (AlikeIn (w ∷ v ∷ l)) k
    alike-here s = record {
      holds = (omega (arith, two (of_edge k) w v l, one_yes (of_edge k) w (eq-eqb k (key_from w) refl)), by_cases (ℕ_discrete (heading_of flags w) 0) (λ z. inl (omega (arith, two (goes_by k) w v l, on-on w k refl pk z, on-on v k (sym q) pk (sym s ∙ z)))) (λ z. inr (omega (arith, two (goes_by (round k)) w v l, back-back w k refl pk z, back-back v k (sym q) pk (λ y. z (s ∙ y))))));
      first = λ j a. let r = edge_in (w ∷ v ∷ l) j a.0 in lowest j r.0 r.1 r.2;
    }
      where
        lowest : (j x : ℕ) → In x (w ∷ v ∷ l) → key_from x ≡ j → k ≤ j
        lowest j x (inl e) y = omega (arith, ap key_from e)
        lowest j x (inr (inl e)) y = omega (arith, ap key_from e)
        lowest j x (inr (inr i)) y = omega (arith, above x i)

    -- the two go in both directions
    alike-later : heading_of flags w ≢ heading_of flags v → (e : ℕ) → AlikeIn (w ∷ v ∷ l) e → AlikeIn l e
    alike-later d e a = by_cases (ℕ_discrete k e) (λ z. absurd (not-here (subst (λ (x : ℕ). AlikeIn (w ∷ v ∷ l) x) (sym z) a))) (λ z. elsewhere z)
      where
        not-here : AlikeIn (w ∷ v ∷ l) k → ⊥
        not-here a =
            by_cases
            (ℕ_discrete (heading_of flags w) 0)
            (λ z. let y : heading_of flags v ≢ 0 = λ y. d (z ∙ sym y) in ⊎_elim (λ (h : 2 ≤ tally (goes_by k) (w ∷ v ∷ l)). few (goes_by k) h (on-on w k refl pk z) (back_on v k (sym q) pk y) none-on) (λ (h : 2 ≤ tally (goes_by (round k)) (w ∷ v ∷ l)). few' (goes_by (round k)) h (on-back w k refl pk z) (back-back v k (sym q) pk y) none-back) a.1)
            (λ z. let y : heading_of flags v ≡ 0 = low (heading_of flags w) (heading_of flags v) (bit (dir_of w + get_or flags (poly_from w) 0)) (bit (dir_of v + get_or flags (poly_from v) 0)) z d in ⊎_elim (λ (h : 2 ≤ tally (goes_by k) (w ∷ v ∷ l)). few' (goes_by k) h (back_on w k refl pk z) (on-on v k (sym q) pk y) none-on) (λ (h : 2 ≤ tally (goes_by (round k)) (w ∷ v ∷ l)). few (goes_by (round k)) h (back-back w k refl pk z) (on-back v k (sym q) pk y) none-back) a.1)
          where
            bit : (x : ℕ) → x % 2 < 2
            bit x = omega arith

            low : (x y : ℕ) → x < 2 → y < 2 → x ≢ 0 → x ≢ y → y ≡ 0
            low x y a b c d = omega arith

            few : (t : ℕ → Bool) → 2 ≤ tally t (w ∷ v ∷ l) → one t w ≡ 1 → one t v ≡ 0 → tally t l ≡ 0 → ⊥
            few t h a b c = omega (arith, two t w v l)

            few' : (t : ℕ → Bool) → 2 ≤ tally t (w ∷ v ∷ l) → one t w ≡ 0 → one t v ≡ 1 → tally t l ≡ 0 → ⊥
            few' t h a b c = omega (arith, two t w v l)

        pe : Proper e
        pe = let r = edge_in (w ∷ v ∷ l) e a.0 in subst Proper r.2 (pr r.0 r.1)

        drop-two : (t : ℕ → Bool) (b : ℕ) → b ≤ tally t (w ∷ v ∷ l) → one t w ≡ 0 → one t v ≡ 0 → b ≤ tally t l
        drop-two t b h x y = omega (arith, two t w v l)

        elsewhere : k ≢ e → AlikeIn l e
        elsewhere z =
            let zv : key_from v ≢ e = λ y. z (q ∙ y) in (
              drop-two (of_edge e) 1 a.0 (one_no (of_edge e) w (ne_eqb e (key_from w) (λ y. z (sym y)))) (one_no (of_edge e) v (ne_eqb e (key_from v) (λ y. zv (sym y)))),
              ⊎_elim (λ (h : 2 ≤ tally (goes_by e) (w ∷ v ∷ l)). inl (drop-two (goes_by e) 2 h (other-on w e pk pe z) (other-on v e (pr v (inr (inl refl))) pe zv))) (λ (h : 2 ≤ tally (goes_by (round e)) (w ∷ v ∷ l)). inr (drop-two (goes_by (round e)) 2 h (other-back w e pk pe z) (other-back v e (pr v (inr (inl refl))) pe zv))) a.1,
            )

    later-alike : (e : ℕ) → AlikeIn l e → AlikeIn (w ∷ v ∷ l) e
    later-alike e a = (more (of_edge e) 1 a.0, ⊎_elim (λ (h : 2 ≤ tally (goes_by e) l). inl (more (goes_by e) 2 h)) (λ (h : 2 ≤ tally (goes_by (round e)) l). inr (more (goes_by (round e)) 2 h)) a.1)
      where
        more : (t : ℕ → Bool) (b : ℕ) → b ≤ tally t l → b ≤ tally t (w ∷ v ∷ l)
        more t b h = omega (arith, two t w v l)

  alike_in_lem : {l : List ℕ} → Pairs l → ((x : ℕ) → In x l → Proper (key_from x)) → Is (AlikeIn l) (alike_in flags l)
  unfolding alike_in
  alike_in_lem empty pr = record { found = λ x e. absurd (bad x e); missing = λ e x a. nothing x a.0 }
    where
      bad : (x : ℕ) → ◌≡◌ {A = Option ℕ} none (some x) → ⊥
      bad x e = let z : ◌≡◌ {A = ℕ} 0 1 = cc in omega arith

      nothing : (x : ℕ) → 1 ≤ tally (of_edge x) [] → ⊥
      nothing x h = omega (arith, tally_nil (of_edge x))
  alike_in_lem (pair {w = w} {v = v} {l = l} q above p) pr = go (eqb (heading_of flags w) (heading_of flags v)) refl (alike_in_lem p (λ x i. pr x (inr (inr i))))
    where
      bad : (x : ℕ) → ◌≡◌ {A = Option ℕ} (some x) none → ⊥
      bad x e = let z : ◌≡◌ {A = ℕ} 0 1 = cc in omega arith

      inj : {x y : ℕ} → ◌≡◌ {A = Option ℕ} (some x) (some y) → x ≡ y
      inj f = cc

      go : (b : Bool) → eqb (heading_of flags w) (heading_of flags v) ≡ b → Is (AlikeIn l) (alike_in flags l) → Is (AlikeIn (w ∷ v ∷ l)) (elim b as (λ _. Option ℕ) [ true ↦ some (key_from w) | false ↦ alike_in flags l ])
      go true e ih = record { found = λ x f. subst (λ (z : ℕ). Least (AlikeIn (w ∷ v ∷ l)) z) (inj f) (alike-here w v l q above pr (eqb-true (heading_of flags w) (heading_of flags v) e)); missing = λ f. absurd (bad (key_from w) f) }
      go false e ih = is_as ih (later-alike w v l q above pr) (alike-later w v l q above pr (eqb-false (heading_of flags w) (heading_of flags v) e))

-- where the words stand in pairs, the scan finds the least edge used twice in one direction
pub alike_found : (es st ft : List ℕ) (n : ℕ) (l : Loaded es st ft n) (flags : List ℕ) → ((q : ℕ) → get_or flags q 0 ≤ 1) → Pairs (ascending (words_of es st ft n)) → used_alike (all_rings (turned_polygons es st ft n flags)) ≡ alike_in flags (ascending (words_of es st ft n))
alike_found es st ft n l flags few p =
    is_same (alike_is (all_rings (turned_polygons es st ft n flags))) (alike_in_lem flags p (all_proper es st ft n l flags few)) (λ e a. (subst (λ (k : ℕ). 1 ≤ k) (uses_is es st ft n l flags few e) a.0, ⊎_elim (λ (h : 2 ≤ goes (all_rings (turned_polygons es st ft n flags)) e). inl (subst (λ (k : ℕ). 2 ≤ k) (goes_is es st ft n l flags few e) h)) (λ (h : 2 ≤ goes (all_rings (turned_polygons es st ft n flags)) (round e)). inr (subst (λ (k : ℕ). 2 ≤ k) (goes_is es st ft n l flags few (round e)) h)) a.1)) (λ e a. (subst (λ (k : ℕ). 1 ≤ k) (sym (uses_is es st ft n l flags few e)) a.0, ⊎_elim (λ (h : 2 ≤ tally (λ w. eqb e (way_now flags w)) (ascending (words_of es st ft n))). inl (subst (λ (k : ℕ). 2 ≤ k) (sym (goes_is es st ft n l flags few e)) h)) (λ (h : 2 ≤ tally (λ w. eqb (round e) (way_now flags w)) (ascending (words_of es st ft n))). inr (subst (λ (k : ℕ). 2 ≤ k) (sym (goes_is es st ft n l flags few (round e))) h)) a.1))
