-- The users that the words of the edge table tell are those of the polygons, whatever their findings: open, short and empty rings too.
use Prim.Native.Nat.{ℕ, zero, suc, ◌+◌, ◌-◌, ◌/◌, ◌%◌, ◌≤◌, ◌<◌, min}
use native.Mathlib.Omega.{arith}
use Rattle.std.proofs.Common.{le_refl, add-one, ap₂, subst, ◌∙◌, inl, inr, ⊎_elim, eqb-true}
use Rattle.std.specs.Prelude.{◌≡◌, refl, Bool, true, false, eqb, length, take, drop}
use Rattle.std.proofs.Math.Path.{sym, ap}
use mathlib.Core.List.{List, [], ◌∷◌, ◌++◌, map, append_assoc, append-nil}
use Rattle.std.proofs.Math.ListN.{get_or, replicate}
use Rattle.whole.specs.Lists.{steps, tab, keep, tally}
use Rattle.whole.specs.laws.Places.{tab-length}
use Rattle.whole.specs.held.Spans.{span}
use Rattle.whole.specs.laws.Spans.{map-span, span_append}
use Rattle.ring.specs.Polygon.{Polygon, rings_of, all}
use Rattle.ring.specs.held.Rings.{ring_at, polygon_at, polygons, Layout, owner_of}
use Rattle.ring.specs.laws.Owners.{owned, owner_few, rings-at, firsts_ordered}
use Rattle.edges.specs.Edges.{edge, edges_of, count}
use Rattle.edges.specs.Order.{ascending}
use Rattle.edges.specs.held.Ascending.{In, Asc}
use Rattle.edges.specs.held.Table.{word_of, step_word, next_at, ring_words_of, words_to, words_of}
use Rattle.edges.specs.laws.Tallies.{tally-map, tally_append, in_either}
use Rattle.edges.specs.laws.Ascending.{asc_ascending, asc_unique, tally-ascending}
use Rattle.words.specs.held.Words.{key_from, poly_from}
use Rattle.shell.specs.held.Kept.{turned_polygons}
use Rattle.shell.specs.laws.Closure.{keep_in}
use Rattle.shell.specs.laws.Pairs.{of_edge}
use Rattle.shell.specs.laws.Uses.{word_key, word_poly, next_below, map_append, all_append, pair_at, steps-part}
use Rattle.directions.specs.laws.Turned.{turned_polygons_lem}
use Rattle.users.specs.EdgeList.{users_from, users_at, listed, across}
use Rattle.users.specs.held.Users.{users_in, Told}
use Rattle.users.specs.laws.Keeps.{keep_append, both, tally-keep}
use Rattle.users.proofs.laws.Listing.{across_is}
use Rattle.users.proofs.laws.Turned.{users_turned}

-- ---- what the word of a step tells
module _ (es : List ℕ) (p from to i : ℕ) (hp : p < 256) (a : from ≤ i) (b : i + 1 < to) (c : to ≤ 1024) where
  abbrev x : ℕ
  x = get_or es i 0

  abbrev y : ℕ
  y = get_or es (i + 1) 0

  step_key : key_from (step_word es p from to i) ≡ edge x y
  unfolding word_of
  step_key = word_key (edge x y) p i (next_at from to i) (min 1 (x - y)) hp (omega arith) (next_below from to i (omega arith) b c) (omega arith)

  step_poly : poly_from (step_word es p from to i) ≡ p
  unfolding word_of
  step_poly = word_poly (edge x y) p i (next_at from to i) (min 1 (x - y)) hp (omega arith) (next_below from to i (omega arith) b c) (omega arith)

-- ---- the users of one ring

edges_some : (es : List ℕ) (from m : ℕ) → from + m < length es → edges_of (take (suc m) (drop from es)) ≡ span (λ k. edge (get_or es k 0) (get_or es (k + 1) 0)) from m
unfolding edges_of
edges_some es from m h = ap (map (λ s. edge s.0 s.1)) (steps-part es m from h) ∙ map-span (λ s. edge s.0 s.1) (pair_at es) from m

edges-part : (es : List ℕ) (from to : ℕ) → to ≤ length es → edges_of (take (to - from) (drop from es)) ≡ span (λ k. edge (get_or es k 0) (get_or es (k + 1) 0)) from (to - from - 1)
unfolding edges_of steps span
edges-part es from to h = go (to - from) refl
  where
    go : (m : ℕ) → to - from ≡ m → edges_of (take m (drop from es)) ≡ span (λ k. edge (get_or es k 0) (get_or es (k + 1) 0)) from (m - 1)
    go zero e = refl
    go (suc m) e = let z : suc m - 1 ≡ m = omega arith in rw z (edges_some es from m (omega arith))

-- where the words from i on have the keys g and are all of polygon p
span_users : (e p : ℕ) (f g : ℕ → ℕ) (i n : ℕ) → ((k : ℕ) → i ≤ k → k < i + n → (key_from (f k) ≡ g k) × (poly_from (f k) ≡ p)) → users_in e (span f i n) ≡ replicate (count e (span g i n)) p
unfolding users_in keep span count tally
span_users e p f g i zero h = refl
span_users e p f g i (suc n) h = go (eqb e (g i)) refl (span_users e p f g (i + 1) n (λ k a b. h k (omega arith) (omega arith)))
  where
    q : (key_from (f i) ≡ g i) × (poly_from (f i) ≡ p)
    q = h i (le_refl i) (omega arith)

    go : (b : Bool) → eqb e (g i) ≡ b → users_in e (span f (i + 1) n) ≡ replicate (count e (span g (i + 1) n)) p → users_in e (span f i (suc n)) ≡ replicate (count e (span g i (suc n))) p
    go true z ih =
        let k : eqb e (key_from (f i)) ≡ true = ap (eqb e) q.0 ∙ z in
        rw (k, z, users_in, keep, count, tally) (ap₂ (λ (x : ℕ) (l : List ℕ). x ∷ l) q.1 ih)
    go false z ih =
        let k : eqb e (key_from (f i)) ≡ false = ap (eqb e) q.0 ∙ z in
        rw (k, z, users_in, keep, count, tally) ih

ring_users : (e : ℕ) (es st : List ℕ) (p r : ℕ) → p < 256 → get_or st (r + 1) 0 ≤ 1024 → length es ≡ 1024 → users_in e (ring_words_of es st p r) ≡ replicate (count e (edges_of (ring_at es st r))) p
ring_users e es st p r hp w s =
    span_users e p (step_word es p from to) (λ k. edge (get_or es k 0) (get_or es (k + 1) 0)) from (to - from - 1)
    (λ k a b. let c : k + 1 < to = inner from to k b a in (step_key es p from to k hp a c w, step_poly es p from to k hp a c w))
    ∙ ap (λ (l : List ℕ). replicate (count e l) p) (sym (edges-part es from to (omega arith)))
  where
    from : ℕ
    from = get_or st r 0

    to : ℕ
    to = get_or st (r + 1) 0

    inner : (a b k : ℕ) → k < a + (b - a - 1) → a ≤ k → k + 1 < b
    inner a b k h g = omega arith

-- ---- of all rings, as the words are gathered

users_append : (e : ℕ) (a b : List ℕ) → users_in e (a ++ b) ≡ users_in e a ++ users_in e b
unfolding users_in
users_append e a b = ap (map poly_from) (keep_append (of_edge e) a b) ∙ map_append poly_from (keep (of_edge e) a) (keep (of_edge e) b)

one-polygon_more : (e n : ℕ) (ps : List Polygon) (p : Polygon) → users_from e n (ps ++ (p ∷ [])) ≡ users_from e n ps ++ replicate (count e (all edges_of (rings_of p))) (n + length ps)
unfolding users_from
one-polygon_more e n [] p = let z : n + 0 ≡ n = omega arith in rw z (append-nil (replicate (count e (all edges_of (rings_of p))) n))
one-polygon_more e n (q ∷ ps) p =
    let z : suc n + length ps ≡ n + suc (length ps) = omega arith in
    ap (λ (l : List ℕ). replicate (count e (all edges_of (rings_of q))) n ++ l) (one-polygon_more e (suc n) ps p ∙ ap (λ (k : ℕ). users_from e (suc n) ps ++ replicate (count e (all edges_of (rings_of p))) k) z)
    ∙ sym (append_assoc (replicate (count e (all edges_of (rings_of q))) n) (users_from e (suc n) ps) (replicate (count e (all edges_of (rings_of p))) (n + suc (length ps))))

replicate_more : (a b p : ℕ) → replicate (a + b) p ≡ replicate a p ++ replicate b p
replicate_more zero b p = let z : 0 + b ≡ b = omega arith in ap (λ (k : ℕ). replicate k p) z
replicate_more (suc a) b p = let z : suc a + b ≡ suc (a + b) = omega arith in ap (λ (k : ℕ). replicate k p) z ∙ ap (λ (l : List ℕ). p ∷ l) (replicate_more a b p)

words-suc : (es st : List ℕ) (of : ℕ → ℕ) (j : ℕ) → words_to es st of (suc j) ≡ words_to es st of j ++ ring_words_of es st (of j) j
unfolding words_to
words-suc es st of j = refl

module _ (es st ft : List ℕ) (n : ℕ) (b : Layout es st ft n) (e : ℕ) where
  abbrev of : ℕ → ℕ
  of = owner_of ft n

  abbrev f : ℕ → List ℕ
  f = ring_at es st

  -- k rings from a on, all of polygon p
  stretch_users : (p a k : ℕ) → a + k ≤ get_or ft n 0 → ((r : ℕ) → a ≤ r → r < a + k → of r ≡ p) → users_in e (words_to es st of (a + k)) ≡ users_in e (words_to es st of a) ++ replicate (count e (all edges_of (span f a k))) p
  unfolding span all count tally
  stretch_users p a zero h o = let z : a + 0 ≡ a = omega arith in rw z (sym (append-nil (users_in e (words_to es st of a))))
  stretch_users p a (suc k) h o =
      ap (λ (j : ℕ). users_in e (words_to es st of j)) next
      ∙ (last (a + k)
      ∙ (ap₂ (λ (x y : List ℕ). x ++ y) (stretch_users p a k (omega arith) (λ r g t. o r g (omega arith))) ring
      ∙ (append_assoc (users_in e (words_to es st of a)) (replicate (count e (all edges_of (span f a k))) p) (replicate (count e (edges_of (f (a + k)))) p)
      ∙ ap (λ (l : List ℕ). users_in e (words_to es st of a) ++ l) (sym (replicate_more (count e (all edges_of (span f a k))) (count e (edges_of (f (a + k)))) p) ∙ ap (λ (j : ℕ). replicate j p) (sym counts)))))
    where
      next : a + suc k ≡ suc (a + k)
      next = omega arith

      last : (j : ℕ) → users_in e (words_to es st of (suc j)) ≡ users_in e (words_to es st of j) ++ users_in e (ring_words_of es st (of j) j)
      last j = ap (users_in e) (words-suc es st of j) ∙ users_append e (words_to es st of j) (ring_words_of es st (of j) j)

      ring : users_in e (ring_words_of es st (of (a + k)) (a + k)) ≡ replicate (count e (edges_of (f (a + k)))) p
      ring =
          let w : get_or st (a + k + 1) 0 ≤ 1024 = omega (arith, b.ordered (a + k + 1) (get_or ft n 0) (omega arith) (le_refl (get_or ft n 0)), b.inside) in
          ring_users e es st (of (a + k)) (a + k) (owner_few es st ft n b (a + k) (omega arith)) w b.entries-size ∙ ap (replicate (count e (edges_of (f (a + k))))) (o (a + k) (omega arith) (omega arith))

      counts : count e (all edges_of (span f a (suc k))) ≡ count e (all edges_of (span f a k)) + count e (edges_of (f (a + k)))
      counts = ap (λ (l : List (List ℕ)). count e (all edges_of l)) (ap (span f a) one_more ∙ span_append f a k 1) ∙ (ap (count e) (all_append edges_of (span f a k) (f (a + k))) ∙ tally_append (eqb e) (all edges_of (span f a k)) (edges_of (f (a + k))))
        where
          one_more : suc k ≡ k + 1
          one_more = omega arith

  words_users : (m : ℕ) → m ≤ n → users_in e (words_to es st of (get_or ft m 0)) ≡ users_at e (polygons es st ft m)
  unfolding words_to polygons tab users_at users_from users_in keep
  words_users zero h = ap (λ (k : ℕ). users_in e (words_to es st of k)) b.begin
  words_users (suc m) h =
      ap (λ (k : ℕ). users_in e (words_to es st of k)) (sym reach)
      ∙ (stretch_users m from (to - from) (omega (arith, reach-le, up)) (λ r a t. owned es st ft n b m r h a (within r a t))
      ∙ (ap₂ (λ (x y : List ℕ). x ++ y) (words_users m (omega arith)) (ap (λ (l : List (List ℕ)). replicate (count e (all edges_of l)) m) (sym (rings-at es st ft n b m h)))
      ∙ (ap (λ (k : ℕ). users_from e 0 (tab (polygon_at es st ft) m) ++ replicate (count e (all edges_of (rings_of (polygon_at es st ft m)))) k) (sym number)
      ∙ sym (one-polygon_more e 0 (tab (polygon_at es st ft) m) (polygon_at es st ft m)))))
    where
      from : ℕ
      from = get_or ft m 0

      to : ℕ
      to = get_or ft (m + 1) 0

      up : from < to
      up = b.rising m (m + 1) (omega arith) (omega arith)

      reach-le : to ≤ get_or ft n 0
      reach-le = firsts_ordered es st ft n b (m + 1) n (omega arith) (le_refl n)

      reach : from + (to - from) ≡ get_or ft (suc m) 0
      reach = sum from to up ∙ ap (λ (k : ℕ). get_or ft k 0) (add-one m)
        where
          sum : (a b : ℕ) → a < b → a + (b - a) ≡ b
          sum a b h = omega arith

      within : (r : ℕ) → from ≤ r → r < from + (to - from) → r < to
      within r a t = omega arith

      number : 0 + length (tab (polygon_at es st ft) m) ≡ m
      number = omega (arith, tab-length (polygon_at es st ft) m)

-- ---- the words of one edge in order are in order of their polygons

in_map : (f : ℕ → ℕ) (l : List ℕ) (y : ℕ) → In y (map f l) → (v : ℕ) × In v l × (f v ≡ y)
in_map f [] y i = absurd i
in_map f (v ∷ l) y (inl q) = (v, inl refl, sym q)
in_map f (v ∷ l) y (inr i) = let r = in_map f l y i in (r.0, inr r.1, r.2)

poly_order : (w v : ℕ) → w ≤ v → w / 536870912 ≡ v / 536870912 → w / 2097152 % 256 ≤ v / 2097152 % 256
poly_order w v h e = omega arith

asc_users : (e : ℕ) (l : List ℕ) → Asc l → Asc (users_in e l)
unfolding users_in keep
asc_users e [] a = tt
asc_users e (w ∷ l) a = go (eqb e (key_from w)) refl (asc_users e l a.1)
  where
    each : e ≡ key_from w → (y : ℕ) → In y (users_in e l) → poly_from w ≤ y
    each q y i =
        let r = in_map poly_from (keep (of_edge e) l) y i in
        let m = keep_in (of_edge e) r.0 l r.1 in
        subst (λ (z : ℕ). poly_from w ≤ z) r.2 (poly_order w r.0 (a.0 r.0 m.0) (sym q ∙ eqb-true e (key_from r.0) m.1))

    go : (b : Bool) → eqb e (key_from w) ≡ b → Asc (users_in e l) → Asc (users_in e (w ∷ l))
    go true z ih = rw (z, users_in, keep) (each (eqb-true e (key_from w) z), ih)
    go false z ih = rw (z, users_in, keep) ih

-- how many users pass a test, told of the words
tally_users : (t : ℕ → Bool) (e : ℕ) (l : List ℕ) → tally t (users_in e l) ≡ tally (both (of_edge e) (λ w. t (poly_from w))) l
unfolding users_in
tally_users t e l = tally-map t poly_from (keep (of_edge e) l) ∙ tally-keep (of_edge e) (λ w. t (poly_from w)) l

-- ---- the users of the polygons are in order

pub in_replicate : (p k y : ℕ) → In y (replicate k p) → y ≡ p
in_replicate p zero y i = absurd i
in_replicate p (suc k) y (inl q) = q
in_replicate p (suc k) y (inr i) = in_replicate p k y i

-- no user is below the first polygon's number
pub users_above : (e n : ℕ) (ps : List Polygon) (y : ℕ) → In y (users_from e n ps) → n ≤ y
unfolding users_from
users_above e n [] y i = absurd i
users_above e n (p ∷ ps) y i =
    ⊎_elim
    (λ (j : In y (replicate (count e (all edges_of (rings_of p))) n)). omega (arith, in_replicate n (count e (all edges_of (rings_of p))) y j))
    (λ (j : In y (users_from e (suc n) ps)). omega (arith, users_above e (suc n) ps y j))
    (in_either y (replicate (count e (all edges_of (rings_of p))) n) (users_from e (suc n) ps) i)

asc_front : (p k : ℕ) (l : List ℕ) → ((y : ℕ) → In y l → p ≤ y) → Asc l → Asc (replicate k p ++ l)
asc_front p zero l h a = a
asc_front p (suc k) l h a =
    (λ y i. ⊎_elim (λ (j : In y (replicate k p)). omega (arith, in_replicate p k y j)) (λ (j : In y l). h y j) (in_either y (replicate k p) l i), asc_front p k l h a)

asc_from : (e n : ℕ) (ps : List Polygon) → Asc (users_from e n ps)
unfolding users_from
asc_from e n [] = tt
asc_from e n (p ∷ ps) = asc_front n (count e (all edges_of (rings_of p))) (users_from e (suc n) ps) (λ y i. omega (arith, users_above e (suc n) ps y i)) (asc_from e (suc n) ps)

-- ---- so the sorted words tell the users of the polygons
table_users : (es st ft : List ℕ) (n : ℕ) → Layout es st ft n → (e : ℕ) → users_in e (ascending (words_of es st ft n)) ≡ users_at e (polygons es st ft n)
unfolding users_at
table_users es st ft n b e =
    let ws = words_of es st ft n in
    let ps = polygons es st ft n in
    asc_unique (users_in e (ascending ws)) (users_from e 0 ps) (asc_users e (ascending ws) (asc_ascending ws)) (asc_from e 0 ps)
    (λ t. tally_users t e (ascending ws)
    ∙ tally-ascending (both (of_edge e) (λ w. t (poly_from w))) ws
    ∙ sym (tally_users t e ws)
    ∙ ap (tally t) (words_users es st ft n b e n (le_refl n)))

-- and of the present polygons, of which any may have been turned since
pub listed_users : (es st ft : List ℕ) (n : ℕ) (turned : List ℕ) (e : ℕ) → Layout es st ft n → users_in e (ascending (words_of es st ft n)) ≡ users_at e (turned_polygons es st ft n turned)
listed_users es st ft n turned e b = table_users es st ft n b e ∙ sym (users_turned (turned_polygons_lem es st ft n turned) e)

-- what is told of the words' users is what the list of the present polygons tells of the two points
pub told-across : (es st ft : List ℕ) (n : ℕ) (turned : List ℕ) (a b count lowest second : ℕ) → Layout es st ft n → a < 65536 → b < 65536 → (a ≡ b → ⊥)
    → Told (users_in (edge a b) (ascending (words_of es st ft n))) count lowest second
    → across a b (turned_polygons es st ft n turned) ≡ record { number = edge a b; users = count; lowest = lowest; second = second }
unfolding listed
told-across es st ft n turned a b count lowest second s h g d t =
    across_is a b (turned_polygons es st ft n turned) h g d
    ∙ ap (listed (edge a b)) (sym (listed_users es st ft n turned (edge a b) s))
    ∙ sym (λ i. record { number = edge a b; users = t.count_is i; lowest = t.lowest_is i; second = t.second_is i })
