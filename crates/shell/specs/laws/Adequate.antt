-- What the definitions of Edges and Shell say in plain words: each names the least number that has a property, and none where no
-- number has it. Reaching is `Reach`: along a path.
use Rattle.std.specs.Prelude.{ℕ, zero, suc, ◌+◌, ◌≤◌, ◌<◌, min, ◌≡◌, refl, Bool, true, false, not, ◌&&◌, ◌||◌, ◌⊎◌, eqb, leb, ltb, length, get_or}
use Rattle.std.proofs.Common.{zero-le, suc-le-suc, le_antisymm, le_of_suc-le-suc, not-suc-le-zero, arith, sym, ap, ◌∙◌, true≢false, inl, inr, ⊎_elim}
use Rattle.std.proofs.Math.Decide.{ℕ_discrete, dec_lt}
use Rattle.std.proofs.Math.Path.{subst}
use Rattle.std.proofs.Math.Logic.{by_cases}
use mathlib.Core.List.{List, [], ◌∷◌, ◌++◌, map, append_assoc}
use Rattle.std.proofs.Math.Option.{Option, none, some}
use borrow.Author.Tests.{eqb-true, eq-eqb, ltb-true, lt-ltb, leb-true, le-leb}
use Rattle.std.proofs.Math.ListN.{get_or-eq_default}
use Rattle.whole.specs.Lists.{any, keep, lists, least, numbered, numbered_from}
use Rattle.ring.specs.Polygon.{Polygon, rings_of, one, all, entries_from, all_rings}
use Rattle.edges.specs.Edges.{edges_of, ways_of, count, way, smaller, larger, least_used, used_once, used_often, used_alike}
use Rattle.reach.specs.Reach.{Reach, start, step, rounds, unreached}
use Rattle.shell.specs.Shell.{polygons_of, nth, edges_at, share_edge, not_reached, ends_at, polygons_at, unlinked_at, not_linked}
use Rattle.edges.specs.held.Ascending.{In}
use Rattle.shell.specs.laws.Closure.{any_in, in_any, keep_in, in_keep, unreached-cut, cut-unreached}
use Rattle.edges.specs.laws.Tallies.{in_tally, tally_in, in_left, in_right, in_either}
use Rattle.whole.specs.Least.{Least}
use Rattle.whole.specs.laws.Bools.{or_cases}

-- o names the least number with the property P, and none where no number has it
pub record Is (P : ℕ → Type 0) (o : Option ℕ) : Type 0 where
  pub found : (x : ℕ) → o ≡ some x → Least P x
  pub missing : o ≡ none → (x : ℕ) → P x → ⊥

-- and so it is the only one to do so
pub is_some : {P : ℕ → Type 0} {o : Option ℕ} {x : ℕ} → Is P o → Least P x → o ≡ some x
is_some {P} {o} {x} i l = go o refl
  where
    go : (b : Option ℕ) → o ≡ b → o ≡ some x
    go none e = absurd (i.missing e x l.holds)
    go (some y) e = let m = i.found y e in e ∙ ap (λ (z : ℕ). some z) (le_antisymm (m.first x l.holds) (l.first y m.holds))

pub is_none : {P : ℕ → Type 0} {o : Option ℕ} → Is P o → ((x : ℕ) → P x → ⊥) → o ≡ none
is_none {P} {o} i h = go o refl
  where
    go : (b : Option ℕ) → o ≡ b → o ≡ none
    go none e = e
    go (some y) e = absurd (h y (i.found y e).holds)

-- two that name the least of the same numbers are the same
pub is_same : {P Q : ℕ → Type 0} {o o' : Option ℕ} → Is P o → Is Q o' → ((x : ℕ) → P x → Q x) → ((x : ℕ) → Q x → P x) → o ≡ o'
is_same {P} {Q} {o} {o'} i j f g = go o' refl
  where
    go : (b : Option ℕ) → o' ≡ b → o ≡ o'
    go none e = is_none i (λ x p. j.missing e x (f x p)) ∙ sym e
    go (some x) e = let m = j.found x e in is_some i (record { holds = g x m.holds; first = λ y p. m.first y (f y p) }) ∙ sym e

-- `least` is the least
pub least_is : (l : List ℕ) → Is (λ x. In x l) (least l)
unfolding least
least_is [] = record { found = λ x e. absurd (bad x e); missing = λ e x i. i }
  where
    bad : (x : ℕ) → ◌≡◌ {A = Option ℕ} none (some x) → ⊥
    bad x e = let z : ◌≡◌ {A = ℕ} 0 1 = cc in omega arith
least_is (a ∷ l) = go (least l) refl (least_is l)
  where
    go : (o : Option ℕ) → least l ≡ o → Is (λ x. In x l) (least l) → Is (λ x. In x (a ∷ l)) (elim o as (λ _. Option ℕ) [ none ↦ some a | some y ↦ some (min a y) ])
    go none e i = record {
      found = λ x f. let q : a ≡ x = cc in record { holds = inl (sym q); first = λ j k. ⊎_elim (λ (z : j ≡ a). omega arith) (λ (z : In j l). absurd (i.missing e j z)) k };
      missing = λ f. absurd (bad a f);
    }
      where
        bad : (x : ℕ) → ◌≡◌ {A = Option ℕ} (some x) none → ⊥
        bad x e = let z : ◌≡◌ {A = ℕ} 0 1 = cc in omega arith
    go (some y) e i = record {
      found = λ x f. found x (inj f);
      missing = λ f. absurd (bad (min a y) f);
    }
      where
        bad : (x : ℕ) → ◌≡◌ {A = Option ℕ} (some x) none → ⊥
        bad x e = let z : ◌≡◌ {A = ℕ} 0 1 = cc in omega arith

        inj : {u v : ℕ} → ◌≡◌ {A = Option ℕ} (some u) (some v) → u ≡ v
        inj f = cc

        m : Least (λ x. In x l) y
        m = i.found y e

        found : (x : ℕ) → min a y ≡ x → Least (λ x. In x (a ∷ l)) x
        found x q = record {
          holds = by_cases (dec_lt a y) (λ lt. inl (omega arith)) (λ ge. inr (subst (λ (z : ℕ). In z l) (lower ge) m.holds));
          first = λ j k. ⊎_elim (λ (z : j ≡ a). omega arith) (λ (z : In j l). omega (arith, m.first j z)) k;
        }
          where
            lower : (a < y → ⊥) → y ≡ x
            lower ge = omega arith

-- the least of those of a list that a test holds of
keep_is : (t : ℕ → Bool) (l : List ℕ) (P : ℕ → Type 0) → ((x : ℕ) → In x l → t x ≡ true → P x) → ((x : ℕ) → P x → In x l × (t x ≡ true)) → Is P (least (keep t l))
keep_is t l P f g =
    let i = least_is (keep t l) in
    record {
      found = λ x e. let m = i.found x e in let k = keep_in t x l m.holds in record { holds = f x k.0 k.1; first = λ j p. let w = g j p in m.first j (in_keep t j l w.0 w.1) };
      missing = λ e x p. let w = g x p in i.missing e x (in_keep t x l w.0 w.1);
    }

-- how often an edge is used, and how often one way along it is gone
unfoldable pub uses : List (List ℕ) → ℕ → ℕ
uses rs e = count e (all edges_of rs)

unfoldable pub goes : List (List ℕ) → ℕ → ℕ
goes rs w = count w (all ways_of rs)

counted : (e : ℕ) (l : List ℕ) → 1 ≤ count e l → In e l
unfolding count
counted e l h = let r = tally_in (eqb e) l h in subst (λ (z : ℕ). In z l) (sym (eqb-true e r.0 r.2)) r.1

pub used : (rs : List (List ℕ)) (e : ℕ) → 1 ≤ uses rs e → In e (all edges_of rs)
unfolding uses
used rs e h = counted e (all edges_of rs) h

-- 08: the least edge that is used once
pub once_is : (rs : List (List ℕ)) → Is (λ e. uses rs e ≡ 1) (used_once rs)
unfolding used_once least_used uses
once_is rs = keep_is (λ e. eqb (count e (all edges_of rs)) 1) (all edges_of rs) (λ e. count e (all edges_of rs) ≡ 1) (λ e i h. eqb-true (count e (all edges_of rs)) 1 h) (λ e h. (counted e (all edges_of rs) (omega arith), eq-eqb (count e (all edges_of rs)) 1 h))

-- 09: the least edge that is used more than twice
pub often_is : (rs : List (List ℕ)) → Is (λ e. 2 < uses rs e) (used_often rs)
unfolding used_often least_used uses
often_is rs = keep_is (λ e. ltb 2 (count e (all edges_of rs))) (all edges_of rs) (λ e. 2 < count e (all edges_of rs)) (λ e i h. ltb-true 2 (count e (all edges_of rs)) h) (λ e h. (counted e (all edges_of rs) (omega arith), lt-ltb 2 (count e (all edges_of rs)) h))

-- 0A: the least edge that is used at least twice in one direction or at least twice in the other
abbrev pub SameWay : List (List ℕ) → ℕ → Type 0
SameWay rs e = (1 ≤ uses rs e) × ((2 ≤ goes rs e) ⊎ (2 ≤ goes rs (way (larger e) (smaller e))))

or_yes : (a b : Bool) → (a ≡ true) ⊎ (b ≡ true) → (a || b) ≡ true
or_yes true b h = refl
or_yes false b (inl h) = absurd (true≢false (sym h))
or_yes false b (inr h) = h

in_counted : (e : ℕ) (l : List ℕ) → In e l → 1 ≤ count e l
unfolding count
in_counted e l i = in_tally (eqb e) e l i (eq-eqb e e refl)

pub alike_is : (rs : List (List ℕ)) → Is (SameWay rs) (used_alike rs)
unfolding used_alike uses goes
alike_is rs =
    keep_is (λ e. leb 2 (count e (all ways_of rs)) || leb 2 (count (way (larger e) (smaller e)) (all ways_of rs))) (all edges_of rs) (SameWay rs) (λ e i h. (in_counted e (all edges_of rs) i, ⊎_elim (λ (a : leb 2 (count e (all ways_of rs)) ≡ true). inl (leb-true 2 (count e (all ways_of rs)) a)) (λ (b : leb 2 (count (way (larger e) (smaller e)) (all ways_of rs)) ≡ true). inr (leb-true 2 (count (way (larger e) (smaller e)) (all ways_of rs)) b)) (or_cases (leb 2 (count e (all ways_of rs))) (leb 2 (count (way (larger e) (smaller e)) (all ways_of rs))) h))) (λ e h. (counted e (all edges_of rs) h.0, or_yes (leb 2 (count e (all ways_of rs))) (leb 2 (count (way (larger e) (smaller e)) (all ways_of rs))) (⊎_elim (λ (a : 2 ≤ count e (all ways_of rs)). inl (le-leb 2 (count e (all ways_of rs)) a)) (λ (b : 2 ≤ count (way (larger e) (smaller e)) (all ways_of rs)). inr (le-leb 2 (count (way (larger e) (smaller e)) (all ways_of rs)) b)) h.1)))

-- two polygons share an edge
pub record Shares (ps : List Polygon) (p q : ℕ) : Type 0 where
  pub by : ℕ
  pub mine : In by (edges_at ps p)
  pub theirs : In by (edges_at ps q)

-- a polygon that cannot be reached from polygon 0 across shared edges
pub record Unreached (ps : List Polygon) (a : ℕ) : Type 0 where
  pub within : a < length ps
  pub cut : Reach (λ p. p ≡ 0) (Shares ps) a → ⊥

-- an edge ends at v
abbrev pub Ends : ℕ → ℕ → Type 0
Ends v e = (smaller e ≡ v) ⊎ (larger e ≡ v)

-- p and q are polygons at v, and share an edge that ends at v
pub record Around (ps : List Polygon) (v p q : ℕ) : Type 0 where
  pub has_p : In v (entries_from (nth ps p))
  pub has_q : In v (entries_from (nth ps q))
  pub by : ℕ
  pub ends : Ends v by
  pub mine : In by (edges_at ps p)
  pub theirs : In by (edges_at ps q)

-- two polygons at v that are not linked across edges that end at v
pub record Pinched (ps : List Polygon) (v : ℕ) : Type 0 where
  pub here : ℕ
  pub there : ℕ
  pub has_here : In v (entries_from (nth ps here))
  pub has_there : In v (entries_from (nth ps there))
  pub apart : Reach (λ p. p ≡ here) (Around ps v) there → ⊥

-- the polygons' numbers are those below their count
numbers_in : (l : List Polygon) (n q : ℕ) → In q (map (λ p. p.0) (numbered_from n l)) → (n ≤ q) × (q < n + length l)
unfolding numbered_from
numbers_in [] n q i = absurd i
numbers_in (r ∷ l) n q (inl e) = (omega arith, omega arith)
numbers_in (r ∷ l) n q (inr i) = let w = numbers_in l (suc n) q i in (omega (arith, w.0), omega (arith, w.1))

in_numbers : (l : List Polygon) (n q : ℕ) → n ≤ q → q < n + length l → In q (map (λ p. p.0) (numbered_from n l))
unfolding numbered_from
in_numbers [] n q a b = omega arith
in_numbers (r ∷ l) n q a b = by_cases (ℕ_discrete q n) (λ e. inl e) (λ d. inr (in_numbers l (suc n) q (omega arith) (omega arith)))

pub polygon_below : (ps : List Polygon) (q : ℕ) → In q (polygons_of ps) → q < length ps
unfolding polygons_of numbered
polygon_below ps q i = omega (arith, (numbers_in ps 0 q i).1)

pub below_polygon : (ps : List Polygon) (q : ℕ) → q < length ps → In q (polygons_of ps)
unfolding polygons_of numbered
below_polygon ps q h = in_numbers ps 0 q zero-le (omega arith)

and_both : (a b : Bool) → (a && b) ≡ true → (a ≡ true) × (b ≡ true)
and_both true b h = (refl, h)
and_both false b h = absurd (true≢false (sym h))

and_yes : (a b : Bool) → a ≡ true → b ≡ true → (a && b) ≡ true
and_yes true b h k = k
and_yes false b h k = h

-- what the test of a shared edge tells
module _ (t : ℕ → Bool) (ps : List Polygon) (p q : ℕ) where
  pub shared : share_edge t ps p q ≡ true → (e : ℕ) × In e (edges_at ps p) × In e (edges_at ps q) × (t e ≡ true)
  unfolding share_edge lists
  shared h =
      let a = any_in (λ e. t e && any (eqb e) (edges_at ps q)) (edges_at ps p) h in
      let b = and_both (t a.0) (any (eqb a.0) (edges_at ps q)) a.2 in
      let c = any_in (eqb a.0) (edges_at ps q) b.1 in
      (a.0, a.1, subst (λ (z : ℕ). In z (edges_at ps q)) (sym (eqb-true a.0 c.0 c.2)) c.1, b.0)

  pub shares : (e : ℕ) → In e (edges_at ps p) → In e (edges_at ps q) → t e ≡ true → share_edge t ps p q ≡ true
  unfolding share_edge lists
  shares e i j h = in_any (λ e. t e && any (eqb e) (edges_at ps q)) e (edges_at ps p) i (and_yes (t e) (any (eqb e) (edges_at ps q)) h (in_any (eqb e) e (edges_at ps q) j (eq-eqb e e refl)))

-- a polygon with an edge, or with an entry, is one of the list
edge_nil : (e : ℕ) → In e (all edges_of (rings_of (one []))) → ⊥
unfolding one rings_of all edges_of Rattle.whole.specs.Lists.steps
edge_nil e i = i

entry_nil : (v : ℕ) → In v (entries_from (one [])) → ⊥
unfolding one rings_of all entries_from
entry_nil v i = i

polygon-there : (ps : List Polygon) (q : ℕ) (P : Polygon → Type 0) → (P (one []) → ⊥) → P (nth ps q) → q < length ps
polygon-there ps q P n h = by_cases (dec_lt q (length ps)) (λ lt. lt) (λ ge. absurd (n (subst P (get_or-eq_default ps (one []) (omega arith)) h)))

pub edge_below : (ps : List Polygon) (q e : ℕ) → In e (edges_at ps q) → q < length ps
unfolding edges_at
edge_below ps q e i = polygon-there ps q (λ p. In e (all edges_of (rings_of p))) (edge_nil e) i

pub entry_below : (ps : List Polygon) (q v : ℕ) → In v (entries_from (nth ps q)) → q < length ps
entry_below ps q v i = polygon-there ps q (λ p. In v (entries_from p)) (entry_nil v) i

-- paths by one relation are paths by another
pub reach_by : {S : ℕ → Type 0} {R R' : ℕ → ℕ → Type 0} {p : ℕ} → ((a b : ℕ) → R a b → R' a b) → Reach S R p → Reach S R' p
reach_by g (start s) = start s
reach_by g (step r l) = step (reach_by g r) (g _ _ l)

-- what is not reached is one of the nodes
among : (r : ℕ → ℕ → Bool) (ns : List ℕ) (x q : ℕ) → In q (unreached r ns x) → In q ns
unfolding unreached
among r ns x q j = (keep_in (λ q. not (lists q (rounds r ns ns (x ∷ [])))) q ns j).0

-- 0B: the lowest polygon that cannot be reached from polygon 0 across shared edges
pub apart_is : (ps : List Polygon) → Is (Unreached ps) (not_reached ps)
unfolding not_reached
apart_is ps =
    let i = least_is (unreached (share_edge (λ e. true) ps) (polygons_of ps) 0) in
    record {
      found = λ x e. let m = i.found x e in record { holds = cut x m.holds; first = λ j u. m.first j (uncut j u) };
      missing = λ e x u. i.missing e x (uncut x u);
    }
  where
    there : (a b : ℕ) → Shares ps a b → In b (polygons_of ps) × (share_edge (λ e. true) ps a b ≡ true)
    there a b s = (below_polygon ps b (edge_below ps b s.by s.theirs), shares (λ e. true) ps a b s.by s.mine s.theirs refl)

    here : (a b : ℕ) → In b (polygons_of ps) × (share_edge (λ e. true) ps a b ≡ true) → Shares ps a b
    here a b s = let w = shared (λ e. true) ps a b s.1 in record { by = w.0; mine = w.1; theirs = w.2 }

    cut : (q : ℕ) → In q (unreached (share_edge (λ e. true) ps) (polygons_of ps) 0) → Unreached ps q
    cut q j =
        let n : In q (polygons_of ps) = some_kept q j in
        let z : In 0 (polygons_of ps) = below_polygon ps 0 (omega (arith, polygon_below ps q n)) in
        record { within = polygon_below ps q n; cut = λ t. (unreached-cut (share_edge (λ e. true) ps) (polygons_of ps) 0 q z j).1 (reach_by there t) }
      where
        some_kept : (q : ℕ) → In q (unreached (share_edge (λ e. true) ps) (polygons_of ps) 0) → In q (polygons_of ps)
        some_kept q j = among (share_edge (λ e. true) ps) (polygons_of ps) 0 q j

    uncut : (q : ℕ) → Unreached ps q → In q (unreached (share_edge (λ e. true) ps) (polygons_of ps) 0)
    uncut q u = cut-unreached (share_edge (λ e. true) ps) (polygons_of ps) 0 q (below_polygon ps q u.within) (λ t. u.cut (reach_by here t))

-- reaching is symmetric and transitive where its steps are symmetric
pub reach_trans : {S : ℕ → Type 0} {R : ℕ → ℕ → Type 0} {p q : ℕ} → Reach S R p → Reach (λ x. x ≡ p) R q → Reach S R q
reach_trans {S} {R} r (start e) = subst (λ (x : ℕ). Reach S R x) (sym e) r
reach_trans r (step t l) = step (reach_trans r t) l

pub reach_sym : {R : ℕ → ℕ → Type 0} (p q : ℕ) → ((a b : ℕ) → R a b → R b a) → Reach (λ x. x ≡ p) R q → Reach (λ x. x ≡ q) R p
reach_sym {R} p q f (start e) = start (sym e)
reach_sym {R} p q f (step {p = m} t l) = reach_trans (step (start refl) (f _ _ l)) (reach_sym p m f t)

pub around_even : (ps : List Polygon) (v p q : ℕ) → Around ps v p q → Around ps v q p
around_even ps v p q a = record { has_p = a.has_q; has_q = a.has_p; by = a.by; ends = a.ends; mine = a.theirs; theirs = a.mine }

-- what one ring has, all have
pub in_all : (f : List ℕ → List ℕ) (rs : List (List ℕ)) (p x : ℕ) → p < length rs → In x (f (get_or rs p [])) → In x (all f rs)
unfolding all
in_all f [] p x h i = absurd (not-suc-le-zero h)
in_all f (r ∷ rs) zero x h i = in_left x (f r) (all f rs) i
in_all f (r ∷ rs) (suc p) x h i = in_right x (f r) (all f rs) (in_all f rs p x (le_of_suc-le-suc h) i)

pub all_in : (f : List ℕ → List ℕ) (rs : List (List ℕ)) (x : ℕ) → In x (all f rs) → (p : ℕ) × (p < length rs) × In x (f (get_or rs p []))
unfolding all
all_in f [] x i = absurd i
all_in f (r ∷ rs) x i = ⊎_elim (λ (j : In x (f r)). (0, suc-le-suc zero-le, j)) (λ (j : In x (all f rs)). let w = all_in f rs x j in (suc w.0, suc-le-suc w.1, w.2)) (in_either x (f r) (all f rs) i)

-- what one polygon has, all have
pub all_both : (f : List ℕ → List ℕ) (rs ss : List (List ℕ)) → all f (rs ++ ss) ≡ all f rs ++ all f ss
unfolding all
all_both f [] ss = refl
all_both f (r ∷ rs) ss = ap (λ (l : List ℕ). f r ++ l) (all_both f rs ss) ∙ sym (append_assoc (f r) (all f rs) (all f ss))

pub in_polygons : (f : List ℕ → List ℕ) (ps : List Polygon) (p x : ℕ) → p < length ps → In x (all f (rings_of (nth ps p))) → In x (all f (all_rings ps))
unfolding all_rings
in_polygons f [] p x h i = absurd (not-suc-le-zero h)
in_polygons f (q ∷ ps) zero x h i = subst (In x) (sym (all_both f (rings_of q) (all_rings ps))) (in_left x (all f (rings_of q)) (all f (all_rings ps)) i)
in_polygons f (q ∷ ps) (suc p) x h i = subst (In x) (sym (all_both f (rings_of q) (all_rings ps))) (in_right x (all f (rings_of q)) (all f (all_rings ps)) (in_polygons f ps p x (le_of_suc-le-suc h) i))

pub polygons_in : (f : List ℕ → List ℕ) (ps : List Polygon) (x : ℕ) → In x (all f (all_rings ps)) → (p : ℕ) × (p < length ps) × In x (all f (rings_of (nth ps p)))
unfolding all_rings all
polygons_in f [] x i = absurd i
polygons_in f (q ∷ ps) x i = ⊎_elim (λ (j : In x (all f (rings_of q))). (0, suc-le-suc zero-le, j)) (λ (j : In x (all f (all_rings ps))). let w = polygons_in f ps x j in (suc w.0, suc-le-suc w.1, w.2)) (in_either x (all f (rings_of q)) (all f (all_rings ps)) (subst (In x) (all_both f (rings_of q) (all_rings ps)) i))

-- the polygons at a point
pub polygon_at : (ps : List Polygon) (v q : ℕ) → In q (polygons_at ps v) → In v (entries_from (nth ps q))
unfolding polygons_at lists
polygon_at ps v q i =
    let a = keep_in (λ p. any (eqb v) (entries_from (nth ps p))) q (polygons_of ps) i in
    let b = any_in (eqb v) (entries_from (nth ps q)) a.1 in
    subst (λ (z : ℕ). In z (entries_from (nth ps q))) (sym (eqb-true v b.0 b.2)) b.1

pub at-polygon : (ps : List Polygon) (v q : ℕ) → In v (entries_from (nth ps q)) → In q (polygons_at ps v)
unfolding polygons_at lists
at-polygon ps v q i = in_keep (λ p. any (eqb v) (entries_from (nth ps p))) q (polygons_of ps) (below_polygon ps q (entry_below ps q v i)) (in_any (eqb v) v (entries_from (nth ps q)) i (eq-eqb v v refl))

-- the test of an edge's end
ends_yes : (v e : ℕ) → Ends v e → ends_at v e ≡ true
unfolding ends_at
ends_yes v e h = or_yes (eqb (smaller e) v) (eqb (larger e) v) (⊎_elim (λ (a : smaller e ≡ v). inl (eq-eqb (smaller e) v a)) (λ (a : larger e ≡ v). inr (eq-eqb (larger e) v a)) h)

ends_of : (v e : ℕ) → ends_at v e ≡ true → Ends v e
unfolding ends_at
ends_of v e h = ⊎_elim (λ (a : eqb (smaller e) v ≡ true). inl (eqb-true (smaller e) v a)) (λ (a : eqb (larger e) v ≡ true). inr (eqb-true (larger e) v a)) (or_cases (eqb (smaller e) v) (eqb (larger e) v) h)

module _ (ps : List Polygon) (v : ℕ) where
  -- the steps among the polygons at v, as the definition takes them
  abbrev Stepped : ℕ → ℕ → Type 0
  Stepped a b = In b (polygons_at ps v) × (share_edge (ends_at v) ps a b ≡ true)

  stepped : (a b : ℕ) → Around ps v a b → Stepped a b
  stepped a b s = (at-polygon ps v b s.has_q, shares (ends_at v) ps a b s.by s.mine s.theirs (ends_yes v s.by s.ends))

  -- each polygon on the way is one at v
  around : (p q : ℕ) → In p (polygons_at ps v) → Reach (λ x. x ≡ p) Stepped q → In q (polygons_at ps v) × Reach (λ x. x ≡ p) (Around ps v) q
  around p q i (start e) = (subst (λ (x : ℕ). In x (polygons_at ps v)) (sym e) i, start e)
  around p q i (step {p = m} t l) =
      let a = around p m i t in
      let w = shared (ends_at v) ps m q l.1 in
      (l.0, step a.1 (record { has_p = polygon_at ps v m a.0; has_q = polygon_at ps v q l.0; by = w.0; ends = ends_of v w.0 w.3; mine = w.1; theirs = w.2 }))

  some_one : (l : List ℕ) → 0 < length l → (x : ℕ) × In x l
  some_one [] h = absurd (not-suc-le-zero h)
  some_one (x ∷ l) h = (x, inl refl)

  no_one : (l : List ℕ) (x : ℕ) → length l ≤ 0 → In x l → ⊥
  no_one [] x h i = i
  no_one (y ∷ l) x h i = not-suc-le-zero h

  pinched_of : (ns : List ℕ) → polygons_at ps v ≡ ns → unlinked_at ps v ns ≡ true → Pinched ps v
  unfolding unlinked_at
  pinched_of [] e h = absurd (true≢false (sym h))
  pinched_of (p ∷ ns) e h =
      let u = some_one (unreached (share_edge (ends_at v) ps) (p ∷ ns) p) (ltb-true 0 (length (unreached (share_edge (ends_at v) ps) (p ∷ ns) p)) h) in
      let j : In u.0 (unreached (share_edge (ends_at v) ps) (polygons_at ps v) p) = subst (λ (l : List ℕ). In u.0 (unreached (share_edge (ends_at v) ps) l p)) (sym e) u.1 in
      let i : In p (polygons_at ps v) = subst (λ (l : List ℕ). In p l) (sym e) (inl refl) in
      let c = unreached-cut (share_edge (ends_at v) ps) (polygons_at ps v) p u.0 i j in
      record { here = p; there = u.0; has_here = polygon_at ps v p i; has_there = polygon_at ps v u.0 c.0; apart = λ t. c.1 (reach_by stepped t) }

  of_pinched : (ns : List ℕ) → polygons_at ps v ≡ ns → Pinched ps v → unlinked_at ps v ns ≡ true
  unfolding unlinked_at
  of_pinched [] e c = absurd (subst (λ (l : List ℕ). In c.here l) e (at-polygon ps v c.here c.has_here))
  of_pinched (p ∷ ns) e c = by_cases (dec_lt 0 (length (unreached (share_edge (ends_at v) ps) (p ∷ ns) p))) (λ lt. lt-ltb 0 (length (unreached (share_edge (ends_at v) ps) (p ∷ ns) p)) lt) (λ ge. absurd (none ge))
    where
      i : In p (polygons_at ps v)
      i = subst (λ (l : List ℕ). In p l) (sym e) (inl refl)

      none : (0 < length (unreached (share_edge (ends_at v) ps) (p ∷ ns) p) → ⊥) → ⊥
      none ge =
          reached c.here c.has_here (λ a. reached c.there c.has_there (λ b. c.apart (reach_trans (reach_sym p c.here (around_even ps v) (around p c.here i a).1) (around p c.there i b).1)))
        where
          reached : (q : ℕ) → In v (entries_from (nth ps q)) → (Reach (λ x. x ≡ p) Stepped q → ⊥) → ⊥
          reached q h n =
              no_one (unreached (share_edge (ends_at v) ps) (p ∷ ns) p) q (omega arith) (subst (λ (l : List ℕ). In q (unreached (share_edge (ends_at v) ps) l p)) e (cut-unreached (share_edge (ends_at v) ps) (polygons_at ps v) p q (at-polygon ps v q h) n))

-- 0C: the lowest point with two polygons that are not linked across edges that end at it
pub unlinked_is : (ps : List Polygon) → Is (Pinched ps) (not_linked ps)
unfolding not_linked entries_from
unlinked_is ps =
    keep_is (λ v. unlinked_at ps v (polygons_at ps v)) (all (λ ring. ring) (all_rings ps)) (Pinched ps) (λ v i h. pinched_of ps v (polygons_at ps v) refl h) (λ v c. (in_polygons (λ ring. ring) ps c.here v (entry_below ps c.here v c.has_here) c.has_here, of_pinched ps v (polygons_at ps v) refl c))
