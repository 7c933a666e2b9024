-- Laws of the list of edges: what stands in it, in which order, and what it tells of an edge.
use Rattle.std.specs.Prelude.{ℕ, zero, suc, ◌+◌, ◌≤◌, ◌<◌, min, max, ◌≡◌, Bool, not, length, replicate}
use Rattle.std.proofs.Common.{arith, sym, ap₂, subst, ◌∙◌, true≢false, inl, inr, ⊎_elim, length-append}
use Rattle.std.proofs.Math.Path.{refl, ap}
use Rattle.std.proofs.Math.Bool.{true, false}
use mathlib.Core.List.{List, [], ◌∷◌, map}
use borrow.Author.Tests.{eqb-true, eqb-false, eq-eqb, ne_eqb}
use Rattle.std.proofs.Math.Arith.{lt_of_le-ne}
use Rattle.std.proofs.Math.Dec.{eqb}
use Rattle.std.proofs.lemmas.List.{length-replicate}
use Rattle.whole.specs.Lists.{keep, given, first}
use Rattle.ring.specs.Polygon.{Polygon, rings_of, all, all_rings}
use Rattle.edges.specs.Edges.{edge, smaller, larger, edges_of, count}
use Rattle.edges.specs.Order.{ascending}
use Rattle.edges.specs.held.Ascending.{In, Asc}
use Rattle.edges.specs.laws.EdgeLaws.{edge-sym, smaller-edge, larger-edge}
use Rattle.edges.specs.laws.Tallies.{tally_nil, tally_append, in_tally}
use Rattle.edges.specs.laws.Ascending.{asc_ascending, in_ascending, ascending_in}
use Rattle.shell.specs.laws.Closure.{keep_in, in_keep}
use Rattle.shell.specs.laws.Adequate.{uses, used, all_both}
use Rattle.users.specs.EdgeList.{users_from, users_at, Listed, listed, is_edge, once, edges_once, edge_list, looked_up, across}

-- "in either order"
pub either_order : (a b : ℕ) (ps : List Polygon) → across a b ps ≡ across b a ps
unfolding across
either_order a b ps = ap (λ (e : ℕ). looked_up e (edge_list ps)) (edge-sym a b)

-- ---- each number of a list in ascending order once

in_once : (x : ℕ) (l : List ℕ) → In x l → In x (once l)
unfolding once
in_once x [] i = i
in_once x (y ∷ []) i = i
in_once x (y ∷ z ∷ l) i = go (eqb y z) refl i (in_once x (z ∷ l))
  where
    go : (b : Bool) → eqb y z ≡ b → In x (y ∷ z ∷ l) → (In x (z ∷ l) → In x (once (z ∷ l))) → In x (once (y ∷ z ∷ l))
    go true e (inl q) ih = rw (e, once) (ih (inl (q ∙ eqb-true y z e)))
    go true e (inr j) ih = rw (e, once) (ih j)
    go false e (inl q) ih = rw (e, once) (inl q)
    go false e (inr j) ih = rw (e, once) (inr (ih j))

once_in : (x : ℕ) (l : List ℕ) → In x (once l) → In x l
unfolding once
once_in x [] i = i
once_in x (y ∷ []) i = i
once_in x (y ∷ z ∷ l) i = go (eqb y z) refl i (once_in x (z ∷ l))
  where
    go : (b : Bool) → eqb y z ≡ b → In x (once (y ∷ z ∷ l)) → (In x (once (z ∷ l)) → In x (z ∷ l)) → In x (y ∷ z ∷ l)
    go true e i ih = inr (ih (rw (e, once) at i))
    go false e i ih = ⊎_elim (λ (q : x ≡ y). inl q) (λ (j : In x (once (z ∷ l))). inr (ih j)) (rw (e, once) at i)

-- each number is below each after it
abbrev pub Strict : List ℕ → Type 0
Strict [] = Unit {0}
Strict (x ∷ l) = ((y : ℕ) → In y l → x < y) × Strict l

once_strict : (l : List ℕ) → Asc l → Strict (once l)
unfolding once
once_strict [] a = tt
once_strict (x ∷ []) a = ((λ y i. absurd i), tt)
once_strict (x ∷ y ∷ l) a = go (eqb x y) refl (once_strict (y ∷ l) a.1)
  where
    above : (x ≡ y → ⊥) → (z : ℕ) → In z (y ∷ l) → x < z
    above n z (inl q) = let h : x ≤ y = a.0 y (inl refl) in lt_of_le-ne (subst (λ (k : ℕ). x ≤ k) (sym q) h) (λ e. n (e ∙ q))
    above n z (inr j) = let h : x ≤ y = a.0 y (inl refl) in let g : y ≤ z = a.1.0 z j in let k : x < y = lt_of_le-ne h n in omega arith

    go : (b : Bool) → eqb x y ≡ b → Strict (once (y ∷ l)) → Strict (once (x ∷ y ∷ l))
    go true e ih = rw (e, once) ih
    go false e ih = rw (e, once) ((λ z i. above (eqb-false x y e) z (once_in z (y ∷ l) i)), ih)

-- ---- what stands in the list: each edge that a ring uses, but no step from a number to itself

pub ascending_list : (ps : List Polygon) → Strict (edges_once ps)
unfolding edges_once
ascending_list ps = once_strict (ascending (keep is_edge (all edges_of (all_rings ps)))) (asc_ascending (keep is_edge (all edges_of (all_rings ps))))

pub list_has : (e : ℕ) (ps : List Polygon) → In e (all edges_of (all_rings ps)) → is_edge e ≡ true → In e (edges_once ps)
unfolding edges_once
list_has e ps i t =
    in_once e (ascending (keep is_edge (all edges_of (all_rings ps)))) (ascending_in (keep is_edge (all edges_of (all_rings ps))) e (in_keep is_edge e (all edges_of (all_rings ps)) i t))

pub has_list : (e : ℕ) (ps : List Polygon) → In e (edges_once ps) → In e (all edges_of (all_rings ps)) × (is_edge e ≡ true)
unfolding edges_once
has_list e ps i =
    keep_in is_edge e (all edges_of (all_rings ps)) (in_ascending (keep is_edge (all edges_of (all_rings ps))) e (once_in e (ascending (keep is_edge (all edges_of (all_rings ps)))) i))

-- "a step from a number to itself is no edge"
pub no_self : (e : ℕ) (ps : List Polygon) → In e (edges_once ps) → smaller e ≡ larger e → ⊥
unfolding is_edge
no_self e ps i q = true≢false (sym (has_list e ps i).1 ∙ ap not (eq-eqb (smaller e) (larger e) q))

-- the edge between two different points is an edge
pub is_edge_lem : (a b : ℕ) → a < 65536 → b < 65536 → (a ≡ b → ⊥) → is_edge (edge a b) ≡ true
unfolding is_edge
is_edge_lem a b h g n = ap not (ap₂ eqb (smaller-edge a b h g) (larger-edge a b h g) ∙ ne_eqb (min a b) (max a b) (λ e. n (same e)))
  where
    same : min a b ≡ max a b → a ≡ b
    same e = omega arith

-- ---- an edge has as many users as uses

users_number : (e n : ℕ) (ps : List Polygon) → length (users_from e n ps) ≡ uses (all_rings ps) e
unfolding users_from uses all_rings all count
users_number e n [] = sym (tally_nil (eqb e))
users_number e n (p ∷ ps) =
    length-append (replicate (count e (all edges_of (rings_of p))) n) (users_from e (suc n) ps)
    ∙ ap₂ (λ (x y : ℕ). x + y) (length-replicate (count e (all edges_of (rings_of p))) n) (users_number e (suc n) ps)
    ∙ sym (ap (λ (l : List ℕ). count e l) (all_both edges_of (rings_of p) (all_rings ps)) ∙ tally_append (eqb e) (all edges_of (rings_of p)) (all edges_of (all_rings ps)))

pub users_uses : (e : ℕ) (ps : List Polygon) → length (users_at e ps) ≡ uses (all_rings ps) e
unfolding users_at
users_uses e ps = users_number e 0 ps

pub some_use : (e : ℕ) (ps : List Polygon) → In e (all edges_of (all_rings ps)) → 1 ≤ uses (all_rings ps) e
unfolding uses count
some_use e ps i = in_tally (eqb e) e (all edges_of (all_rings ps)) i (eq-eqb e e refl)

-- ---- looking an edge up

numbered_so : (ps : List Polygon) (x : ℕ) → (listed x (users_at x ps)).number ≡ x
unfolding listed
numbered_so ps x = refl

module _ (f : ℕ → Listed) (numbered : (x : ℕ) → (f x).number ≡ x) (e : ℕ) (d : Listed) where
  found : (l : List ℕ) → In e l → first d (map (λ x. given (eqb e x.number) x) (map f l)) ≡ f e
  unfolding first given
  found [] i = absurd i
  found (x ∷ l) i = go (eqb e x) refl i (found l)
    where
      go : (b : Bool) → eqb e x ≡ b → In e (x ∷ l) → (In e l → first d (map (λ y. given (eqb e y.number) y) (map f l)) ≡ f e) → first d (map (λ y. given (eqb e y.number) y) (map f (x ∷ l))) ≡ f e
      go true q i ih = let k : eqb e (f x).number ≡ true = ap (eqb e) (numbered x) ∙ q in rw (k, first, given) (ap f (sym (eqb-true e x q)))
      go false q (inl z) ih = absurd (eqb-false e x q z)
      go false q (inr j) ih = let k : eqb e (f x).number ≡ false = ap (eqb e) (numbered x) ∙ q in rw (k, first, given) (ih j)

  missing : (l : List ℕ) → (In e l → ⊥) → first d (map (λ x. given (eqb e x.number) x) (map f l)) ≡ d
  unfolding first given
  missing [] n = refl
  missing (x ∷ l) n =
      let k : eqb e (f x).number ≡ false = ne_eqb e (f x).number (λ z. n (inl (z ∙ numbered x))) in
      let ih : first d (map (λ y. given (eqb e y.number) y) (map f l)) ≡ d = missing l (λ j. n (inr j)) in
      rw (k, first, given) ih

empty : (l : List ℕ) → length l ≡ 0 → l ≡ []
empty [] h = refl
empty (x ∷ l) h = absurd (omega arith)

-- the list tells the users of an edge, none where no ring has it
pub told_users : (e : ℕ) (ps : List Polygon) → is_edge e ≡ true → looked_up e (edge_list ps) ≡ listed e (users_at e ps)
unfolding looked_up edge_list
told_users e ps is = go (uses (all_rings ps) e) refl
  where
    go : (n : ℕ) → uses (all_rings ps) e ≡ n → looked_up e (edge_list ps) ≡ listed e (users_at e ps)
    go zero q =
        missing (λ x. listed x (users_at x ps)) (numbered_so ps) e (listed e []) (edges_once ps) (λ i. unused (some_use e ps (has_list e ps i).0))
        ∙ ap (listed e) (sym (empty (users_at e ps) (users_uses e ps ∙ q)))
      where
        unused : 1 ≤ uses (all_rings ps) e → ⊥
        unused h = omega arith
    go (suc n) q =
        found (λ x. listed x (users_at x ps)) (numbered_so ps) e (listed e []) (edges_once ps) (list_has e ps (used (all_rings ps) e (omega arith)) is)

-- "Frame 0C asks for two point numbers in either order and answers .. users .., first user .., second user"
pub across_is : (a b : ℕ) (ps : List Polygon) → a < 65536 → b < 65536 → (a ≡ b → ⊥) → across a b ps ≡ listed (edge a b) (users_at (edge a b) ps)
unfolding across
across_is a b ps h g n = told_users (edge a b) ps (is_edge_lem a b h g n)
