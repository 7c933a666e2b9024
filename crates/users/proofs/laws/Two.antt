-- In an accepted building each edge has exactly two users, and they differ.
use Prim.Native.Nat.{ℕ, zero, suc, ◌+◌, ◌-◌, ◌≤◌, ◌<◌, min, max}
use Rattle.std.proofs.Math.Decide.{ℕ_discrete, dec_lt}
use Rattle.std.proofs.Common.{le_of_suc-le-suc, not-suc-le-zero, arith, sym, subst, ◌∙◌, inl, inr, ⊎_elim, eqb-true}
use Rattle.std.specs.Prelude.{◌≡◌, refl, ◌⊎◌, List, [], ◌∷◌, ◌++◌, map, eqb, length, get_or, replicate}
use Rattle.std.proofs.Math.Path.{ap}
use Rattle.std.proofs.Math.Logic.{by_cases}
use Rattle.std.proofs.Math.Option.{none}
use Rattle.std.proofs.Math.ListN.{length-map}
use Rattle.whole.specs.Lists.{steps}
use Rattle.whole.specs.All.{All}
use Rattle.whole.specs.All as A
use Rattle.whole.specs.laws.Places.{steps-length, steps-at, map_at}
use Rattle.ring.specs.Polygon.{Polygon, rings_of, all, all_rings}
use Rattle.edges.specs.Edges.{edge, smaller, larger, edges_of, count, used_once, used_often}
use Rattle.edges.specs.held.Ascending.{In}
use Rattle.edges.specs.laws.EdgeLaws.{smaller-edge, larger-edge}
use Rattle.edges.specs.laws.Tallies.{tally_nil, tally_append, tally_in, in_place, place_in, in_either}
use Rattle.shell.specs.held.Kept.{Sound}
use Rattle.shell.specs.laws.Adequate.{uses, once_is, often_is, all_in}
use Rattle.shell.specs.laws.Keys.{count_yes, count_no}
use Rattle.users.specs.EdgeList.{users_from, users_at, Listed, listed, edges_once, edge_list}
use Rattle.users.proofs.laws.Listing.{Strict, has_list, some_use, users_uses}
use Rattle.users.proofs.laws.Words.{in_replicate, users_above}

-- numbers of points, of which an edge has room for two
abbrev pub Numbers : List ℕ → Type 0
Numbers ring = All (λ (v : ℕ). v < 65536) ring

-- ---- a sound ring uses no edge twice

number_at : {l : List ℕ} → Numbers l → (i : ℕ) → get_or l i 0 < 65536
number_at A.none i = omega arith
number_at (A.more h a) zero = h
number_at (A.more h a) (suc i) = number_at a i

-- an edge tells its two ends
ends : (a b c d : ℕ) → a < 65536 → b < 65536 → c < 65536 → d < 65536 → edge a b ≡ edge c d → ((a ≡ c) × (b ≡ d)) ⊎ ((a ≡ d) × (b ≡ c))
ends a b c d ha hb hc hd e =
    go (sym (smaller-edge a b ha hb) ∙ ap smaller e ∙ smaller-edge c d hc hd) (sym (larger-edge a b ha hb) ∙ ap larger e ∙ larger-edge c d hc hd)
  where
    go : min a b ≡ min c d → max a b ≡ max c d → ((a ≡ c) × (b ≡ d)) ⊎ ((a ≡ d) × (b ≡ c))
    go p q = by_cases (ℕ_discrete a c) (λ z. inl (z, omega arith)) (λ z. inr (omega arith, omega arith))

module _ (ring : List ℕ) (s : Sound ring) (v : Numbers ring) where
  abbrev at : ℕ → ℕ
  at i = get_or ring i 0

  -- two steps the same way would share their starts, two steps one way and back again a start and an end
  steps_apart : (i j : ℕ) → i < j → j + 1 < length ring → edge (at i) (at (i + 1)) ≡ edge (at j) (at (j + 1)) → ⊥
  steps_apart i j lt h e =
      ⊎_elim
      (λ (q : (at i ≡ at j) × (at (i + 1) ≡ at (j + 1))). s.once i j lt h q.0)
      (λ (q : (at i ≡ at (j + 1)) × (at (i + 1) ≡ at j)). back q.0 q.1)
      (ends (at i) (at (i + 1)) (at j) (at (j + 1)) (number_at v i) (number_at v (i + 1)) (number_at v j) (number_at v (j + 1)) e)
    where
      -- the step after i leads back to where i starts
      next : i + 1 ≡ j → at i ≡ at (j + 1) → ⊥
      next z p =
          by_cases (dec_lt (j + 2) (length ring)) (λ l. s.once i (j + 1) (omega arith) (omega arith) p)
          (λ g. s.once 0 i (omega (arith, s.long)) (omega arith) (sym s.closed ∙ ap at (last g) ∙ sym p))
        where
          last : (j + 2 < length ring → ⊥) → length ring - 1 ≡ j + 1
          last g = omega arith

      back : at i ≡ at (j + 1) → at (i + 1) ≡ at j → ⊥
      back p q = by_cases (dec_lt (i + 1) j) (λ l. s.once (i + 1) j l h q) (λ g. next (omega arith) p)

  edge_at : (i : ℕ) → i + 1 < length ring → get_or (edges_of ring) i 0 ≡ edge (at i) (at (i + 1))
  unfolding edges_of
  edge_at i h =
      map_at (λ p. edge p.0 p.1) (steps ring) i (0, 0) 0 (omega (arith, steps-length ring))
      ∙ ap (λ (p : ℕ × ℕ). edge p.0 p.1) (steps-at ring i (0, 0) 0 h)

  edges-length : length (edges_of ring) ≡ length ring - 1
  unfolding edges_of
  edges-length = length-map (steps ring) (λ p. edge p.0 p.1) ∙ steps-length ring

-- numbers that all differ stand once each
alone : (e : ℕ) (l : List ℕ) → ((i j : ℕ) → i < j → j < length l → get_or l i 0 ≡ get_or l j 0 → ⊥) → count e l ≤ 1
unfolding count
alone e [] h = omega (arith, tally_nil (eqb e))
alone e (x ∷ l) h =
    by_cases (ℕ_discrete x e) (λ z. omega (arith, count_yes e x l z, none_left z)) (λ d. omega (arith, count_no e x l d, alone e l (λ i j a b. h (suc i) (suc j) (omega arith) (omega arith))))
  where
    again : x ≡ e → 1 ≤ count e l → ⊥
    again z c =
        let r = tally_in (eqb e) l c in
        let p = in_place r.0 l r.1 in
        h 0 (suc p.0) (omega arith) (omega (arith, p.1)) (z ∙ eqb-true e r.0 r.2 ∙ sym p.2)

    none_left : x ≡ e → count e l ≤ 0
    none_left z = by_cases (dec_lt 0 (count e l)) (λ c. absurd (again z c)) (λ c. omega arith)

pub used_alone : (ring : List ℕ) → Sound ring → Numbers ring → (e : ℕ) → count e (edges_of ring) ≤ 1
used_alone ring s v e =
    alone e (edges_of ring)
    (λ i j a b q. let h : j + 1 < length ring = omega (arith, edges-length ring s v) in
    steps_apart ring s v i j a h (sym (edge_at ring s v i (omega arith)) ∙ q ∙ edge_at ring s v j h))

-- the smaller number of an edge that a ring uses is one that it lists
edge_end : (ring : List ℕ) → Sound ring → Numbers ring → (e : ℕ) → In e (edges_of ring) → In (smaller e) ring
edge_end ring s v e i =
    let p = in_place e (edges_of ring) i in
    let h : p.0 + 1 < length ring = omega (arith, p.1, edges-length ring s v) in
    let q : e ≡ edge (get_or ring p.0 0) (get_or ring (p.0 + 1) 0) = sym p.2 ∙ edge_at ring s v p.0 h in
    subst (λ (x : ℕ). In x ring) (sym (ap smaller q ∙ smaller-edge (get_or ring p.0 0) (get_or ring (p.0 + 1) 0) (number_at v p.0) (number_at v (p.0 + 1)))) (least (get_or ring p.0 0) (get_or ring (p.0 + 1) 0) (place_in ring p.0 (omega arith)) (place_in ring (p.0 + 1) h))
  where
    least : (a b : ℕ) → In a ring → In b ring → In (min a b) ring
    least a b i j = by_cases (dec_lt b a) (λ lt. subst (λ (x : ℕ). In x ring) (right lt) j) (λ ge. subst (λ (x : ℕ). In x ring) (left ge) i)
      where
        right : b < a → b ≡ min a b
        right lt = omega arith

        left : (b < a → ⊥) → a ≡ min a b
        left ge = omega arith

-- ---- a polygon uses no edge twice

-- rings of which no two list one number
abbrev pub Separate : List (List ℕ) → Type 0
Separate [] = Unit {0}
Separate (r ∷ rs) = All (λ (s : List ℕ). (v : ℕ) → In v r → In v s → ⊥) rs × Separate rs

-- a polygon whose rings pass checks 01 to 03, and no two of which list one number
pub record Sole (p : Polygon) : Type 0 where
  pub sound : All Sound (rings_of p)
  pub numbers : All Numbers (rings_of p)
  pub separate : Separate (rings_of p)

all-at : {P : List ℕ → Type 0} {rs : List (List ℕ)} → All P rs → (i : ℕ) → i < length rs → P (get_or rs i [])
all-at A.none i h = absurd (not-suc-le-zero h)
all-at (A.more x a) zero h = x
all-at (A.more x a) (suc i) h = all-at a i (le_of_suc-le-suc h)

rings_alone : (e : ℕ) {rs : List (List ℕ)} → All Sound rs → All Numbers rs → Separate rs → count e (all edges_of rs) ≤ 1
unfolding all count
rings_alone e A.none A.none x = omega (arith, tally_nil (eqb e))
rings_alone e (A.more {x = r} {l = rs} s ss) (A.more v vs) x =
    let here : count e (edges_of r) ≤ 1 = used_alone r s v e in
    let there : count e (all edges_of rs) ≤ 1 = rings_alone e ss vs x.1 in
    let sum : count e (edges_of r ++ all edges_of rs) ≡ count e (edges_of r) + count e (all edges_of rs) = tally_append (eqb e) (edges_of r) (all edges_of rs) in
    by_cases (dec_lt 0 (count e (edges_of r))) (λ a. by_cases (dec_lt 0 (count e (all edges_of rs))) (λ b. absurd (both a b)) (λ b. omega arith)) (λ a. omega arith)
  where
    uses-it : (l : List ℕ) → 0 < count e l → In e l
    uses-it l c = let t = tally_in (eqb e) l c in subst (λ (y : ℕ). In y l) (sym (eqb-true e t.0 t.2)) t.1

    both : 0 < count e (edges_of r) → 0 < count e (all edges_of rs) → ⊥
    both a b =
        let w = all_in edges_of rs e (uses-it (all edges_of rs) b) in
        all-at x.0 w.0 w.1 (smaller e) (edge_end r s v e (uses-it (edges_of r) a)) (edge_end (get_or rs w.0 []) (all-at ss w.0 w.1) (all-at vs w.0 w.1) e w.2)

pub polygon_alone : (p : Polygon) → Sole p → (e : ℕ) → count e (all edges_of (rings_of p)) ≤ 1
polygon_alone p s e = rings_alone e s.sound s.numbers s.separate

-- ---- so each of its users is another

strict_front : (p k : ℕ) (l : List ℕ) → k ≤ 1 → ((y : ℕ) → In y l → p < y) → Strict l → Strict (replicate k p ++ l)
strict_front p zero l h g s = s
strict_front p (suc zero) l h g s = (g, s)
strict_front p (suc (suc k)) l h g s = absurd (bad h)
  where
    bad : suc (suc k) ≤ 1 → ⊥
    bad h = omega arith

users_strict : (e n : ℕ) {ps : List Polygon} → All Sole ps → Strict (users_from e n ps)
unfolding users_from
users_strict e n A.none = tt
users_strict e n (A.more {x = p} {l = ps} s a) = strict_front n (count e (all edges_of (rings_of p))) (users_from e (suc n) ps) (polygon_alone p s e) (users_above e (suc n) ps) (users_strict e (suc n) a)

users_below : (e n : ℕ) (ps : List Polygon) (y : ℕ) → In y (users_from e n ps) → y < n + length ps
unfolding users_from
users_below e n [] y i = absurd i
users_below e n (p ∷ ps) y i =
    ⊎_elim
    (λ (j : In y (replicate (count e (all edges_of (rings_of p))) n)). omega (arith, in_replicate n (count e (all edges_of (rings_of p))) y j))
    (λ (j : In y (users_from e (suc n) ps)). omega (arith, users_below e (suc n) ps y j))
    (in_either y (replicate (count e (all edges_of (rings_of p))) n) (users_from e (suc n) ps) i)

strict_two : (l : List ℕ) (d : ℕ) → Strict l → length l ≡ 2 → (get_or l 0 d < get_or l 1 d) × In (get_or l 1 d) l
strict_two [] d s h = absurd (omega arith)
strict_two (x ∷ []) d s h = absurd (omega arith)
strict_two (x ∷ y ∷ l) d s h = (s.0 y (inl refl), inr (inl refl))

-- ---- the law

-- an edge of n polygons has two users, the second is another than the lowest, and both are among them
abbrev pub TwoUsers : ℕ → Listed → Type 0
TwoUsers n x = (x.users ≡ 2) × (x.lowest < x.second) × (x.second < n)

all_listed : {P : Listed → Type 0} (f : ℕ → Listed) (l : List ℕ) → ((e : ℕ) → In e l → P (f e)) → All P (map f l)
all_listed f [] h = A.none
all_listed f (e ∷ l) h = A.more (h e (inl refl)) (all_listed f l (λ x i. h x (inr i)))

told-two : (e : ℕ) (ps : List Polygon) → All Sole ps → length (users_at e ps) ≡ 2 → TwoUsers (length ps) (listed e (users_at e ps))
unfolding users_at listed
told-two e ps a h =
    let r = strict_two (users_from e 0 ps) 65535 (users_strict e 0 a) h in
    (h, r.0, omega (arith, users_below e 0 ps (get_or (users_from e 0 ps) 1 65535) r.1))

-- where every ring passes checks 01 to 03, no two of a polygon list one number, and no edge is used once and none more than twice
pub two_users : (ps : List Polygon) → All Sole ps → used_once (all_rings ps) ≡ none → used_often (all_rings ps) ≡ none → All (TwoUsers (length ps)) (edge_list ps)
unfolding edge_list
two_users ps s once often = all_listed (λ e. listed e (users_at e ps)) (edges_once ps) (λ e i. told-two e ps s (users_uses e ps ∙ both e i))
  where
    exactly : (k : ℕ) → 1 ≤ k → (k ≡ 1 → ⊥) → (2 < k → ⊥) → k ≡ 2
    exactly k h x y = omega arith

    both : (e : ℕ) → In e (edges_once ps) → uses (all_rings ps) e ≡ 2
    both e i = exactly (uses (all_rings ps) e) (some_use e ps (has_list e ps i).0) ((once_is (all_rings ps)).missing once e) ((often_is (all_rings ps)).missing often e)
