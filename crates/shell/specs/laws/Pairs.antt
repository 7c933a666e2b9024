-- Where each edge is used twice, the words of the table stand in pairs.
use Rattle.std.specs.Prelude.{ℕ, zero, suc, ◌+◌, ◌%◌, ◌≤◌, ◌<◌, ◌≡◌, refl, Bool, ◌≢◌, List, [], ◌∷◌, map, eqb, length, get_or}
use Rattle.std.proofs.Common.{suc-le-suc, le_of_suc-le-suc, not-suc-le-zero, arith, sym, ap, ◌∙◌, inl, inr, eq-eqb, ne_eqb, eqb-true}
use Rattle.std.proofs.Math.Decide.{ℕ_discrete}
use Rattle.std.proofs.Math.Logic.{by_cases}
use Rattle.whole.specs.Lists.{tally}
use Rattle.edges.specs.Edges.{count}
use Rattle.edges.specs.held.Ascending.{In}
use Rattle.words.specs.held.Words.{key_from}
use Rattle.edges.specs.laws.Tallies.{one, tally_nil, tally_cons, tally-map, one_yes, one_no, in_tally, tally_in, place_in}
use Rattle.edges.specs.held.Ascending.{Asc}

-- words two by two, each two of one edge, and each two of an edge above those before
pub data Pairs : List ℕ → Type 0 where
  empty : Pairs []
  pair : {w v : ℕ} {l : List ℕ} → key_from w ≡ key_from v → ((x : ℕ) → In x l → key_from w < key_from x) → Pairs l → Pairs (w ∷ v ∷ l)

-- whether a word is of the edge k
abbrev pub of_edge : ℕ → ℕ → Bool
of_edge k w = eqb k (key_from w)

pub tally_keys : (k : ℕ) (l : List ℕ) → count k (map key_from l) ≡ tally (of_edge k) l
unfolding count
tally_keys k l = tally-map (eqb k) key_from l

yes_of : (k w : ℕ) → key_from w ≡ k → one (of_edge k) w ≡ 1
yes_of k w e = one_yes (of_edge k) w (eq-eqb k (key_from w) (sym e))

no_of : (k w : ℕ) → key_from w ≢ k → one (of_edge k) w ≡ 0
no_of k w d = one_no (of_edge k) w (ne_eqb k (key_from w) (λ e. d (sym e)))

key_le : (x y : ℕ) → x ≤ y → key_from x ≤ key_from y
key_le x y h = omega arith

pub pairs : (l : List ℕ) → Asc l → ((x : ℕ) → In x l → tally (of_edge (key_from x)) l ≡ 2) → Pairs l
pairs [] a h = empty
pairs (w ∷ []) a h = absurd (alone (h w (inl refl)))
  where
    alone : tally (of_edge (key_from w)) (w ∷ []) ≡ 2 → ⊥
    alone e = omega (arith, tally_cons (of_edge (key_from w)) w [], yes_of (key_from w) w refl, tally_nil (of_edge (key_from w)))
pairs (w ∷ v ∷ l) a h = by_cases (ℕ_discrete (key_from v) (key_from w)) (λ e. together e (pairs l a.1.1)) (λ d. absurd (parted d))
  where
    two : (k : ℕ) → tally (of_edge k) (w ∷ v ∷ l) ≡ one (of_edge k) w + (one (of_edge k) v + tally (of_edge k) l)
    two k = tally_cons (of_edge k) w (v ∷ l) ∙ ap (λ (z : ℕ). one (of_edge k) w + z) (tally_cons (of_edge k) v l)

    parted : key_from v ≢ key_from w → ⊥
    parted d =
        let r = tally_in (of_edge (key_from w)) l (omega (arith, h w (inl refl), two (key_from w), yes_of (key_from w) w refl, no_of (key_from w) v d)) in
        let e : key_from w ≡ key_from r.0 = eqb-true (key_from w) (key_from r.0) r.2 in
        clash (key_from w) (key_from v) (key_from r.0) d e (key_le w v (a.0 v (inl refl))) (key_le v r.0 (a.1.0 r.0 r.1))
      where
        clash : (x y z : ℕ) → y ≢ x → x ≡ z → x ≤ y → y ≤ z → ⊥
        clash x y z d e p q = omega arith

    together : key_from v ≡ key_from w → (((x : ℕ) → In x l → tally (of_edge (key_from x)) l ≡ 2) → Pairs l) → Pairs (w ∷ v ∷ l)
    together e ih = pair (sym e) above (ih rest)
      where
        none_left : tally (of_edge (key_from w)) l ≡ 0
        none_left = omega (arith, h w (inl refl), two (key_from w), yes_of (key_from w) w refl, yes_of (key_from w) v e)

        apart : (x : ℕ) → In x l → key_from w ≢ key_from x
        apart x i q = bad (in_tally (of_edge (key_from w)) x l i (eq-eqb (key_from w) (key_from x) q))
          where
            bad : 1 ≤ tally (of_edge (key_from w)) l → ⊥
            bad b = omega (arith, none_left)

        above : (x : ℕ) → In x l → key_from w < key_from x
        above x i = less (key_from w) (key_from x) (apart x i) (key_le w x (a.0 x (inr i)))
          where
            less : (x y : ℕ) → x ≢ y → x ≤ y → x < y
            less x y d p = omega arith

        rest : (x : ℕ) → In x l → tally (of_edge (key_from x)) l ≡ 2
        rest x i = omega (arith, h x (inr (inr i)), two (key_from x), no_of (key_from x) w (apart x i), no_of (key_from x) v (λ q. apart x i (sym e ∙ q)))

one-odd : 1 % 2 ≡ 0 → ⊥
one-odd e = omega arith

even_before : (i : ℕ) → suc (suc i) % 2 ≡ 0 → i % 2 ≡ 0
even_before i e = omega arith

-- a word at an even place has a next one
pub pairs_next : {l : List ℕ} → Pairs l → (i : ℕ) → i % 2 ≡ 0 → i < length l → suc i < length l
pairs_next empty i e h = absurd (not-suc-le-zero h)
pairs_next (pair q a p) zero e h = omega arith
pairs_next (pair q a p) (suc zero) e h = absurd (one-odd e)
pairs_next (pair q a p) (suc (suc i)) e h = suc-le-suc (suc-le-suc (pairs_next p i (even_before i e) (le_of_suc-le-suc (le_of_suc-le-suc h))))

-- the two are of one edge
pub pairs_even : {l : List ℕ} → Pairs l → (i : ℕ) → i % 2 ≡ 0 → suc i < length l → key_from (get_or l i 0) ≡ key_from (get_or l (suc i) 0)
pairs_even empty i e h = absurd (not-suc-le-zero h)
pairs_even (pair q a p) zero e h = q
pairs_even (pair q a p) (suc zero) e h = absurd (one-odd e)
pairs_even (pair q a p) (suc (suc i)) e h = pairs_even p i (even_before i e) (le_of_suc-le-suc (le_of_suc-le-suc h))

-- two words of one edge are such two
pub pairs-same : {l : List ℕ} → Pairs l → (i j : ℕ) → i < j → j < length l → key_from (get_or l i 0) ≡ key_from (get_or l j 0) → (i % 2 ≡ 0) × (j ≡ suc i)
pairs-same empty i j h k e = absurd (not-suc-le-zero k)
pairs-same (pair q a p) zero zero h k e = absurd (not-suc-le-zero h)
pairs-same (pair q a p) zero (suc zero) h k e = (refl, refl)
pairs-same (pair {w = w} {v = v} {l = l} q a p) zero (suc (suc j)) h k e = absurd (above w (get_or l j 0) (a (get_or l j 0) (place_in l j (le_of_suc-le-suc (le_of_suc-le-suc k)))) e)
  where
    above : (x y : ℕ) → key_from x < key_from y → key_from x ≡ key_from y → ⊥
    above x y h e = omega arith
pairs-same (pair q a p) (suc zero) zero h k e = absurd (not-suc-le-zero h)
pairs-same (pair q a p) (suc zero) (suc zero) h k e = absurd (not-suc-le-zero (le_of_suc-le-suc h))
pairs-same (pair {w = w} {v = v} {l = l} q a p) (suc zero) (suc (suc j)) h k e = absurd (above w v (get_or l j 0) q (a (get_or l j 0) (place_in l j (le_of_suc-le-suc (le_of_suc-le-suc k)))) e)
  where
    above : (x z y : ℕ) → key_from x ≡ key_from z → key_from x < key_from y → key_from z ≡ key_from y → ⊥
    above x z y q h e = omega arith
pairs-same (pair q a p) (suc (suc i)) zero h k e = absurd (not-suc-le-zero h)
pairs-same (pair q a p) (suc (suc i)) (suc zero) h k e = absurd (not-suc-le-zero (le_of_suc-le-suc h))
pairs-same (pair q a p) (suc (suc i)) (suc (suc j)) h k e =
    let r = pairs-same p i j (le_of_suc-le-suc (le_of_suc-le-suc h)) (le_of_suc-le-suc (le_of_suc-le-suc k)) e in
    (even i r.0, ap (λ (z : ℕ). suc (suc z)) r.1)
  where
    even : (i : ℕ) → i % 2 ≡ 0 → suc (suc i) % 2 ≡ 0
    even i e = omega arith
