-- Laws of edges: the order of their numbers, and what turning leaves.
use Rattle.std.specs.Prelude.{ℕ, ◌+◌, ◌*◌, ◌≤◌, ◌<◌, min, max, ◌≡◌, refl, List, [], ◌∷◌, map, reverse, eqb}
use Rattle.std.proofs.Common.{arith, ap, ap₂, ◌∙◌}
use Rattle.whole.specs.Lists.{steps, tally}
use Rattle.whole.specs.laws.Reverse.{back, steps-reverse, map_reverse_aux}
use Rattle.edges.specs.Edges.{way, edge, smaller, larger, edges_of, count}
use Rattle.edges.specs.laws.Tallies.{tally-reverse}

-- "the one with least a, then least b" is the one with the least number
pub order_of-edges : (a b c d : ℕ) → b < 65536 → d < 65536 → way a b ≤ way c d → (a ≡ c → b ≤ d) × (a ≤ c)
unfolding way
order_of-edges a b c d h g e = (λ z. omega arith, omega arith)

pub edges_of_order : (a b c d : ℕ) → b < 65536 → d < 65536 → a ≤ c → (a ≡ c → b ≤ d) → way a b ≤ way c d
unfolding way
edges_of_order a b c d h g e f = go (dec_eq a c)
  where
    dec_eq : (a c : ℕ) → Dec (a ≡ c)
    dec_eq = native.Mathlib.Decide.ℕ_discrete

    go : Dec (a ≡ c) → a * 65536 + b ≤ c * 65536 + d
    go (yes z) = let k : b ≤ d = f z in omega arith
    go (no z) = omega arith

pub smaller-edge : (a b : ℕ) → a < 65536 → b < 65536 → smaller (edge a b) ≡ min a b
unfolding smaller edge way
smaller-edge a b h g = omega arith

pub larger-edge : (a b : ℕ) → a < 65536 → b < 65536 → larger (edge a b) ≡ max a b
unfolding larger edge way
larger-edge a b h g = omega arith

pub edge-sym : (a b : ℕ) → edge a b ≡ edge b a
unfolding edge way
edge-sym a b =
    let p : min a b ≡ min b a = omega arith in
    let q : max a b ≡ max b a = omega arith in
    rw (p, q)

-- a turned ring uses the same edges as often
map_back : (l : List (ℕ × ℕ)) → map (λ s. edge s.0 s.1) (map back l) ≡ map (λ s. edge s.0 s.1) l
map_back [] = refl
map_back (s ∷ l) = ap₂ (λ (e : ℕ) (m : List ℕ). e ∷ m) (edge-sym s.1 s.0) (map_back l)

pub edges-turned : (ring : List ℕ) → edges_of (reverse ring) ≡ reverse (edges_of ring)
unfolding edges_of
edges-turned ring =
    ap (map (λ s. edge s.0 s.1)) (steps-reverse ring)
    ∙ map_reverse_aux (λ s. edge s.0 s.1) (map back (steps ring)) []
    ∙ ap reverse (map_back (steps ring))

pub count-turned : (e : ℕ) (ring : List ℕ) → count e (edges_of (reverse ring)) ≡ count e (edges_of ring)
unfolding count
count-turned e ring = ap (tally (eqb e)) (edges-turned ring) ∙ tally-reverse (eqb e) (edges_of ring)
