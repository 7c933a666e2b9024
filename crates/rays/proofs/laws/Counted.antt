-- What a pass over a ring goes by: the parity of the edges that are done, with that of those left, is that of the whole.
use Rattle.std.specs.Prelude.{ℕ, ◌+◌, ◌-◌, ◌≤◌, ◌<◌, ◌≡◌, Bool, false, not, get_or, drop}
use Rattle.std.proofs.Common.{arith, ◌∙◌, subst}
use Rattle.std.proofs.Math.Path.{refl, sym, ap}
use Rattle.std.specs.Bool.{beq}
use mathlib.Core.List.{List, map}
use Rattle.std.proofs.Math.ListN.{length}
use Rattle.std.proofs.lemmas.List.{length-map}
use Rattle.whole.specs.Lists.{tally, steps}
use Rattle.whole.specs.laws.Places.{steps-at, steps-length, map_at}
use Rattle.whole.specs.laws.Search.{drop-next, drop_end}
use Rattle.plane.specs.Plane.{Spot, Segment}
use Rattle.rays.specs.Inside.{crosses, is_odd, inside}
use Rattle.rays.specs.laws.Flags.{xor, xor-none, xor_assoc, beq-xor}
use Rattle.rays.proofs.laws.Parity.{odd_more}

-- ---- the edges between the places of a ring's entries
module _ (at : ℕ → Spot) (ring : List ℕ) where
  pub edges-length : length (steps (map at ring)) ≡ length ring - 1
  edges-length = steps-length (map at ring) ∙ ap (λ (n : ℕ). n - 1) (length-map ring at)

  pub edges_at : (i : ℕ) (d : Segment) → i + 1 < length ring → get_or (steps (map at ring)) i d ≡ (at (get_or ring i 0), at (get_or ring (i + 1) 0))
  edges_at i d h =
      steps-at (map at ring) i d (at 0) (omega (arith, length-map ring at))
      ∙ (λ t. (map_at at ring i 0 (at 0) (omega arith) t, map_at at ring (i + 1) 0 (at 0) h t))

module _ (q : Spot) (at : ℕ → Spot) (ring : List ℕ) where
  abbrev es : List Segment
  es = steps (map at ring)

  abbrev odd : List Segment → Bool
  odd l = is_odd (tally (crosses q) l)

  pub record Counted (done : Bool) (i : ℕ) : Type 0 where
    pub within : i ≤ length es
    pub parity : xor done (odd (drop i es)) ≡ inside q es

  pub counted_none : Counted false 0
  unfolding xor inside
  counted_none = record { within = omega arith; parity = refl }

  pub counted_more : {done : Bool} {i : ℕ} (c : Bool) → Counted done i → i + 1 < length ring → c ≡ crosses q (at (get_or ring i 0), at (get_or ring (i + 1) 0)) → Counted (not (beq done c)) (i + 1)
  counted_more {done} {i} c w h e = subst (λ (b : Bool). Counted b (i + 1)) (sym (beq-xor done c)) (record {
    within = omega (arith, edges-length at ring);
    parity =
        xor_assoc done c (odd (drop (i + 1) es))
        ∙ ap (xor done) (ap (λ (b : Bool). xor b (odd (drop (i + 1) es))) (e ∙ ap (crosses q) (sym (edges_at at ring i (at 0, at 0) h)))
        ∙ sym (odd_more (crosses q) (get_or es i (at 0, at 0)) (drop (i + 1) es))
        ∙ ap odd (sym (drop-next es i (at 0, at 0) (omega (arith, edges-length at ring)))))
        ∙ w.parity;
  })

  pub counted-all : {done : Bool} {i : ℕ} → Counted done i → length ring ≤ i + 1 → done ≡ inside q es
  unfolding tally is_odd xor
  counted-all {done} {i} w h =
      let z : i ≡ length es = omega (arith, edges-length at ring, w.within) in
      sym (xor-none done) ∙ ap (λ (l : List Segment). xor done (odd l)) (sym (drop_end es i z)) ∙ w.parity

  pub no_edges : length ring ≡ 0 → false ≡ inside q es
  no_edges h = counted-all counted_none (omega arith)
