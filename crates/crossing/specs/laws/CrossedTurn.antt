-- Edges counted down, each turned, have in common what they had.
use Rattle.std.specs.Prelude.{ℕ, suc, ◌-◌, ◌<◌, ◌≡◌, refl, Bool, true, false, ◌||◌, eqb}
use Rattle.std.proofs.Common.{arith, sym, ap, ◌∙◌, eq-eqb, ne_eqb, eqb-true}
use Rattle.std.proofs.Math.Bool.{and_comm}
use Rattle.std.proofs.lemmas.Bool.{eqb-false}
use Rattle.whole.specs.laws.Reverse.{back}
use Rattle.plane.specs.Plane.{Segment, share, share_more_of}
use Rattle.crossing.specs.Crossed.{follows, forbidden}
use Rattle.plane.specs.laws.PlaneTurn.{share_back, share_more-back}

eqb_same : (a b c d : ℕ) → (a ≡ b → c ≡ d) → (c ≡ d → a ≡ b) → eqb a b ≡ eqb c d
eqb_same a b c d f g = go (eqb c d) refl
  where
    go : (t : Bool) → eqb c d ≡ t → eqb a b ≡ t
    go true e = eq-eqb a b (g (eqb-true c d e))
    go false e = ne_eqb a b (λ z. eqb-false c d e (f z))

follows-back : (m i j : ℕ) → i < m → j < m → follows m (m - suc j) (m - suc i) ≡ follows m i j
unfolding follows
follows-back m i j hi hj =
    let a : eqb (m - suc i) (suc (m - suc j)) ≡ eqb j (suc i) = eqb_same (m - suc i) (suc (m - suc j)) j (suc i) (λ z. omega arith) (λ z. omega arith) in
    let b : eqb (m - suc i) 0 ≡ eqb (suc i) m = eqb_same (m - suc i) 0 (suc i) m (λ z. omega arith) (λ z. omega arith) in
    let c : eqb (suc (m - suc j)) m ≡ eqb j 0 = eqb_same (suc (m - suc j)) m j 0 (λ z. omega arith) (λ z. omega arith) in
    rw (a, b, c) (ap (λ (x : Bool). eqb j (suc i) || x) (and_comm (eqb (suc i) m) (eqb j 0)))

choose : Bool → Bool → Bool → Bool → Bool → Bool
choose a b p q r = elim a [ true ↦ p | false ↦ elim b [ true ↦ q | false ↦ r ] ]

forbidden_is : (m : ℕ) (x y : ℕ × Segment) → forbidden m x y ≡ choose (follows m x.0 y.0) (follows m y.0 x.0) (share_more_of x.1 y.1) (share_more_of y.1 x.1) (share x.1 y.1)
unfolding forbidden choose
forbidden_is m x y = refl

pub forbidden-back : (m : ℕ) (x y : ℕ × Segment) → x.0 < m → y.0 < m → forbidden m (m - suc y.0, back y.1) (m - suc x.0, back x.1) ≡ forbidden m x y
forbidden-back m x y hx hy =
    forbidden_is m (m - suc y.0, back y.1) (m - suc x.0, back x.1)
    ∙ (λ i. choose (follows-back m x.0 y.0 hx hy i) (follows-back m y.0 x.0 hy hx i) (share_more-back x.1 y.1 i) (share_more-back y.1 x.1 i) (share_back x.1 y.1 i))
    ∙ sym (forbidden_is m x y)
