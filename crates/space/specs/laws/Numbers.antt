-- The numbers of places as the machine sees them, for what is asked of sums and products of them.
use Rattle.std.specs.Prelude.{ℕ, ◌^◌, ◌≡◌, List, ◌∷◌, T, ltb, ℤ, nat_abs}
use Rattle.std.proofs.Common.{sym, ap, ◌∙◌, subst}
use Rattle.std.specs.Int.{w64}
use mir.Val.{hbits, to_z, of_z}
use Rattle.whole.specs.held.Small.{Small}
use Rattle.whole.specs.laws.Size.{small_back, back_small}
use Rattle.whole.specs.laws.Mach.{Leaf}
use Rattle.space.specs.Space.{Point}
use Rattle.space.specs.held.Points.{at, Near}
use Rattle.space.specs.laws.Sizes.{near_same}

-- a number, read back from its bits
abbrev pub seen : ℤ → ℤ
seen z = to_z w64 (of_z w64 z)

-- a place that is read back is the same, and as near
pub seen_is : {n : ℕ} (p : Point) → T (ltb n (2 ^ hbits w64)) → Near n p → at (seen p.x) (seen p.y) (seen p.z) ≡ p
seen_is p t h = λ i. at (small_back w64 t h.x i) (small_back w64 t h.y i) (small_back w64 t h.z i)

pub seen-near : {n : ℕ} (p : Point) → T (ltb n (2 ^ hbits w64)) → Near n p → Near n (at (seen p.x) (seen p.y) (seen p.z))
seen-near p t h = record { x = back_small w64 t h.x; y = back_small w64 t h.y; z = back_small w64 t h.z }

-- ---- places that a call returned
pub near-back : {n : ℕ} {p q : Point} → T (ltb n (2 ^ hbits w64)) → p ≡ q → Near n q → Near n (at (seen p.x) (seen p.y) (seen p.z))
near-back t e h = seen-near _ t (near_same e h)

pub back_is : {n : ℕ} {p q : Point} → T (ltb n (2 ^ hbits w64)) → p ≡ q → Near n q → at (seen p.x) (seen p.y) (seen p.z) ≡ q
back_is t e h = seen_is _ t (near_same e h) ∙ e

-- the numbers of a place p that a call returned, of which it ensures that it is q
abbrev pub returned : {p q : Point} → p ≡ q → Near 100000 q → List Leaf → List Leaf
returned {p} {q} e h ls =
    got p.x q.x (ap (λ (r : Point). r.x) e) h.x ∷ got p.y q.y (ap (λ (r : Point). r.y) e) h.y ∷ got p.z q.z (ap (λ (r : Point). r.z) e) h.z ∷ ls
  where
    got : (y z : ℤ) → y ≡ z → Small 100000 z → Leaf
    got y z e s = record { seen = seen y; is = z; size = 100000; same = small_back w64 tt (subst (λ (x : ℤ). Small 100000 x) (sym e) s) ∙ e; small = s }

-- what a call of `size` returned
pub size_is : {r : ℕ} {z : ℤ} → Small 10160000000000 z → r ≡ nat_abs (to_z w64 (of_z w64 z)) → r ≡ nat_abs z
size_is h e = e ∙ ap nat_abs (small_back w64 tt h)
