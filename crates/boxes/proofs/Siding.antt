-- Places on one side of an edge's line, looked at one after another.
use Prim.Native.Nat.{ℕ, ◌+◌, ◌≤◌, ◌<◌}
use native.Mathlib.Omega.{arith}
use native.Mathlib.Decide.{dec_lt}
use mathlib.Core.Path.{◌≡◌, refl, sym, ap, ap₂, ◌∙◌}
use mathlib.Core.Bool.{Bool, true, false, ◌&&◌, ◌||◌}
use lib.ListN.{get_or}
use lib.IntN.{ℤ, pos}
use lib.Signed.{lt_z}
use Rattle.whole.specs.laws.Bools.{and_left, and_right}
use Rattle.plane.specs.Plane.{Spot, side, same_sign}
use Rattle.plane.specs.held.Edges.{spot, Close}
use Rattle.crossing.specs.declared.Columns.{Columns}
use Rattle.crossing.specs.held.Between.{segment}
use Rattle.boxes.specs.held.Around.{Beside}

-- place k
abbrev pub place : Columns → ℕ → Spot
place cs k = spot (get_or cs.us.now k (pos 0)) (get_or cs.vs.now k (pos 0))

-- which side of edge i's line place k is on
abbrev pub side_at : Columns → ℕ → ℕ → ℤ
side_at cs i k = side (segment cs i).0 (segment cs i).1 (place cs k)

pub close_at : (cs : Columns) (k : ℕ) → k ≤ cs.m → Close (place cs k)
close_at cs k h = record { on_u = cs.spread.close_u k h; on-v = cs.spread.close_v k h }

-- where r holds, the places from j up to e pass a test of their side
pub record Held (t : ℤ → Bool) (cs : Columns) (i j e : ℕ) (r : Bool) : Type 0 where
  pub each : r ≡ true → (k : ℕ) → j ≤ k → k < e → t (side_at cs i k) ≡ true

pub held_more : {t : ℤ → Bool} {cs : Columns} {i j e : ℕ} {r : Bool} → Held t cs i j e r → (s : Bool) → s ≡ t (side_at cs i e) → Held t cs i j (e + 1) (r && s)
held_more {t} {cs} {i} {j} {e} {r} f s h = record { each = λ g k a b. go g k a b (dec_lt k e) }
  where
    go : (r && s) ≡ true → (k : ℕ) → j ≤ k → k < e + 1 → Dec (k < e) → t (side_at cs i k) ≡ true
    go g k a b (yes l) = f.each (and_left r s g) k a l
    go g k a b (no l) = let z : k ≡ e = omega arith in ap (λ (k : ℕ). t (side_at cs i k)) z ∙ sym h ∙ and_right r s g

or_last : (a : Bool) {b : Bool} → b ≡ true → (a || b) ≡ true
or_last true e = refl
or_last false e = e

same_right : (a b : ℤ) → lt_z (pos 0) a ≡ true → lt_z (pos 0) b ≡ true → same_sign a b ≡ true
unfolding same_sign
same_right a b p q = ap₂ (λ (x y : Bool). x && y || lt_z a (pos 0) && lt_z b (pos 0)) p q

same_left : (a b : ℤ) → lt_z a (pos 0) ≡ true → lt_z b (pos 0) ≡ true → same_sign a b ≡ true
unfolding same_sign
same_left a b p q = or_last (lt_z (pos 0) a && lt_z (pos 0) b) (ap₂ ◌&&◌ p q)

-- nine places on one side are those of eight edges beside the line
pub beside_is : {cs : Columns} {i j e : ℕ} (left right : Bool) → j + 9 ≤ e → Held (λ z. lt_z (pos 0) z) cs i j e left → Held (λ z. lt_z z (pos 0)) cs i j e right → Beside cs i j (left || right)
beside_is {cs} {i} {j} {e} true right h f g =
    record { each = λ t k a b. same_right (side_at cs i k) (side_at cs i (k + 1)) (f.each refl k a (omega arith)) (f.each refl (k + 1) (omega arith) (omega arith)) }
beside_is {cs} {i} {j} {e} false right h f g =
    record { each = λ t k a b. same_left (side_at cs i k) (side_at cs i (k + 1)) (g.each t k a (omega arith)) (g.each t (k + 1) (omega arith) (omega arith)) }
