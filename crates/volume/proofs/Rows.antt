-- Three rows of three coordinates, of three places.
use Prim.Native.Nat.{ℕ, zero, suc}
use mathlib.Core.List.{[], ◌∷◌}
use lib.IntN.{ℤ}
use Rattle.whole.specs.laws.Size.{small_zero}
use Rattle.space.specs.held.Points.{at, Near}
use Rattle.volume.specs.held.Rows.{row_of, Rows}

-- three rows
pub rows-three : {a b c d e f g h i : ℤ} → Near 100000 (at a b c) → Near 100000 (at d e f) → Near 100000 (at g h i)
    → Rows ((a ∷ b ∷ c ∷ []) ∷ (d ∷ e ∷ f ∷ []) ∷ (g ∷ h ∷ i ∷ []) ∷ [])
rows-three {a} {b} {c} {d} {e} {f} {g} {h} {i} p q r = record { each = each }
  where
    each : (k : ℕ) → Near 100000 (row_of ((a ∷ b ∷ c ∷ []) ∷ (d ∷ e ∷ f ∷ []) ∷ (g ∷ h ∷ i ∷ []) ∷ []) k)
    each zero = p
    each (suc zero) = q
    each (suc (suc zero)) = r
    each (suc (suc (suc k))) = record { x = small_zero; y = small_zero; z = small_zero }
