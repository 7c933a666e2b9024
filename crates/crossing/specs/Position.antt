-- Where check 05 is met, in plain words.
use Rattle.std.specs.Prelude.{ℕ, ◌<◌, ◌≡◌, true, ◌⊎◌, List, length, get_or, pos}
use Rattle.plane.specs.Plane.{Segment}
use Rattle.crossing.specs.Crossed.{forbidden}

abbrev pub nowhere : Segment
nowhere = (record { u = pos 0; v = pos 0 }, record { u = pos 0; v = pos 0 })

-- edge i with its number
abbrev pub edge : List Segment → ℕ → ℕ × Segment
edge es i = (i, get_or es i nowhere)

-- edges i and j, the one before the other, have in common what they may not
pub record Clash (es : List Segment) (i j : ℕ) : Type 0 where
  pub order : i < j
  pub within : j < length es
  pub clash : forbidden (length es) (edge es i) (edge es j) ≡ true

-- edge i has a forbidden meeting with another edge, after it or before it
pub record Meets (es : List Segment) (i : ℕ) : Type 0 where
  pub other : ℕ
  pub clash : Clash es i other ⊎ Clash es other i
