-- A number that is not below 0 is its size.
use Rattle.std.specs.Prelude.{◌≡◌, refl, ℤ, pos, negsuc, nat_abs, ◌≤ℤ◌}

pub size_above : (z : ℤ) → pos 0 ≤ℤ z → z ≡ pos (nat_abs z)
size_above (pos n) h = refl
size_above (negsuc n) h = absurd h.le
