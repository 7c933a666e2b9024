-- A finding as it is kept: one number for its check and its position.
use Rattle.std.specs.Prelude.{ℕ, zero, suc, ◌+◌, ◌*◌, Bool, ◌||◌, cond, eqb}
use Rattle.polygon.specs.declared.Finding.{Finding}
use Rattle.polygon.specs.declared.Finding.TheVariants.{Sound, Short, Unclosed, Repeated, NoNormal, Crossed, Uneven, Shared, Misplaced}
use Rattle.polygon.specs.Ring.{finding_number_of, finding_position_of}

-- the check's number in the lowest hexadecimal digit, the position above it
unfoldable pub kept_finding : Finding → ℕ
kept_finding f = 16 * finding_position_of f + finding_number_of f

-- whether findings of a number have a position: 03, 05 and 06
unfoldable pub is_placed : ℕ → Bool
is_placed n = (eqb n 3 || eqb n 5) || eqb n 6

-- the finding of a number with a position
unfoldable pub finding_of : ℕ → ℕ → Finding
finding_of zero i = Sound
finding_of (suc zero) i = Short
finding_of (suc (suc zero)) i = Unclosed
finding_of (suc (suc (suc zero))) i = Repeated i
finding_of (suc (suc (suc (suc zero)))) i = NoNormal
finding_of (suc (suc (suc (suc (suc zero))))) i = Crossed i
finding_of (suc (suc (suc (suc (suc (suc n)))))) i = cond (eqb n 8) Shared (cond (eqb n 9) Misplaced (Uneven i))
