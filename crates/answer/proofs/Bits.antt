-- The 64 bits of a whole number, as the machine has them.
use Rattle.std.proofs.Common.{◌≡◌, ℤ, pos, negsuc, refl, ap, ◌∙◌, arith, SFits, to_z, of_z, to_z-of_z, w64}
use Rattle.hexadecimal.specs.Hex.{bits64}

plain_bits : (z : ℤ) → of_z w64 z ≡ bits64 z
unfolding bits64
plain_bits (pos n) = refl
plain_bits (negsuc n) = omega arith

-- as a called function is given the number
pub bits_are : (z : ℤ) → SFits w64 z → of_z w64 (to_z w64 (of_z w64 z)) ≡ bits64 z
bits_are z h = ap (of_z w64) (to_z-of_z h) ∙ plain_bits z
