-- `coordinate` meets its contract: the signed number of the 32 bits of an unsigned field of eight digits.
use Rattle.std.proofs.Common.{◌≡◌, ℕ, suc, ◌-◌, ap, ◌∙◌, arith, to_z, to_z-of_z, w32}
use Rattle.hexadecimal.specs.Hex.{signed32}
use Rattle.hexadecimal.specs.laws.Signed.{signed_back}
use Rattle.frame.proofs.coordinate.Goals as goal

signed_is : (v : ℕ) → to_z w32 v ≡ signed32 v
unfolding signed32
signed_is v = let e : 4294967296 - suc v ≡ 4294967295 - v = omega arith in rw e

pub returns : goal.returns
returns c =
    signed_back _
    (c.from.ensures ∙ to_z-of_z {w = w32} (record { sfits = c.cast_signed.type_inv }) ∙ c.cast_signed.ensures ∙ signed_is c.unsigned-bits.result
    ∙ ap signed32 c.unsigned-bits.ensures.0)
