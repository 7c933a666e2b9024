-- `bits::is_set` meets its contract. Bit k is the word's k-th digit.
use Prim.Native.Nat.{ℕ}
use mathlib.Core.Path.{sym, ap}
use lib.Dec.{eqb}
use Rattle.bits.specs.laws.Word.{bit_is}
use Rattle.bits.proofs.is_set.Goals as goal

pub returns : goal.returns
returns c = ap (λ (b : ℕ). eqb b 1) (sym (bit_is 64 c.args.word c.args.k c.requires))
