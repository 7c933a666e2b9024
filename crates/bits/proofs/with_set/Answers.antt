-- `bits::with_set` meets its contract.
use Rattle.bits.specs.laws.Word.{bit_put}
use Rattle.bits.proofs.with_set.Goals as goal

pub returns : goal.returns
returns c = bit_put 64 c.args.word c.args.k c.requires
