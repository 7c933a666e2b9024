-- `bits::mark` meets its contract.
use Prim.Native.Nat.{◌/◌}
use lib.ListN.{length-set}
use Rattle.bits.specs.laws.Words.{mark_put}
use Rattle.bits.proofs.mark.Goals as goal

pub returns : goal.returns
returns c = (length-set c.args.marks.now (c.args.p / 64) c.with_set.result, mark_put c.args.marks.now c.args.p c.requires _ c.with_set.ensures)
