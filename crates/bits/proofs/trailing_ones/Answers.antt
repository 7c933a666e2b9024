-- `bits::trailing_ones` meets its contract.
use borrow.Author.Rules.{rules}
use lib.Count.{trailing_le}
use Rattle.bits.specs.laws.Word.{trailing_ones}
use Rattle.bits.proofs.trailing_ones.Goals as goal

pub returns : goal.returns
returns c = (trailing_ones 64 c.args.word (search rules), trailing_le 64 _)
