-- `read_turn` meets its contract: 14 digits, two numbers.
use borrow.Author.Tests.{ne_eqb}
use Rattle.frame.specs.Frame.{Kind, fits}
use Rattle.frame.specs.held.Meaning.{meaning}
use Rattle.frame.specs.laws.Decoded.{shaped_broken, turn_is}
use Rattle.frame.proofs.read_turn.Goals as goal

pub returns-then-line-ne14 : goal.returns-then-line-ne14
unfolding meaning fits
returns-then-line-ne14 c = shaped_broken Kind.turn _ (ne_eqb _ 14 c.if-line-ne14.true)

pub returns : goal.returns
unfolding meaning
returns c = turn_is _ c.if-line-ne14.false c.unsigned.ensures.0 c.unsigned-2.ensures.0
