-- `read_begin` meets its contract: six digits, the tolerance from the third on.
use borrow.Author.Tests.{ne_eqb}
use Rattle.frame.specs.Frame.{Kind, fits}
use Rattle.frame.specs.held.Meaning.{meaning}
use Rattle.frame.specs.laws.Decoded.{shaped_broken, begin_is}
use Rattle.frame.proofs.read_begin.Goals as goal

pub returns-then-line-ne6 : goal.returns-then-line-ne6
unfolding meaning fits
returns-then-line-ne6 c = shaped_broken Kind.begin _ (ne_eqb _ 6 c.if-line-ne6.true)

pub returns : goal.returns
unfolding meaning
returns c = begin_is _ c.if-line-ne6.false c.unsigned.ensures.0
