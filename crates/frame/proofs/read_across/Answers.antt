-- `read_across` meets its contract: ten digits, two point numbers.
use borrow.Author.Tests.{ne_eqb}
use Rattle.frame.specs.Frame.{Kind, fits}
use Rattle.frame.specs.held.Meaning.{meaning}
use Rattle.frame.specs.laws.Decoded.{shaped_broken, across_is}
use Rattle.frame.proofs.read_across.Goals as goal

pub returns-then-line-ne10 : goal.returns-then-line-ne10
unfolding meaning fits
returns-then-line-ne10 c = shaped_broken Kind.across _ (ne_eqb _ 10 c.if-line-ne10.true)

pub returns : goal.returns
unfolding meaning
returns c = across_is _ c.if-line-ne10.false c.unsigned.ensures.0 c.unsigned-2.ensures.0
