-- `read_end_of_load` meets its contract: the kind's two digits alone.
use borrow.Author.Tests.{ne_eqb}
use Rattle.frame.specs.Frame.{Kind, fits}
use Rattle.frame.specs.held.Meaning.{meaning}
use Rattle.frame.specs.laws.Decoded.{shaped_broken, end_is}
use Rattle.frame.proofs.read_end_of_load.Goals as goal

pub returns-then-line-ne2 : goal.returns-then-line-ne2
unfolding meaning fits
returns-then-line-ne2 c = shaped_broken Kind.end_of_load _ (ne_eqb _ 2 c.if-line-ne2.true)

pub returns : goal.returns
unfolding meaning
returns c = end_is _ c.if-line-ne2.false
