-- `read_question` meets its contract: six digits, the polygon from the third on.
use borrow.Author.Tests.{ne_eqb}
use Rattle.frame.specs.Frame.{Kind, fits}
use Rattle.frame.specs.held.Meaning.{meaning}
use Rattle.frame.specs.laws.Decoded.{shaped_broken, question_is}
use Rattle.frame.proofs.read_question.Goals as goal

pub returns-then-line-ne6 : goal.returns-then-line-ne6
unfolding meaning fits
returns-then-line-ne6 c = shaped_broken Kind.question _ (ne_eqb _ 6 c.if-line-ne6.true)

pub returns : goal.returns
unfolding meaning
returns c = question_is _ c.if-line-ne6.false c.unsigned.ensures.0
