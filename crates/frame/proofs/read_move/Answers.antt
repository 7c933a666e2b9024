-- `read_move` meets its contract: 38 digits, two numbers and three coordinates.
use borrow.Author.Tests.{ne_eqb}
use Rattle.frame.specs.Frame.{Kind, fits}
use Rattle.frame.specs.held.Meaning.{meaning}
use Rattle.frame.specs.laws.Decoded.{shaped_broken, field_of, move_is}
use Rattle.hexadecimal.specs.laws.Signed.{signed_back}
use Rattle.frame.proofs.read_move.Goals as goal

pub returns-then-line-ne38 : goal.returns-then-line-ne38
unfolding meaning fits
returns-then-line-ne38 c = shaped_broken Kind.move _ (ne_eqb _ 38 c.if-line-ne38.true)

pub returns : goal.returns
unfolding meaning
returns c = let l = c.args.line.now in
    move_is l c.if-line-ne38.false c.unsigned.ensures.0 c.unsigned-2.ensures.0
    (signed_back (field_of 8 14 l) c.coordinate.ensures)
    (signed_back (field_of 8 22 l) c.coordinate-2.ensures)
    (signed_back (field_of 8 30 l) c.coordinate-3.ensures)
