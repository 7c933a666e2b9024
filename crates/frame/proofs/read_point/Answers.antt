-- `read_point` meets its contract: 26 digits, three coordinates.
use borrow.Author.Tests.{ne_eqb}
use Rattle.frame.specs.Frame.{Kind, fits}
use Rattle.frame.specs.held.Meaning.{meaning}
use Rattle.frame.specs.laws.Decoded.{shaped_broken, field_of, point_is}
use Rattle.hexadecimal.specs.laws.Signed.{signed_back}
use Rattle.frame.proofs.read_point.Goals as goal

pub returns-then-line-ne26 : goal.returns-then-line-ne26
unfolding meaning fits
returns-then-line-ne26 c = shaped_broken Kind.point _ (ne_eqb _ 26 c.if-line-ne26.true)

pub returns : goal.returns
unfolding meaning
returns c = let l = c.args.line.now in
    point_is l c.if-line-ne26.false
    (signed_back (field_of 8 2 l) c.coordinate.ensures)
    (signed_back (field_of 8 10 l) c.coordinate-2.ensures)
    (signed_back (field_of 8 18 l) c.coordinate-3.ensures)
