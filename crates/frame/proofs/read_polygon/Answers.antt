-- `read_polygon` meets its contract: at most 514 digits, two more than a multiple of four.
use Rattle.std.proofs.Common.{refl}
use Rattle.frame.specs.laws.Decoded.{polygon_is, polygon-odd, polygon-long}
use Rattle.frame.specs.held.Meaning.{meaning}
use Rattle.frame.proofs.read_polygon.Goals as goal
use Rattle.frame.proofs.read_polygon.Goals.{then-n-gt514-via-then-n-gt514, then-n-gt514-via-else-n-gt514+then-n-ne2}

pub returns-then-n-gt514 : goal.returns-then-n-gt514
unfolding meaning
returns-then-n-gt514 c =
    elim c.then-n-gt514.branch [
      | then-n-gt514-via-then-n-gt514 w ↦ polygon-long _ w.if-n-gt514.true
      | then-n-gt514-via-else-n-gt514+then-n-ne2 w ↦ polygon-odd _ w.if-n-gt514.false w.if-n-ne2.true
    ]

pub returns : goal.returns
unfolding meaning
returns c = polygon_is _ c.if-n-gt514.false c.if-n-ne2.false refl
