-- `apart::lowest_below` meets its contract.
use native.Mathlib.Omega.{arith}
use Rattle.reach.specs.laws.Marks.{words_marks}
use Rattle.apart.proofs.Lowest.{lowest_found, lowest-none}
use Rattle.apart.proofs.lowest_below.Goals as goal

pub returns-then-r-n : goal.returns-then-r-n
returns-then-r-n c = (c.if-r-n.true, lowest_found _ _ _ (omega (arith, (words_marks 4 c.args.marks.now c.told-marks).size, c.requires)) c.lowest_bare-r.ensures c.if-r-n.true)

pub returns-else-r-n : goal.returns-else-r-n
returns-else-r-n c = (tt, lowest-none _ _ _ (omega (arith, (words_marks 4 c.args.marks.now c.told-marks).size, c.requires)) c.lowest_bare-r.ensures c.if-r-n.false)
