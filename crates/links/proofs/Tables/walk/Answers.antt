-- What is left to show of `Tables::walk`.
use mathlib.Core.Path.{sym, ◌∙◌}
use Rattle.bits.specs.held.Bits.{marks_of}
use Rattle.reach.specs.laws.Marks.{words_marks, not_marked}
use Rattle.links.proofs.Trails.{walk_none, walk_falls, walk_more}
use Rattle.links.proofs.Tables.walk.Goals as goal

pub loop-marks-init : goal.loop-marks-init
loop-marks-init c = (c.told-marks, walk_none _ _ _ _ _ (words_marks 16 _ c.told-marks) c.requires.2 c.requires.3 c.requires.4)

pub loop-marks-smaller : goal.loop-marks-smaller
loop-marks-smaller c = let is = c.is_marked in
    rw c.mark.ensures.1 (walk_falls _ _ _ _ _ _ _ c.loop-marks.invariant.1 (not_marked (marks_of c.loop-marks.marks) c.loop-marks.c (sym c.loop-marks-test.true ∙ is.ensures)))

pub loop-marks-preserved : goal.loop-marks-preserved
loop-marks-preserved c = (c.mark.ensures.0 ∙ c.loop-marks.invariant.0, rw c.mark.ensures.1 (walk_more _ _ _ _ _ _ _ c.loop-marks.invariant.1 _ c.requires.0 c.requires.1 (rw (c.from.ensures, c.from-in-loop-marks.ensures) at c.onward-n.ensures)))
