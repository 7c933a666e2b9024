-- What is left to show of `Tables::walks`.
use mathlib.Core.Path.{sym, ap, ◌∙◌}
use lib.ListN.{length}
use Rattle.bits.specs.held.Bits.{marks_of}
use Rattle.reach.specs.laws.Marks.{words_marks, not_marked}
use Rattle.links.proofs.Trails.{trace-none, trace_skip, trace_more, trace_done}
use Rattle.links.proofs.Tables.walks.Goals as goal
use Rattle.links.proofs.Tables.walks.Goals.{else-is_marked, then-is_marked}

pub loop-e-init : goal.loop-e-init
loop-e-init c = (c.told-marks, trace-none _ _)

pub loop-e-preserved : goal.loop-e-preserved
loop-e-preserved c = let is = c.is_marked in
    let a = c.args in
    elim c.if-is_marked.branch [
      | then-is_marked w ↦ (ap length w.marks-is ∙ w.walk-then-is_marked.array_long, rw w.marks-is (trace_more a.self.now.out a.self.now.inn _ _ _ _ _ c.loop-e.invariant.1 (rw w.from.ensures at w.walk.ensures) (rw w.from-then-is_marked.ensures at w.walk-then-is_marked.ensures)))
      | else-is_marked w ↦ (ap length w.marks-is ∙ c.loop-e.invariant.0, rw w.marks-is (trace_skip _ _ _ _ c.loop-e.invariant.1 (not_marked (marks_of c.loop-e.marks) c.loop-e.e (sym w.if-is_marked.false ∙ is.ensures))))
    ]

pub returns : goal.returns
returns c = let s = c.loop-e.invariant in
    trace_done _ _ _ _ s.1 (words_marks 16 _ s.0).size c.loop-e-test.false
