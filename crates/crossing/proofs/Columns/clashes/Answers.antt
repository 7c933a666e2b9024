-- What is left to show of `Columns::clashes`.
use Rattle.std.proofs.Common.{arith, sym, ◌∙◌}
use Rattle.crossing.proofs.laws.Pairs.{row_here, row_next, row-end}
use Rattle.crossing.proofs.Columns.clashes.Goals as goal

pub returns-then-clash : goal.returns-then-clash
returns-then-clash c = sym (sym c.loop-j.invariant ∙ row_here _ _ _ _ c.loop-j.j c.loop-j-test.true (sym c.clash.ensures ∙ c.if-clash.true))

pub loop-j-preserved : goal.loop-j-preserved
loop-j-preserved c = row_next _ _ _ _ c.loop-j.j c.loop-j-test.true (sym c.clash.ensures ∙ c.if-clash.false) ∙ c.loop-j.invariant

pub returns : goal.returns
returns c = sym (sym c.loop-j.invariant ∙ row-end _ _ _ _ c.loop-j.j (omega arith))
