-- What is left to show of `Boxed::clashes_in`.
use Rattle.std.proofs.Common.{arith, sym, ◌∙◌}
use Rattle.crossing.proofs.laws.Pairs.{row_here, row_next}
use Rattle.boxes.proofs.Boxed.clashes_in.Goals as goal

pub returns-then-clash_past : goal.returns-then-clash_past
returns-then-clash_past c = c.loop-k.invariant ∙ row_here _ _ _ _ c.loop-k.k (omega arith) (sym c.clash_past.ensures ∙ c.if-clash_past.true)

pub loop-k-preserved : goal.loop-k-preserved
loop-k-preserved c = c.loop-k.invariant ∙ sym (row_next _ _ _ _ c.loop-k.k (omega arith) (sym c.clash_past.ensures ∙ c.if-clash_past.false))
