-- What is left to show of `line_end`.
use Rattle.std.proofs.Common.{sym, ◌∙◌, arith}
use Rattle.lines.specs.laws.LineLaws.{end_feed, end_byte, end_past}
use Rattle.lines.proofs.line_end.Goals as goal

pub returns-then-stream-i-eq10 : goal.returns-then-stream-i-eq10
returns-then-stream-i-eq10 c = sym (end_feed _ _ c.loop-i-test.true c.if-stream-i-eq10.true) ∙ c.loop-i.invariant

pub loop-i-preserved : goal.loop-i-preserved
loop-i-preserved c = end_byte _ _ c.loop-i-test.true c.if-stream-i-eq10.false ∙ c.loop-i.invariant

pub returns : goal.returns
returns c = let s = c.args.stream.now in
    grind (arith, end_past s c.loop-i.i c.loop-i-test.false, end_past s c.nearer-near.result, c.loop-i.invariant)
