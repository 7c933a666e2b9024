-- What is left to show of `has_feed`.
use Rattle.std.proofs.Common.{sym, ◌∙◌}
use Rattle.std.proofs.lemmas.Bool.{eqb-false}
use Rattle.whole.specs.laws.Bools.{or_left, or_right}
use Rattle.lines.specs.laws.LineLaws.{feeds_byte, feeds_end}
use Rattle.lines.proofs.has_feed.Goals as goal

pub loop-b-preserved : goal.loop-b-preserved
loop-b-preserved c e =
    let l = c.loop-b in
    sym (feeds_byte c.args.part.now l.b-index c.loop-b-test.true (eqb-false _ 10 (or_right l.found _ e))) ∙ l.invariant (or_left l.found _ e)

pub returns : goal.returns
returns c e = sym (c.loop-b.invariant e) ∙ feeds_end c.args.part.now c.loop-b.b-index c.loop-b-test.false
