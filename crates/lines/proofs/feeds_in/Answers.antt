-- What is left to show of `feeds_in`.
use Rattle.std.proofs.Common.{arith}
use Rattle.lines.specs.laws.LineLaws.{feeds_feed, feeds_byte, feeds_end}
use Rattle.lines.proofs.feeds_in.Goals as goal
use Rattle.lines.proofs.feeds_in.Goals.{then-b-eq10, else-b-eq10}

pub loop-b-preserved : goal.loop-b-preserved
loop-b-preserved c = let i = c.loop-b.b-index in
    let s = c.args.part.now in
    let h = c.loop-b-test.true in
    elim c.if-b-eq10.branch [
      | then-b-eq10 w ↦ (omega arith, omega (arith, feeds_feed s i h w.if-b-eq10.true))
      | else-b-eq10 w ↦ (omega arith, omega (arith, feeds_byte s i h w.if-b-eq10.false))
    ]

pub returns : goal.returns
returns c = omega (arith, feeds_end c.args.part.now c.loop-b.b-index c.loop-b-test.false)
