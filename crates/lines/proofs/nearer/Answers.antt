-- What is left to show of `nearer`.
use Rattle.std.proofs.Common.{◌≡◌, ◌+◌, ◌-◌, arith, ◌∙◌}
use Rattle.lines.proofs.Parts.{end_part}
use Rattle.lines.proofs.nearer.Goals as goal

pub loop-i-preserved : goal.loop-i-preserved
loop-i-preserved c = let i = c.loop-i.i in
    let n : i + 8 - i ≡ 8 = omega arith in
    end_part 8 _ i (omega arith) (rw n at (c.has_feed.ensures c.if-not-has_feed.true)) ∙ c.loop-i.invariant
