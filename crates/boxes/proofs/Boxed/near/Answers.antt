-- What is left to show of `Boxed::near`.
use Rattle.std.proofs.Common.{arith, sym, ◌∙◌}
use Rattle.boxes.proofs.Nearness.{parted_more}
use Rattle.boxes.proofs.Boxed.near.Goals as goal

pub loop-c-preserved : goal.loop-c-preserved
loop-c-preserved c = parted_more c.loop-c.invariant (omega arith) (sym c.parted.ensures ∙ c.if-not-parted.false)
