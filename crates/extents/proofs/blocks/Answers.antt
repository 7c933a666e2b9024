-- What is left to show of `blocks`.
use Rattle.std.proofs.Common.{arith}
use Rattle.extents.proofs.blocks.Goals as goal

pub returns : goal.returns
returns g c = record { all = omega arith; same = c.loop-b.invariant.1; each = λ k h. c.loop-b.invariant.2 k (omega arith) }
