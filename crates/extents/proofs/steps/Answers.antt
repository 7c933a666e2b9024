-- What is left to show of `steps`.
use Rattle.std.proofs.Common.{arith}
use Rattle.extents.proofs.steps.Goals as goal

pub returns : goal.returns
returns c = record { all = omega arith; each = λ j h. c.loop-i.invariant.1 j (omega arith) }
