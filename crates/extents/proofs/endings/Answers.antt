-- What is left to show of `endings`.
use Rattle.std.proofs.Common.{arith}
use Rattle.extents.proofs.endings.Goals as goal

pub returns : goal.returns
returns g c = record { all = omega arith; each = λ j h. c.loop-i.invariant.1 j (omega arith) }
