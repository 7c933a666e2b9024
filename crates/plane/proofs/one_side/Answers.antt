-- `plane::one_side` meets its contract. The two sides are those of the definition.
use Rattle.std.specs.Int.{w64}
use Rattle.whole.specs.laws.Size.{call_is}
use Rattle.plane.specs.Plane.{same_sign}
use Rattle.plane.proofs.one_side.Goals as goal

pub returns : goal.returns
unfolding same_sign
returns c = λ i. same_sign (call_is w64 c.side-p.type_inv c.side-p.ensures i) (call_is w64 c.side-q.type_inv c.side-q.ensures i)
