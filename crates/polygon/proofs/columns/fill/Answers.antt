-- What is left to show of `columns::fill`.
use native.Mathlib.Omega.{arith}
use mir.Syntax.{w64}
use Rattle.whole.specs.laws.Size.{call_is}
use Rattle.polygon.proofs.Filled.{filling_start, filling_more, filling_end}
use Rattle.polygon.proofs.columns.fill.Goals as goal

pub loop-i-init : goal.loop-i-init
loop-i-init c = filling_start c.args.points.now.flat c.args.ring.now c.args.k _

pub bounds-room-i : goal.bounds-room-i
bounds-room-i c = omega (arith, c.loop-i.invariant.all)

pub loop-i-preserved : goal.loop-i-preserved
loop-i-preserved c = filling_more c.loop-i.invariant (omega arith) (omega (arith, c.loop-i.invariant.all)) _ (call_is w64 c.coordinate.type_inv c.coordinate.ensures)

pub shape_of-room : goal.shape_of-room
shape_of-room c = c.loop-i.invariant.all

pub returns : goal.returns
returns c = filling_end c.loop-i.invariant (omega (arith, c.loop-i.invariant.upto))
