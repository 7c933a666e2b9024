-- What is left to show of `bounds::bounds_of`.
use native.Mathlib.Omega.{arith}
use mathlib.Core.Path.{subst}
use Rattle.plane.specs.Plane.{Spot}
use Rattle.plane.specs.held.Edges.{Close}
use Rattle.fan.specs.held.Fan.{spot_in}
use Rattle.holes.specs.held.Boxes.{Widened}
use Rattle.holes.specs.laws.Boxes.{bounded_none, bounded_more}
use Rattle.holes.proofs.bounds.bounds_of.Goals as goal

pub loop-p-init : goal.loop-p-init
loop-p-init c = bounded_none _ _ (record { lu = record { small = omega arith }; hu = record { small = omega arith }; lv = record { small = omega arith }; hv = record { small = omega arith } })

pub widened-b-requires : goal.widened-b-requires
widened-b-requires c = (c.loop-p.invariant.sized, c.spot.ensures.close)

pub loop-p-preserved : goal.loop-p-preserved
loop-p-preserved c = let l = c.loop-p in
    let e = c.spot.ensures.place in
    bounded_more (spot_in c.args.points.now.flat c.args.plane.u c.args.plane.v) c.args.ring.now l.invariant (subst Close e c.spot.ensures.close) (subst (λ (p : Spot). Widened l.b p c.widened-b.result) e c.widened-b.ensures)

pub returns : goal.returns
returns c = record { sized = c.loop-p.invariant.sized; each = λ i h. c.loop-p.invariant.each i (omega arith) }
