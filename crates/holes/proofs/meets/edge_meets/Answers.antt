-- What is left to show of `meets::edge_meets`.
use native.Mathlib.Omega.{arith}
use mathlib.Core.Path.{◌∙◌, sym, ap}
use Rattle.plane.specs.Plane.{share}
use Rattle.plane.specs.held.Edges.{as_segment}
use Rattle.fan.specs.held.Fan.{spot_in}
use Rattle.holes.specs.laws.Boxes.{around, beside_none}
use Rattle.holes.specs.laws.Passes.{left-all, left_here, left-next, left_end}
use Rattle.holes.proofs.meets.edge_meets.Goals as goal

pub beside-requires : goal.beside-requires
beside-requires c = (c.requires.bounded.sized, c.requires.ends)

pub returns-then-beside : goal.returns-then-beside
returns-then-beside c = sym (beside_none (as_segment c.args.e) (around c.requires.bounded) (sym c.beside.ensures ∙ c.if-beside.true))

pub loop-i-init : goal.loop-i-init
loop-i-init c = left-all _ _ _

pub share-requires : goal.share-requires
share-requires c = (c.requires.ends, c.edge-f.ensures.ends)

pub returns-then-share : goal.returns-then-share
returns-then-share c = let a = c.args in
    let l = c.loop-i in
    left_here (share (as_segment a.e)) (spot_in a.points.now.flat a.plane.u a.plane.v) a.ring.now l.invariant (omega arith) (ap (share (as_segment a.e)) (sym c.edge-f.ensures.places) ∙ sym c.share.ensures ∙ c.if-share.true)

pub loop-i-preserved : goal.loop-i-preserved
loop-i-preserved c = let a = c.args in
    let l = c.loop-i in
    left-next (share (as_segment a.e)) (spot_in a.points.now.flat a.plane.u a.plane.v) a.ring.now l.invariant (omega arith) (ap (share (as_segment a.e)) (sym c.edge-f.ensures.places) ∙ sym c.share.ensures ∙ c.if-share.false)

pub returns : goal.returns
returns c = let a = c.args in
    left_end (share (as_segment a.e)) (spot_in a.points.now.flat a.plane.u a.plane.v) a.ring.now c.loop-i.invariant (omega arith)
