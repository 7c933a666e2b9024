-- What is left to show of `corners::some_nested`.
use native.Mathlib.Omega.{arith}
use mathlib.Core.Path.{◌∙◌, sym}
use Rattle.fan.specs.held.Fan.{spot_in}
use Rattle.holes.specs.held.Rings.{spots_at}
use Rattle.holes.specs.held.Corners.{nested}
use Rattle.holes.specs.laws.Tables.{rings-from, filled-from}
use Rattle.holes.specs.laws.Passes.{rests-all, rests-here, rests-next, rests-end}
use Rattle.misplaced.proofs.corners.some_nested.Goals as goal

pub loop-p-init : goal.loop-p-init
loop-p-init c = rests-all _ _ _ _

pub nested_later-requires : goal.nested_later-requires
nested_later-requires c = let l = c.loop-p in
    record { rings = (rings-from c.requires.rings l.p l.invariant.low, c.loop-p-test.true); filled = filled-from c.requires.filled l.p l.invariant.low }

pub returns-then-nested_later : goal.returns-then-nested_later
returns-then-nested_later c = let a = c.args in
    rests-here (spots_at a.points.now.flat a.plane.u a.plane.v a.rings.now.entries a.rings.now.starts) (nested (spot_in a.points.now.flat a.plane.u a.plane.v 0)) a.from a.to c.loop-p.invariant c.loop-p-test.true (sym c.nested_later.ensures ∙ c.if-nested_later.true)

pub loop-p-preserved : goal.loop-p-preserved
loop-p-preserved c = let a = c.args in
    rests-next (spots_at a.points.now.flat a.plane.u a.plane.v a.rings.now.entries a.rings.now.starts) (nested (spot_in a.points.now.flat a.plane.u a.plane.v 0)) a.from a.to c.loop-p.invariant c.loop-p-test.true (sym c.nested_later.ensures ∙ c.if-nested_later.false)

pub returns : goal.returns
returns c = let a = c.args in
    rests-end (spots_at a.points.now.flat a.plane.u a.plane.v a.rings.now.entries a.rings.now.starts) (nested (spot_in a.points.now.flat a.plane.u a.plane.v 0)) a.from a.to c.loop-p.invariant (omega arith)
