-- What is left to show of `corners::nested_later`.
use native.Mathlib.Omega.{arith}
use native.Mathlib.Nat.{le_refl}
use Prim.Native.Nat.{◌+◌}
use mathlib.Core.Path.{◌∙◌, sym}
use Rattle.fan.specs.held.Fan.{spot_in}
use Rattle.holes.specs.held.Rings.{spots_at}
use Rattle.holes.specs.held.Corners.{nested}
use Rattle.holes.specs.laws.Passes.{rest_all, rest-here, rest-next, rest_end}
use Rattle.misplaced.proofs.corners.nested_later.Goals as goal

pub loop-q-init : goal.loop-q-init
loop-q-init c = rest_all _ _ _ _

pub two_nested-requires : goal.two_nested-requires
two_nested-requires c = let a = c.args in
    let l = c.loop-q in
    let here = le_refl a.p in
    record { ring = (c.requires.rings.0.each a.p here c.requires.rings.1, c.requires.filled.each a.p here c.requires.rings.1); ring_2 = (c.requires.rings.0.each l.q (omega arith) c.loop-q-test.true, c.requires.filled.each l.q (omega arith) c.loop-q-test.true) }

pub returns-then-two_nested : goal.returns-then-two_nested
returns-then-two_nested c = let a = c.args in
    rest-here (spots_at a.points.now.flat a.plane.u a.plane.v a.rings.now.entries a.rings.now.starts) (nested (spot_in a.points.now.flat a.plane.u a.plane.v 0) (spots_at a.points.now.flat a.plane.u a.plane.v a.rings.now.entries a.rings.now.starts a.p)) (a.p + 1) a.to c.loop-q.invariant c.loop-q-test.true (sym c.two_nested.ensures ∙ c.if-two_nested.true)

pub loop-q-preserved : goal.loop-q-preserved
loop-q-preserved c = let a = c.args in
    rest-next (spots_at a.points.now.flat a.plane.u a.plane.v a.rings.now.entries a.rings.now.starts) (nested (spot_in a.points.now.flat a.plane.u a.plane.v 0) (spots_at a.points.now.flat a.plane.u a.plane.v a.rings.now.entries a.rings.now.starts a.p)) (a.p + 1) a.to c.loop-q.invariant c.loop-q-test.true (sym c.two_nested.ensures ∙ c.if-two_nested.false)

pub returns : goal.returns
returns c = let a = c.args in
    rest_end (spots_at a.points.now.flat a.plane.u a.plane.v a.rings.now.entries a.rings.now.starts) (nested (spot_in a.points.now.flat a.plane.u a.plane.v 0) (spots_at a.points.now.flat a.plane.u a.plane.v a.rings.now.entries a.rings.now.starts a.p)) (a.p + 1) a.to c.loop-q.invariant (omega arith)
