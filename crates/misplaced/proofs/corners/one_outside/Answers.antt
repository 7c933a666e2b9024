-- What is left to show of `corners::one_outside`.
use native.Mathlib.Omega.{arith}
use native.Mathlib.Nat.{le_refl}
use Prim.Native.Nat.{◌+◌}
use mathlib.Core.Path.{◌∙◌, sym, ap}
use mathlib.Core.Bool.{not}
use Rattle.fan.specs.held.Fan.{spot_in}
use Rattle.holes.specs.held.Rings.{spots_at}
use Rattle.holes.specs.held.Corners.{stands}
use Rattle.holes.specs.laws.Passes.{rest_all, rest-here, rest-next, rest_end}
use Rattle.misplaced.proofs.corners.one_outside.Goals as goal

pub loop-q-init : goal.loop-q-init
loop-q-init c = rest_all _ _ _ _

pub stands_in-requires : goal.stands_in-requires
stands_in-requires c = let a = c.args in
    let l = c.loop-q in
    record { ring = (c.requires.rings.0.each l.q (omega arith) c.loop-q-test.true, c.requires.filled.each l.q (omega arith) c.loop-q-test.true); ring_2 = c.requires.rings.0.each a.from (le_refl a.from) c.requires.rings.1 }

pub returns-then-not-stands_in : goal.returns-then-not-stands_in
returns-then-not-stands_in c = let a = c.args in
    rest-here (spots_at a.points.now.flat a.plane.u a.plane.v a.rings.now.entries a.rings.now.starts) (λ s. not (stands (spot_in a.points.now.flat a.plane.u a.plane.v 0) s (spots_at a.points.now.flat a.plane.u a.plane.v a.rings.now.entries a.rings.now.starts a.from))) (a.from + 1) a.to c.loop-q.invariant c.loop-q-test.true (ap not (sym c.stands_in.ensures) ∙ ap not c.if-not-stands_in.true)

pub loop-q-preserved : goal.loop-q-preserved
loop-q-preserved c = let a = c.args in
    rest-next (spots_at a.points.now.flat a.plane.u a.plane.v a.rings.now.entries a.rings.now.starts) (λ s. not (stands (spot_in a.points.now.flat a.plane.u a.plane.v 0) s (spots_at a.points.now.flat a.plane.u a.plane.v a.rings.now.entries a.rings.now.starts a.from))) (a.from + 1) a.to c.loop-q.invariant c.loop-q-test.true (ap not (sym c.stands_in.ensures) ∙ ap not c.if-not-stands_in.false)

pub returns : goal.returns
returns c = let a = c.args in
    rest_end (spots_at a.points.now.flat a.plane.u a.plane.v a.rings.now.entries a.rings.now.starts) (λ s. not (stands (spot_in a.points.now.flat a.plane.u a.plane.v 0) s (spots_at a.points.now.flat a.plane.u a.plane.v a.rings.now.entries a.rings.now.starts a.from))) (a.from + 1) a.to c.loop-q.invariant (omega arith)
