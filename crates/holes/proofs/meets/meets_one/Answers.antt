-- What is left to show of `meets::meets_one`.
use native.Mathlib.Omega.{arith}
use mathlib.Core.Path.{◌∙◌, sym}
use Rattle.rays.specs.held.Seen.{spots_in}
use Rattle.holes.specs.Holes.{meet}
use Rattle.holes.specs.held.Rings.{spots_at}
use Rattle.holes.specs.laws.Passes.{rest_all, rest-here, rest-next, rest_end}
use Rattle.holes.proofs.meets.meets_one.Goals as goal

pub loop-q-init : goal.loop-q-init
loop-q-init c = rest_all _ _ _ _

pub meets_ring-requires : goal.meets_ring-requires
meets_ring-requires c = let l = c.loop-q in
    record { ring = c.requires.rings.each l.q (omega arith) c.loop-q-test.true; known = c.requires.known; bounded = c.bounds_of-b.ensures }

pub returns-then-meets_ring : goal.returns-then-meets_ring
returns-then-meets_ring c = let a = c.args in
    let l = c.loop-q in
    rest-here (spots_at a.points.now.flat a.plane.u a.plane.v a.rings.now.entries a.rings.now.starts) (meet (spots_in a.points.now.flat a.plane.u a.plane.v a.r.now)) a.p a.to l.invariant c.loop-q-test.true (sym c.meets_ring.ensures ∙ c.if-meets_ring.true)

pub loop-q-preserved : goal.loop-q-preserved
loop-q-preserved c = let a = c.args in
    let l = c.loop-q in
    rest-next (spots_at a.points.now.flat a.plane.u a.plane.v a.rings.now.entries a.rings.now.starts) (meet (spots_in a.points.now.flat a.plane.u a.plane.v a.r.now)) a.p a.to l.invariant c.loop-q-test.true (sym c.meets_ring.ensures ∙ c.if-meets_ring.false)

pub returns : goal.returns
returns c = let a = c.args in
    rest_end (spots_at a.points.now.flat a.plane.u a.plane.v a.rings.now.entries a.rings.now.starts) (meet (spots_in a.points.now.flat a.plane.u a.plane.v a.r.now)) a.p a.to c.loop-q.invariant (omega arith)
