-- What is left to show of `rings::look_at_rings`.
use Prim.Native.Nat.{ℕ}
use native.Mathlib.Omega.{arith}
use mathlib.Core.Path.{subst}
use Rattle.space.specs.held.Points.{points_of}
use Rattle.ring.specs.held.Rings.{ring_at}
use Rattle.polygon.specs.Ring.{finding_position_of}
use Rattle.inner.proofs.laws.Tables.{order, looked_none, looked-more, looked-all, summed_none, sum_fits, summed_more, summed_all, own_few, own-part}
use Rattle.inner.specs.held.Told.{Told}
use Rattle.inner.proofs.rings.look_at_rings.Goals as goal

pub loop-q-init : goal.loop-q-init
unfolding finding_position_of
loop-q-init c = let a = c.args in (looked_none (points_of a.points.now.flat) a.rings.now.entries a.rings.now.starts a.from a.to, omega arith, λ k h. summed_none k h)

pub look_at_ring-look-requires : goal.look_at_ring-look-requires
look_at_ring-look-requires c = record { ring = c.requires.lies.rings.each c.loop-q.q c.loop-q.invariant.0.low c.loop-q-test.true }

pub entries_of-before-requires : goal.entries_of-before-requires
entries_of-before-requires c = let h = c.requires.lies.rings in
    let l = c.loop-q in
    let t = c.loop-q-test.true in
    let r = h.each l.q l.invariant.0.low t in
    record { starts_len = (r.starts_size, omega (arith, h.few, c.requires.lies.some), omega (arith, h.few, t)); from_bound = (order h l.q l.invariant.0.low (omega (arith, t)), omega (arith, r.forward, r.inside)) }

pub told-finding-requires : goal.told-finding-requires
told-finding-requires c = let l = c.loop-q in
    let t = c.loop-q-test.true in
    let r = c.requires.lies.rings.each l.q l.invariant.0.low t in
    (l.invariant.1, own_few (points_of c.args.points.now.flat) (ring_at c.args.rings.now.entries c.args.rings.now.starts l.q) r.known c.look_at_ring-look.ensures.finding_value, omega (arith, c.entries_of-before.ensures, r.forward, r.inside))

pub overflow_add-part : goal.overflow_add-part
overflow_add-part c = let l = c.loop-q in
    let look = c.look_at_ring-look in
    sum_fits c.args.points.now.coords c.requires.lies.rings l.invariant.0.low c.loop-q-test.true (l.invariant.2 c.args.points.now.coords c.requires.lies.rings) (own-part c.args.points.now.coords (c.requires.lies.rings.each l.q l.invariant.0.low c.loop-q-test.true).known look.ensures.part_value)

pub loop-q-preserved : goal.loop-q-preserved
loop-q-preserved c = let l = c.loop-q in
    let t = c.loop-q-test.true in
    let look = c.look_at_ring-look in (
      looked-more (points_of c.args.points.now.flat) c.args.rings.now.entries c.args.rings.now.starts c.args.from c.args.to c.requires.lies.rings l.invariant.0.low t l.invariant.0 look.ensures.finding_value (subst (λ (b : ℕ). Told l.finding look.result.finding b c.told-finding.result) c.entries_of-before.ensures c.told-finding.ensures.told),
      c.told-finding.ensures.few,
      λ k h. summed_more k h l.invariant.0.low t (l.invariant.2 k h) (own-part k (h.each l.q l.invariant.0.low t).known look.ensures.part_value),
    )

pub returns : goal.returns
returns c = let l = c.loop-q in
    record { finding_value = looked-all (points_of c.args.points.now.flat) c.args.rings.now.entries c.args.rings.now.starts c.args.from c.args.to c.requires.lies.rings l.invariant.0 c.loop-q-test.false; few = l.invariant.1; part_value = summed_all c.args.points.now.coords c.requires.lies.rings (l.invariant.2 c.args.points.now.coords c.requires.lies.rings) c.loop-q-test.false }
