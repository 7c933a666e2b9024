-- What is left to show of `meets::two_meet`.
use native.Mathlib.Omega.{arith}
use Prim.Native.Nat.{◌+◌}
use mathlib.Core.Path.{◌∙◌, sym}
use Rattle.holes.specs.Holes.{meet}
use Rattle.holes.specs.held.Rings.{spots_at}
use Rattle.holes.specs.laws.Tables.{rings-from}
use Rattle.holes.specs.laws.Passes.{rests-all, rests-here, rests-next, rests-last}
use Rattle.holes.proofs.meets.two_meet.Goals as goal

pub loop-p-init : goal.loop-p-init
loop-p-init c = rests-all _ _ _ _

pub meets_later-requires : goal.meets_later-requires
meets_later-requires c = let l = c.loop-p in
    (c.requires.rings.each l.p (omega arith) (omega arith), rings-from c.requires.rings (l.p + 1) (omega (arith, l.invariant.low)))

pub returns-then-meets_later : goal.returns-then-meets_later
returns-then-meets_later c = let a = c.args in
    let l = c.loop-p in
    rests-here (spots_at a.points.now.flat a.plane.u a.plane.v a.rings.now.entries a.rings.now.starts) meet a.from a.to l.invariant (omega arith) (sym c.meets_later.ensures ∙ c.if-meets_later.true)

pub loop-p-preserved : goal.loop-p-preserved
loop-p-preserved c = let a = c.args in
    let l = c.loop-p in
    rests-next (spots_at a.points.now.flat a.plane.u a.plane.v a.rings.now.entries a.rings.now.starts) meet a.from a.to l.invariant (omega arith) (sym c.meets_later.ensures ∙ c.if-meets_later.false)

pub returns : goal.returns
returns c = let a = c.args in
    let l = c.loop-p in
    let some = c.requires.some in
    rests-last (spots_at a.points.now.flat a.plane.u a.plane.v a.rings.now.entries a.rings.now.starts) meet a.from a.to l.invariant (omega (arith, some)) (omega (arith, some))
