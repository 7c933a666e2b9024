-- What is left to show of `part_of`.
use native.Mathlib.Omega.{arith}
use mir.Syntax.{w64}
use lib.ListN.{length}
use Rattle.std.proofs.Common.{rules, ◌≤◌}
use Rattle.whole.specs.laws.Sum.{acc_end}
use Rattle.whole.specs.laws.Mach.{asks}
use Rattle.whole.specs.laws.Solve.{v, ◌⊕◌}
use Rattle.space.specs.held.Points.{points_of}
use Rattle.space.specs.laws.Sums.{rest_known, two, turn}
use Rattle.volume.specs.laws.Sums.{part_more, part_none, part_first}
use Rattle.volume.proofs.part_of.Goals as goal

pub returns-then-is_empty : goal.returns-then-is_empty
returns-then-is_empty c = part_none (points_of c.args.points.now.flat) c.args.ring.now (search rules)

pub loop-next-init : goal.loop-next-init
loop-next-init c = let l : 1 ≤ length c.args.ring.now = search rules in
    (c.requires.each 0 (omega arith), part_first (points_of c.args.points.now.flat) c.args.ring.now l)

pub overflow_add-sum : goal.overflow_add-sum
overflow_add-sum c = let l = c.loop-next in
    let k = rest_known c.requires in
    let s = part_more c.args.points.now.coords (c.requires.each 0 (omega arith)) l.invariant.0 (k.each l.next-index c.loop-next-test.true) c.determinant_of-sum.ensures in
    asks w64 (two l.sum-bits tt l.invariant.1 (omega (arith, k.few)) s.1) (v 0 ⊕ v 1) tt

pub loop-next-preserved : goal.loop-next-preserved
loop-next-preserved c = let l = c.loop-next in
    let k = rest_known c.requires in
    let next-known = k.each l.next-index c.loop-next-test.true in
    let s = part_more c.args.points.now.coords (c.requires.each 0 (omega arith)) l.invariant.0 next-known c.determinant_of-sum.ensures in
    (next-known, turn l.sum-bits tt tt l.invariant.1 c.loop-next-test.true k.few _ s.0 s.1)

pub returns : goal.returns
returns c = acc_end c.loop-next.invariant.1 (omega arith)
