-- What is left to show of `normal`.
use native.Mathlib.Omega.{arith}
use borrow.Author.Rules.{rules}
use lib.ListN.{get_or}
use Rattle.whole.specs.laws.Sum.{acc_end}
use Rattle.space.specs.held.Points.{at, points_of}
use Rattle.space.specs.laws.Sums.{rest_known, rest}
use Rattle.space.specs.declared.Axis.TheVariants.{X, Y, Z}
use Rattle.normal.specs.laws.Sums.{normal_first, sum_near, sum_next, way-near, cross_more}
use Rattle.normal.proofs.normal.Goals as goal

pub loop-entry-init : goal.loop-entry-init
loop-entry-init c =
    record {
      last = get_or c.args.ring.now 0 0;
      known = c.requires.known.each 0 (omega arith);
      reached = c.toward-last.ensures;
      sums = λ axis. normal_first (points_of c.args.points.now.flat) c.args.ring.now axis c.requires.in_bounds;
    }

pub cross-c-requires : goal.cross-c-requires
cross-c-requires c = let h = c.args.points.now.coords in
    let last-near = way-near _ _ h c.loop-entry.invariant.reached in
    let next-near = way-near _ _ h c.toward-next.ensures in
    search rules

pub plus-sum-requires : goal.plus-sum-requires
plus-sum-requires c = let l = c.loop-entry in
    let w = l.invariant in
    let next-known = (rest_known c.requires.known).each l.entry-index c.loop-entry-test.true in
    let a = cross_more c.args.points.now.coords (c.requires.known.each 0 (omega arith)) w.known next-known w.reached c.toward-next.ensures c.cross-c.ensures in
    (sum_near w (omega (arith, c.requires.known.few)), record { x = (a X).1; y = (a Y).1; z = (a Z).1 })

pub loop-entry-preserved : goal.loop-entry-preserved
loop-entry-preserved c = let l = c.loop-entry in
    let w = l.invariant in
    let t = c.loop-entry-test.true in
    let next-known = (rest_known c.requires.known).each l.entry-index t in
    record {
      last = get_or (rest c.args.ring.now) l.entry-index 0;
      known = next-known;
      reached = c.toward-next.ensures;
      sums = λ axis.
          sum_next _ _ axis (w.sums axis) t
          (cross_more c.args.points.now.coords (c.requires.known.each 0 (omega arith)) w.known next-known w.reached c.toward-next.ensures c.cross-c.ensures axis)
          c.plus-sum.ensures;
    }

pub returns : goal.returns
returns c = let w = c.loop-entry.invariant in
    λ j. at (acc_end (w.sums X) (omega arith) j) (acc_end (w.sums Y) (omega arith) j) (acc_end (w.sums Z) (omega arith) j)
