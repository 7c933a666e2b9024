-- What is left to show of `inside`.
use native.Mathlib.Omega.{arith}
use borrow.Author.Rules.{rules}
use mathlib.Core.Path.{◌≡◌, ◌∙◌, ap}
use lib.ListN.{length}
use Rattle.plane.specs.Plane.{Segment}
use Rattle.plane.specs.held.Edges.{as_spot}
use Rattle.rays.specs.Inside.{crosses}
use Rattle.fan.specs.held.Fan.{spot_in}
use Rattle.rays.proofs.laws.Counted.{counted_none, counted_more, counted-all, no_edges}
use Rattle.rays.proofs.inside.Goals as goal

pub returns-then-is_empty : goal.returns-then-is_empty
returns-then-is_empty c = let a = c.args in
    no_edges (as_spot a.q) (spot_in a.points.now.flat a.plane.u a.plane.v) a.ring.now (let e : length a.ring.now ≡ 0 = search rules in e)

pub loop-i-init : goal.loop-i-init
loop-i-init c = let a = c.args in
    counted_none _ (spot_in a.points.now.flat a.plane.u a.plane.v) a.ring.now

pub loop-i-preserved : goal.loop-i-preserved
loop-i-preserved c = let l = c.loop-i in
    let a = c.args in
    counted_more _ (spot_in a.points.now.flat a.plane.u a.plane.v) a.ring.now c.crosses-c.result l.invariant (omega arith) (c.crosses-c.ensures ∙ ap (λ (e : Segment). crosses (as_spot a.q) e) c.edge.ensures.places)

pub returns : goal.returns
returns c = let a = c.args in
    counted-all _ (spot_in a.points.now.flat a.plane.u a.plane.v) a.ring.now c.loop-i.invariant (omega arith)
