-- What is left to show of `meets::rings_meet`.
use native.Mathlib.Omega.{arith}
use mathlib.Core.Path.{◌∙◌, sym, ap}
use Rattle.whole.specs.Lists.{any, steps}
use Rattle.plane.specs.Plane.{Segment, share}
use Rattle.fan.specs.held.Fan.{spot_in}
use Rattle.rays.specs.held.Seen.{spots_in}
use Rattle.holes.specs.Holes.{meet}
use Rattle.holes.specs.laws.Passes.{left-all, left_here, left-next, left_end}
use Rattle.holes.proofs.meets.rings_meet.Goals as goal

pub loop-i-init : goal.loop-i-init
loop-i-init c = left-all _ _ _

pub edge_meets-requires : goal.edge_meets-requires
edge_meets-requires c = record { known = c.requires.known.1; ends = c.edge-e.ensures.ends; bounded = c.requires.bounded }

pub returns-then-edge_meets : goal.returns-then-edge_meets
unfolding meet
returns-then-edge_meets c = let a = c.args in
    left_here (λ e. any (share e) (steps (spots_in a.points.now.flat a.plane.u a.plane.v a.s.now))) (spot_in a.points.now.flat a.plane.u a.plane.v) a.r.now c.loop-i.invariant (omega arith) (ap (λ (e : Segment). any (share e) (steps (spots_in a.points.now.flat a.plane.u a.plane.v a.s.now))) (sym c.edge-e.ensures.places) ∙ sym c.edge_meets.ensures ∙ c.if-edge_meets.true)

pub loop-i-preserved : goal.loop-i-preserved
loop-i-preserved c = let a = c.args in
    left-next (λ e. any (share e) (steps (spots_in a.points.now.flat a.plane.u a.plane.v a.s.now))) (spot_in a.points.now.flat a.plane.u a.plane.v) a.r.now c.loop-i.invariant (omega arith) (ap (λ (e : Segment). any (share e) (steps (spots_in a.points.now.flat a.plane.u a.plane.v a.s.now))) (sym c.edge-e.ensures.places) ∙ sym c.edge_meets.ensures ∙ c.if-edge_meets.false)

pub returns : goal.returns
unfolding meet
returns c = let a = c.args in
    left_end (λ e. any (share e) (steps (spots_in a.points.now.flat a.plane.u a.plane.v a.s.now))) (spot_in a.points.now.flat a.plane.u a.plane.v) a.r.now c.loop-i.invariant (omega arith)
