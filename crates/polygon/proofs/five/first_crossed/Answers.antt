-- `polygon::five::first_crossed` meets its contract.
use mathlib.Core.Path.{◌∙◌, ap}
use Rattle.space.specs.declared.Axis.{Axis}
use Rattle.space.specs.Space.{places}
use Rattle.space.specs.held.Points.{points_of}
use Rattle.space.specs.laws.Sizes.{near_same}
use Rattle.normal.specs.laws.Sizes.{normal-near}
use Rattle.plane.specs.Plane.{largest_axis_of}
use Rattle.crossing.specs.Crossed.{crossed_at}
use Rattle.polygon.specs.Ring.{edges_in}
use Rattle.polygon.proofs.five.first_crossed.Goals as goal

pub largest_axis-requires : goal.largest_axis-requires
largest_axis-requires c = near_same c.normal-n.ensures (normal-near c.args.points.now.coords c.requires.known)

pub returns-clause-first : goal.returns-clause-first
returns-clause-first c = let a = c.args in
    c.first_crossed.ensures.first ∙ ap (λ (x : Axis). crossed_at (edges_in x (places (points_of a.points.now.flat) a.ring.now))) (c.largest_axis.ensures ∙ ap largest_axis_of c.normal-n.ensures)
