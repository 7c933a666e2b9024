-- `polygon::position_of` meets its contract. The number tells which check is met.
use Prim.Native.Nat.{◌≤◌}
use native.Mathlib.Omega.{arith}
use mathlib.Core.Path.{◌≡◌, sym, ap, ◌∙◌}
use mathlib.Core.Bool.{true}
use lib.ListN.{length}
use Rattle.space.specs.laws.Sizes.{near_same}
use Rattle.space.specs.held.Points.{points_of}
use Rattle.space.specs.Space.{Point, places}
use Rattle.space.specs.declared.Axis.{Axis}
use Rattle.normal.specs.laws.Sizes.{normal-near}
use Rattle.plane.specs.Plane.{largest_axis_of}
use Rattle.crossing.specs.Crossed.{crossed_at}
use Rattle.even.specs.Even.{uneven_at}
use Rattle.polygon.specs.Ring.{finding, finding_number_of, edges_in}
use Rattle.polygon.specs.held.Position.{has_position_of}
use Rattle.polygon.specs.laws.Position.{position-03, position-05, position_06, position_long}
use Rattle.polygon.proofs.position_of.Goals as goal
use Rattle.polygon.proofs.position_of.Goals.{Start}

known : (c : Start) → let f = finding c.args.tolerance (points_of c.args.points.now.flat) c.args.ring.now in (c.args.number ≡ finding_number_of f) × (has_position_of f ≡ true)
known c = c.requires.number_value

some : (c : Start) → 1 ≤ length c.args.ring.now
some c = omega (arith, position_long c.args.tolerance (points_of c.args.points.now.flat) c.args.ring.now (known c).1)

pub returns-then-number-eq3 : goal.returns-then-number-eq3
returns-then-number-eq3 c = c.unwrap_or.ensures ∙ c.first_repeated.ensures.first ∙ sym (position-03 c.args.tolerance (points_of c.args.points.now.flat) c.args.ring.now (known ((goal.at.returns-then-number-eq3 c).Start)).0 c.if-number-eq3.true)

pub normal-n-requires : goal.normal-n-requires
normal-n-requires c = record { known = c.requires.known; in_bounds = some ((goal.at.normal-n-requires c).Start) }

pub largest_axis-axis-requires : goal.largest_axis-axis-requires
largest_axis-axis-requires c = near_same c.normal-n.ensures (normal-near c.args.points.now.coords c.requires.known)

pub first_crossed-requires : goal.first_crossed-requires
first_crossed-requires c = record { known = c.requires.known; in_bounds = some ((goal.at.first_crossed-requires c).Start) }

pub returns-then-number-eq5 : goal.returns-then-number-eq5
returns-then-number-eq5 c = c.unwrap_or-then-number-eq5.ensures ∙ c.first_crossed.ensures.first
    ∙ ap (λ (x : Axis). crossed_at (edges_in x ((places (points_of c.args.points.now.flat) c.args.ring.now)))) (c.largest_axis-axis.ensures ∙ ap largest_axis_of c.normal-n.ensures)
    ∙ sym (position-05 c.args.tolerance (points_of c.args.points.now.flat) c.args.ring.now (known ((goal.at.returns-then-number-eq5 c).Start)).0 c.if-number-eq5.true)

pub first_uneven-requires : goal.first_uneven-requires
first_uneven-requires c = record { listed = record { each = c.requires.known.each }; in_bounds = (some ((goal.at.first_uneven-requires c).Start), c.requires.tolerance_bound); near = near_same c.normal-n.ensures (normal-near c.args.points.now.coords c.requires.known) }

pub returns : goal.returns
returns c = c.unwrap_or-2.ensures ∙ c.first_uneven.ensures.first
    ∙ ap (λ (n : Point). uneven_at c.args.tolerance n ((places (points_of c.args.points.now.flat) c.args.ring.now))) c.normal-n.ensures
    ∙ sym (position_06 c.args.tolerance (points_of c.args.points.now.flat) c.args.ring.now (known ((goal.at.returns c).Start)).0 (known ((goal.at.returns c).Start)).1 c.if-number-eq3.false c.if-number-eq5.false)

pub overflow_sub-ring : goal.overflow_sub-ring
overflow_sub-ring c = some ((goal.at.overflow_sub-ring c).Start)

pub overflow_sub-ring-then-number-eq5 : goal.overflow_sub-ring-then-number-eq5
overflow_sub-ring-then-number-eq5 c = some ((goal.at.overflow_sub-ring-then-number-eq5 c).Start)
