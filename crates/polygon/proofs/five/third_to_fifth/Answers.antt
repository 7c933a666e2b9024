-- `polygon::five::third_to_fifth` meets its contract. Each return is the row of the table whose test holds where no earlier one does.
use native.Mathlib.Omega.{arith}
use mathlib.Core.Path.{◌≡◌, ◌∙◌, sym, ap}
use mathlib.Core.Bool.{false}
use Rattle.space.specs.laws.Sizes.{near_same}
use Rattle.normal.specs.laws.Sizes.{normal-near}
use Rattle.space.specs.held.Points.{points_of, Near, as_point}
use Rattle.ring.specs.Entries.{is_repeated}
use Rattle.normal.specs.Normal.{normal, is_zero_of}
use Rattle.polygon.specs.Ring.{edges_in}
use Rattle.crossing.specs.Crossed.{crossed_at}
use Rattle.plane.specs.Plane.{largest_axis_of}
use Rattle.space.specs.Space.{places}
use Rattle.space.specs.declared.Axis.{Axis}
use Rattle.polygon.proofs.Order.{found-repeated, found-no-normal, found-crossed, found_none, single_is, uncrossed_is}
use Rattle.polygon.proofs.five.third_to_fifth.Goals as goal
use Rattle.polygon.proofs.five.third_to_fifth.Goals.{After-is_zero, After-largest_axis, Else-is_zero, In_default, Start}

near : (c : Start) → Near 10160000000000 (as_point c.args.n)
near c = near_same c.requires.n_value (normal-near c.args.points.now.coords c.requires.known)

-- ---- what each check told
single : (c : In_default) → is_repeated c.args.ring.now ≡ false
single c = single_is (points_of c.args.points.now.flat) c.args.ring.now c.in_default.ensures.first (omega arith)

zero_is : (c : After-is_zero) → is_zero_of (normal ((places (points_of c.args.points.now.flat) c.args.ring.now))) ≡ c.is_zero.result
zero_is c = ap is_zero_of (sym c.requires.n_value) ∙ sym c.is_zero.ensures

some : (c : Else-is_zero) → is_zero_of (normal ((places (points_of c.args.points.now.flat) c.args.ring.now))) ≡ false
some c = ap is_zero_of (sym c.requires.n_value) ∙ sym c.is_zero.ensures ∙ c.if-is_zero.false

-- ---- the plane is that of the ring's own normal
axis_is : (c : After-largest_axis) → let s = places (points_of c.args.points.now.flat) c.args.ring.now in crossed_at (edges_in c.largest_axis.result s) ≡ crossed_at (edges_in (largest_axis_of (normal s)) s)
axis_is c = ap (λ (x : Axis). crossed_at (edges_in x (places (points_of c.args.points.now.flat) c.args.ring.now))) (c.largest_axis.ensures ∙ ap largest_axis_of c.requires.n_value)

pub returns-in-Some : goal.returns-in-Some
returns-in-Some c = let h = c.requires.in_bounds in
    found-repeated (points_of c.args.points.now.flat) c.args.ring.now h.0 h.1 c.in-Some.ensures.first (omega (arith, c.in-Some.ensures.few))

pub is_zero-requires : goal.is_zero-requires
is_zero-requires c = near ((goal.at.is_zero-requires c).Start)

pub returns-then-is_zero : goal.returns-then-is_zero
returns-then-is_zero c = let h = c.requires.in_bounds in
    found-no-normal (points_of c.args.points.now.flat) c.args.ring.now h.0 h.1 (single ((goal.at.returns-then-is_zero c).In_default)) (zero_is ((goal.at.returns-then-is_zero c).After-is_zero) ∙ c.if-is_zero.true)

pub largest_axis-requires : goal.largest_axis-requires
largest_axis-requires c = near ((goal.at.largest_axis-requires c).Start)

pub returns-in-Some-first_crossed : goal.returns-in-Some-first_crossed
returns-in-Some-first_crossed c = let h = c.requires.in_bounds in
    let at = goal.at.returns-in-Some-first_crossed c in
    let e = c.in-Some-first_crossed.ensures in
    found-crossed (points_of c.args.points.now.flat) c.args.ring.now h.0 h.1 (single at.In_default) (some at.Else-is_zero) (e.first ∙ axis_is at.After-largest_axis) e.few

pub returns : goal.returns
returns c = let h = c.requires.in_bounds in
    let at = goal.at.returns c in
    let e = c.in_default-first_crossed.ensures.first ∙ axis_is at.After-largest_axis in
    found_none (points_of c.args.points.now.flat) c.args.ring.now h.0 h.1 (single at.In_default) (some at.Else-is_zero) (uncrossed_is (points_of c.args.points.now.flat) c.args.ring.now e (omega arith))
