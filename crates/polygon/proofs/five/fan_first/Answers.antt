-- `polygon::five::fan_first` meets its contract. Where the places fan out, 03 and 05 do not fail.
use mathlib.Core.Path.{◌≡◌, ◌∙◌, sym, ap}
use mathlib.Core.Bool.{true, false}
use Prim.Native.Nat.{◌-◌}
use lib.ListN.{length, get_or}
use Rattle.space.specs.laws.Sizes.{near_same}
use Rattle.normal.specs.laws.Sizes.{normal-near}
use Rattle.space.specs.held.Points.{points_of, place_at, Near, as_point}
use Rattle.normal.specs.Normal.{normal, is_zero_of}
use Rattle.plane.specs.Plane.{largest_axis_of, drop_axis}
use Rattle.fan.specs.held.Fan.{is_fan_of}
use Rattle.space.specs.Space.{places}
use Rattle.space.specs.declared.Axis.{Axis}
use Rattle.polygon.proofs.Order.{found_none}
use Rattle.polygon.proofs.Fans.{fan-single, fan-uncrossed}
use Rattle.polygon.proofs.five.fan_first.Goals as goal
use Rattle.polygon.proofs.five.fan_first.Goals.{Else-is_zero, Start, Then-is_fan}

near : (c : Start) → Near 10160000000000 (as_point c.args.n)
near c = near_same c.requires.n_value (normal-near c.args.points.now.coords c.requires.known)

-- ---- what each check told
some : (c : Else-is_zero) → is_zero_of (normal ((places (points_of c.args.points.now.flat) c.args.ring.now))) ≡ false
some c = ap is_zero_of (sym c.requires.n_value) ∙ sym c.is_zero.ensures ∙ c.if-is_zero.false

fan : (c : Then-is_fan) → is_fan_of (λ i. drop_axis (largest_axis_of (normal ((places (points_of c.args.points.now.flat) c.args.ring.now)))) (place_at c.args.points.now.flat (get_or c.args.ring.now i 0))) (length c.args.ring.now - 3) ≡ true
fan c = ap (λ (x : Axis). is_fan_of (λ i. drop_axis x (place_at c.args.points.now.flat (get_or c.args.ring.now i 0))) (length c.args.ring.now - 3)) (sym (c.largest_axis.ensures ∙ ap largest_axis_of c.requires.n_value)) ∙ sym c.is_fan.ensures ∙ c.if-is_fan.true

-- ---- the needs
pub is_zero-requires : goal.is_zero-requires
is_zero-requires c = near ((goal.at.is_zero-requires c).Start)

pub largest_axis-requires : goal.largest_axis-requires
largest_axis-requires c = near ((goal.at.largest_axis-requires c).Start)

pub returns-then-is_fan : goal.returns-then-is_fan
returns-then-is_fan c = let h = c.requires.in_bounds in
    let x = largest_axis_of (normal ((places (points_of c.args.points.now.flat) c.args.ring.now))) in
    found_none (points_of c.args.points.now.flat) c.args.ring.now h.0 h.1 (fan-single c.args.points.now.coords c.requires.known h.0 h.1 x (fan c)) (some ((goal.at.returns-then-is_fan c).Else-is_zero)) (fan-uncrossed c.args.points.now.coords c.requires.known h.0 h.1 x (fan c))
