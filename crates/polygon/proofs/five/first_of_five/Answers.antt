-- `polygon::five::first_of_five` meets its contract. A ring that passes 01 and 02 is told by the law of three corners, or from 03 on.
use mathlib.Core.Bool.{not}
use native.Mathlib.Omega.{arith}
use mathlib.Core.Path.{◌≡◌, ◌∙◌, sym, ap}
use mathlib.Core.Bool.{false}
use Prim.Native.Nat.{◌≤◌}
use lib.ListN.{length}
use Rattle.space.specs.laws.Sizes.{near_same}
use Rattle.normal.specs.laws.Sizes.{normal-near}
use Rattle.space.specs.held.Points.{points_of, Near, as_point}
use Rattle.ring.specs.Entries.{is_unclosed}
use Rattle.normal.specs.Normal.{normal, is_zero_of}
use Rattle.space.specs.Space.{places}
use Rattle.ring.specs.laws.Rings.{unclosed_is}
use Rattle.polygon.proofs.Order.{found_short, found-unclosed, found-triangle}
use Rattle.polygon.proofs.five.first_of_five.Goals as goal
use Rattle.polygon.proofs.five.first_of_five.Goals.{Else-not-is_closed, Else-ring-lt4, Start, Then-not-is_zero}

near : (c : Start) → Near 10160000000000 (as_point c.args.n)
near c = near_same c.requires.n_value (normal-near c.args.points.now.coords c.requires.known)

-- ---- what each check told
long : (c : Else-ring-lt4) → 4 ≤ length c.args.ring.now
long c = omega (arith, c.if-ring-lt4.false)

closed : (c : Else-not-is_closed) → is_unclosed c.args.ring.now ≡ false
closed c = unclosed_is c.is_closed.ensures (ap not c.if-not-is_closed.false)

some : (c : Then-not-is_zero) → is_zero_of (normal ((places (points_of c.args.points.now.flat) c.args.ring.now))) ≡ false
some c = ap is_zero_of (sym c.requires.n_value) ∙ sym c.is_zero.ensures ∙ c.if-not-is_zero.true

-- ---- the needs
pub returns-then-ring-lt4 : goal.returns-then-ring-lt4
returns-then-ring-lt4 c = found_short (points_of c.args.points.now.flat) c.args.ring.now c.if-ring-lt4.true

pub returns-then-not-is_closed : goal.returns-then-not-is_closed
returns-then-not-is_closed c = found-unclosed (points_of c.args.points.now.flat) c.args.ring.now (long ((goal.at.returns-then-not-is_closed c).Else-ring-lt4)) (unclosed_is c.is_closed.ensures (ap not c.if-not-is_closed.true))

pub is_zero-requires : goal.is_zero-requires
is_zero-requires c = near ((goal.at.is_zero-requires c).Start)

pub returns-then-not-is_zero : goal.returns-then-not-is_zero
returns-then-not-is_zero c = found-triangle (points_of c.args.points.now.flat) c.args.ring.now (long ((goal.at.returns-then-not-is_zero c).Else-ring-lt4)) (closed ((goal.at.returns-then-not-is_zero c).Else-not-is_closed)) c.if-ring-eq4.true (some c)

pub fan_first-requires : goal.fan_first-requires
fan_first-requires c = record { known = c.requires.known; in_bounds = (long ((goal.at.fan_first-requires c).Else-ring-lt4), closed ((goal.at.fan_first-requires c).Else-not-is_closed)); n_value = c.requires.n_value }
