-- `polygon::five::one_by_one` meets its contract. As `first_of_five`, without what is told beforehand.
use mathlib.Core.Path.{ap}
use mathlib.Core.Bool.{not}
use native.Mathlib.Omega.{arith}
use mathlib.Core.Path.{◌≡◌}
use mathlib.Core.Bool.{false}
use Prim.Native.Nat.{◌≤◌}
use lib.ListN.{length}
use Rattle.space.specs.held.Points.{points_of}
use Rattle.ring.specs.Entries.{is_unclosed}
use Rattle.ring.specs.laws.Rings.{unclosed_is}
use Rattle.polygon.proofs.Order.{found_short, found-unclosed}
use Rattle.polygon.proofs.five.one_by_one.Goals as goal
use Rattle.polygon.proofs.five.one_by_one.Goals.{Else-not-is_closed, Else-ring-lt4}

long : (c : Else-ring-lt4) → 4 ≤ length c.args.ring.now
long c = omega (arith, c.if-ring-lt4.false)

closed : (c : Else-not-is_closed) → is_unclosed c.args.ring.now ≡ false
closed c = unclosed_is c.is_closed.ensures (ap not c.if-not-is_closed.false)

pub returns-then-ring-lt4 : goal.returns-then-ring-lt4
returns-then-ring-lt4 c = found_short (points_of c.args.points.now.flat) c.args.ring.now c.if-ring-lt4.true

pub returns-then-not-is_closed : goal.returns-then-not-is_closed
returns-then-not-is_closed c = found-unclosed (points_of c.args.points.now.flat) c.args.ring.now (long ((goal.at.returns-then-not-is_closed c).Else-ring-lt4)) (unclosed_is c.is_closed.ensures (ap not c.if-not-is_closed.true))

pub third_to_fifth-requires : goal.third_to_fifth-requires
third_to_fifth-requires c = record { known = c.requires.known; in_bounds = (long ((goal.at.third_to_fifth-requires c).Else-ring-lt4), closed c); n_value = c.requires.n_value }
