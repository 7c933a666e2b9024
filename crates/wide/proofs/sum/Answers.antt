-- `wide::sum` meets its contract. The high words fit with the carry, which is one just where the low words do not fit.
use Rattle.std.specs.Prelude.{◌≡◌, ◌+◌, ◌^◌, ◌<◌, ℕ, Bool, true, false}
use Rattle.std.specs.Bool.{FalseIff}
use Rattle.std.proofs.Common.{rules, arith, add-zero}
use mir.Val.{bool_byte}
use Rattle.wide.specs.declared.Wide.{Wide}
use Rattle.wide.specs.Value.{value}
use Rattle.wide.specs.laws.Order.{high_below, carried_below}
use Rattle.wide.proofs.sum.Goals as goal

-- the sum of the high words and r, which is 1 where the low words carry and else 0
with_carry : {r : ℕ} (carried : Bool) (a b : Wide) → FalseIff carried (a.low + b.low < 2 ^ 64) → r ≡ bool_byte carried → value a + value b < 2 ^ 128 → a.high + b.high + r < 2 ^ 64
with_carry true a b f e h = rw e (carried_below (2 ^ 64) a.high a.low b.high b.low (omega (arith, f)) h)
with_carry false a b f e h = rw (e, add-zero (a.high + b.high)) (high_below (2 ^ 64) a.high a.low b.high b.low h)

pub overflow_add-high-2 : goal.overflow_add-high-2
overflow_add-high-2 c = let low = c.overflowing_add-low in record { fits = with_carry low.result.1 c.args.a c.args.b low.ensures.overflow (search rules) c.requires }
