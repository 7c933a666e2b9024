-- `wide::squares` meets its contract. Three squares of words below 2^63 stay below 2^128.
use Rattle.std.specs.Prelude.{◌≡◌, ◌*◌, ◌^◌, ◌<◌, ◌≤◌, ℕ}
use Rattle.std.proofs.Common.{arith, le_trans, le_of_eq, add-le-add, mul-le-mul}
use Rattle.wide.specs.laws.Order.{room}
use Rattle.wide.proofs.squares.Goals as goal

-- the product of two words below 2^63
product_within : {r x y : ℕ} → r ≡ x * y → x < 2 ^ 63 → y < 2 ^ 63 → r ≤ 9223372036854775807 * 9223372036854775807
product_within e h l = le_trans (le_of_eq e) (mul-le-mul {n₂ = 9223372036854775807} {m₂ = 9223372036854775807} (omega arith) (omega arith))

pub sum-requires : goal.sum-requires
sum-requires c = room _ _ (product_within c.product.ensures (omega arith) (omega arith)) (product_within c.product-2.ensures (omega arith) (omega arith)) tt

pub sum-requires-2 : goal.sum-requires-2
sum-requires-2 c =
    room _ _
    (le_trans (le_of_eq c.sum.ensures) (add-le-add (product_within c.product.ensures (omega arith) (omega arith)) (product_within c.product-2.ensures (omega arith) (omega arith))))
    (product_within c.product-3.ensures (omega arith) (omega arith))
    tt
