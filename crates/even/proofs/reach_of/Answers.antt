-- `even::reach_of` meets its contract. The product of the tolerance and the largest size fits.
use Prim.Native.Nat.{ℕ, ◌*◌}
use native.Mathlib.Omega.{arith}
use mathlib.Core.Path.{ap}
use Rattle.even.proofs.Scaled.{largest_is, largest_small}
use Rattle.even.proofs.reach_of.Goals as goal

pub overflow_mul-result : goal.overflow_mul-result
overflow_mul-result c = omega (arith, largest_small c.requires.near c.size-a.ensures c.size-b.ensures c.size-c.ensures c.max.ensures c.max-2.ensures c.requires.tolerance_bound)

pub returns : goal.returns
returns c = ap (λ (m : ℕ). c.args.tolerance * m) (largest_is c.requires.near c.size-a.ensures c.size-b.ensures c.size-c.ensures c.max.ensures c.max-2.ensures)
