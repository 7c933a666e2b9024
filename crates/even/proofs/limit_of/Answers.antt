-- `even::limit_of` meets its contract. Each component times the tolerance is below 2^54.
use native.Mathlib.Omega.{arith}
use Rattle.even.proofs.laws.Distance.{scaled}
use Rattle.space.specs.held.Points.{as_point}
use Rattle.space.specs.laws.Numbers.{size_is}
use Rattle.even.proofs.Scaled.{scaled_small}
use Rattle.even.proofs.limit_of.Goals as goal

pub overflow_mul-a : goal.overflow_mul-a
overflow_mul-a c = omega (arith, scaled_small c.requires.tolerance_bound c.requires.near.x c.size.ensures)

pub overflow_mul-b : goal.overflow_mul-b
overflow_mul-b c = omega (arith, scaled_small c.requires.tolerance_bound c.requires.near.y c.size-2.ensures)

pub overflow_mul-c : goal.overflow_mul-c
overflow_mul-c c = omega (arith, scaled_small c.requires.tolerance_bound c.requires.near.z c.size-3.ensures)

pub squares-requires : goal.squares-requires
squares-requires c = (
  omega (arith, scaled_small c.requires.tolerance_bound c.requires.near.x c.size.ensures),
  omega (arith, scaled_small c.requires.tolerance_bound c.requires.near.y c.size-2.ensures),
  omega (arith, scaled_small c.requires.tolerance_bound c.requires.near.z c.size-3.ensures),
)

pub returns : goal.returns
returns c = let h = c.requires.near in
    scaled c.args.tolerance (as_point c.args.n) (size_is h.x c.size.ensures) (size_is h.y c.size-2.ensures) (size_is h.z c.size-3.ensures) c.squares.ensures
