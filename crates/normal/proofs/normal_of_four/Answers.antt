-- `normal::normal_of_four` meets its contract. Either cross product is small enough for their sum.
use mathlib.Core.Path.{◌∙◌, ap₂}
use native.Mathlib.Omega.{arith}
use Rattle.space.specs.laws.Sizes.{near_more, near-place, near-way, near_same}
use Rattle.normal.specs.laws.Sizes.{near-cross}
use Rattle.space.specs.Space.{plus}
use Rattle.normal.proofs.normal_of_four.Goals as goal

pub plus-requires : goal.plus-requires
plus-requires c = let h = c.args.points.now.coords in
    (near_more (omega arith) (near_same c.normal_of_three.ensures (near-cross (near-way (near-place h _) (near-place h _)) (near-way (near-place h _) (near-place h _)))), near_same c.normal_of_three-2.ensures (near-cross (near-way (near-place h _) (near-place h _)) (near-way (near-place h _) (near-place h _))))

pub returns : goal.returns
returns c = c.plus.ensures ∙ ap₂ plus c.normal_of_three.ensures c.normal_of_three-2.ensures
