-- 0F by one corner a ring, here the first.
use Rattle.std.specs.Prelude.{Bool, get_or}
use Rattle.std.proofs.Math.Bool.{◌||◌}
use mathlib.Core.List.{List}
use Rattle.whole.specs.Lists.{steps}
use Rattle.plane.specs.Plane.{Spot}
use Rattle.rays.specs.Inside.{inside}

module _ (d : Spot) where
  -- the first corner of r is inside s
  abbrev pub stands : List Spot → List Spot → Bool
  stands r s = inside (get_or r 0 d) (steps s)

  abbrev pub nested : List Spot → List Spot → Bool
  nested r s = stands r s || stands s r
