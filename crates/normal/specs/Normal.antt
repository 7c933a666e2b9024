-- The normal N of a ring, for checks 04 to 06; check 04.
use Rattle.std.specs.Prelude.{Bool, ◌&&◌, pos}
use mathlib.Core.List.{List, [], ◌∷◌, map, foldr}
use Rattle.whole.specs.Lists.{steps, same_z}
use Rattle.space.specs.Space.{Point, origin, plus, relative_to, cross}

-- "Write the points relative to the ring's first point"
unfoldable pub relative : List Point → List Point
relative [] = []
relative (p ∷ l) = map (relative_to p) (p ∷ l)

-- "the normal N is the sum, over consecutive entries, of the cross product of the two"
unfoldable pub normal : List Point → Point
normal ps = foldr (λ s n. plus (cross s.0 s.1) n) origin (steps (relative ps))

-- 04: "N is zero in all three components"
unfoldable pub is_zero_of : Point → Bool
is_zero_of n = same_z n.x (pos 0) && same_z n.y (pos 0) && same_z n.z (pos 0)

unfoldable pub normal_computes : Unit {0}
unfolding relative normal is_zero_of
normal_computes = tt
