-- Points in space, exact: the sums, products and the determinant of which document 01 speaks in checks 04 to 06 and of the six-volume.
use Rattle.std.specs.Prelude.{ℕ, Bool, ◌&&◌, List, map, get_or, ℤ, pos, ◌+ℤ◌, ◌-ℤ◌, ◌*ℤ◌}
use Rattle.whole.specs.Lists.{same_z}

-- a place, or the way from one place to another
pub record Point : Type 0 where
  pub x : ℤ
  pub y : ℤ
  pub z : ℤ

-- zero in all three components
unfoldable pub origin : Point
origin = record { x = pos 0; y = pos 0; z = pos 0 }

-- the sum of two
unfoldable pub plus : Point → Point → Point
plus p q = record { x = p.x +ℤ q.x; y = p.y +ℤ q.y; z = p.z +ℤ q.z }

-- q relative to p
unfoldable pub relative_to : Point → Point → Point
relative_to p q = record { x = q.x -ℤ p.x; y = q.y -ℤ p.y; z = q.z -ℤ p.z }

-- the cross product
unfoldable pub cross : Point → Point → Point
cross p q = record {
  x = p.y *ℤ q.z -ℤ p.z *ℤ q.y;
  y = p.z *ℤ q.x -ℤ p.x *ℤ q.z;
  z = p.x *ℤ q.y -ℤ p.y *ℤ q.x;
}

-- N·p
unfoldable pub dot : Point → Point → ℤ
dot p q = p.x *ℤ q.x +ℤ p.y *ℤ q.y +ℤ p.z *ℤ q.z

-- "the determinant of first, p, q, the three points taken as three rows of three numbers"
unfoldable pub determinant : Point → Point → Point → ℤ
determinant a b c =
    a.x *ℤ (b.y *ℤ c.z -ℤ b.z *ℤ c.y)
    -ℤ a.y *ℤ (b.x *ℤ c.z -ℤ b.z *ℤ c.x)
    +ℤ a.z *ℤ (b.x *ℤ c.y -ℤ b.y *ℤ c.x)

-- whether two points are one place
unfoldable pub same_place_of : Point → Point → Bool
same_place_of p q = same_z p.x q.x && same_z p.y q.y && same_z p.z q.z

-- where the points of a ring stand
unfoldable pub places : List Point → List ℕ → List Point
places points ring = map (λ n. get_or points n origin) ring

unfoldable pub space_computes : Unit {0}
unfolding origin plus relative_to cross dot determinant same_place_of places
space_computes = tt
