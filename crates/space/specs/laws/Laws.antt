-- Whether two points are one place, either way about.
use Rattle.std.specs.Prelude.{◌≡◌}
use Rattle.whole.specs.laws.Same.{same_z-sym}
use Rattle.space.specs.Space.{Point, same_place_of}

pub same_place-sym : (p q : Point) → same_place_of p q ≡ same_place_of q p
unfolding same_place_of
same_place-sym p q = rw (same_z-sym p.x q.x, same_z-sym p.y q.y, same_z-sym p.z q.z)
