-- The bucket of a place.
use Rattle.std.specs.Prelude.{ℕ, ◌+◌, ◌*◌, ◌/◌, ◌%◌, ℤ, pos, nat_abs, ◌+ℤ◌}
use Rattle.space.specs.Space.{Point}

-- a coordinate, from its bound on
unfoldable pub lift : ℤ → ℕ
lift z = nat_abs (z +ℤ pos 100000)

-- the bucket of a place: a number below 512 that the place alone tells
unfoldable pub bucket_of : Point → ℕ
bucket_of p = (lift p.x * 2654435761 + lift p.y * 2246822519 + lift p.z * 3266489917) / 4194304 % 512
