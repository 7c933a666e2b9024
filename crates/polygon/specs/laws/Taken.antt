-- Points past those that a ring lists tell nothing of it.
use Rattle.std.specs.Prelude.{ℕ, ◌<◌, ◌≡◌, List, length, get_or, take}
use Rattle.std.proofs.Common.{get_or-take}
use Rattle.space.specs.Space.{Point, origin, places}
use Rattle.polygon.specs.Ring.{ring_rows, finding}
use Rattle.volume.specs.Part.{part}
use Rattle.space.specs.laws.Points.{places_same}

module _ (points : List Point) (n : ℕ) (ring : List ℕ) (below : (i : ℕ) → i < length ring → get_or ring i 0 < n) where
  places-take : places (take n points) ring ≡ places points ring
  places-take = places_same (take n points) points ring (λ i h. get_or-take n points (get_or ring i 0) origin (below i h))

  pub finding-take : (tolerance : ℕ) → finding tolerance (take n points) ring ≡ finding tolerance points ring
  unfolding ring_rows finding
  finding-take tolerance = rw places-take

  pub part-take : part (take n points) ring ≡ part points ring
  unfolding part
  part-take = rw places-take
