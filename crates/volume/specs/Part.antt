-- A polygon's part of the six-volume.
use Rattle.std.specs.Prelude.{ℕ, List, [], ◌∷◌, ℤ, pos}
use Rattle.whole.specs.Lists.{steps, sum_of}
use Rattle.space.specs.Space.{Point, determinant, places}

-- "the sum, over consecutive entries p, q, of the determinant of first, p, q"
unfoldable pub part_about : List Point → ℤ
part_about [] = pos 0
part_about (a ∷ l) = sum_of (λ s. determinant a s.0 s.1) (steps (a ∷ l))

-- "a polygon's part" ("a ring of fewer than 3 entries has part 0" of itself)
unfoldable pub part : List Point → List ℕ → ℤ
part points ring = part_about (places points ring)

unfoldable pub part_computes : Unit {0}
unfolding part_about part
part_computes = tt
