-- What looking at a polygon anew writes: its finding, and its part.
use Rattle.std.specs.Prelude.{ℕ, ◌≡◌, List, set, ℤ}
use Rattle.inner.specs.Finding.{finding, part}
use Rattle.space.specs.held.Points.{points_of}
use Rattle.ring.specs.held.Rings.{polygon_at}
use Rattle.polygon.specs.held.Findings.{kept_finding}

-- polygon p's finding as it is kept, and its part
abbrev pub kept_at : ℕ → List ℤ → List ℕ → List ℕ → List ℕ → ℕ → ℕ
kept_at tolerance points entries starts firsts p = kept_finding (finding tolerance (points_of points) (polygon_at entries starts firsts p))

abbrev pub part_at : List ℤ → List ℕ → List ℕ → List ℕ → ℕ → ℤ
part_at points entries starts firsts p = part (points_of points) (polygon_at entries starts firsts p)

-- finding and part of polygon p, anew
pub record Refreshed (tolerance : ℕ) (points : List ℤ) (entries starts firsts : List ℕ) (p : ℕ) (findings : List ℕ) (parts : List ℤ) (findings' : List ℕ) (parts' : List ℤ) : Type 0 where
  pub found : findings' ≡ set findings p (kept_at tolerance points entries starts firsts p)
  pub summed : parts' ≡ set parts p (part_at points entries starts firsts p)
