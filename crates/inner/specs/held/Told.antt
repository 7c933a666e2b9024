-- What code keeps of the rings that it has looked at.
use Rattle.std.specs.Prelude.{ℕ, ◌≡◌, cond, List, eqb}
use Rattle.space.specs.Space.{Point, places}
use Rattle.plane.specs.Plane.{largest_axis_of}
use Rattle.ring.specs.Entries.{repeated_at}
use Rattle.normal.specs.Normal.{normal}
use Rattle.crossing.specs.Crossed.{crossed_at}
use Rattle.polygon.specs.declared.Finding.{Finding}
use Rattle.polygon.specs.declared.Finding.TheVariants.{Sound}
use Rattle.polygon.specs.Ring.{edges_in}
use Rattle.inner.specs.Finding.{later}

-- r is what is told where `found` was before, and a ring of its own finding `own` has so many entries before it
pub record Told (found own : Finding) (before : ℕ) (r : Finding) : Type 0 where
  pub had : (found ≡ Sound → ⊥) → r ≡ found
  pub new : found ≡ Sound → r ≡ later before own

-- where in a ring the check of a number is met: 03, or else 05
unfoldable pub met_at : ℕ → List Point → List ℕ → ℕ
met_at number points ring = let ps = places points ring in cond (eqb number 3) (repeated_at ring) (crossed_at (edges_in (largest_axis_of (normal ps)) ps))
