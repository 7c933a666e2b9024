-- `polygon::columns::first_crossed` meets its contract. The plane keeps the two coordinates that the axis leaves.
use mathlib.Core.Path.{◌∙◌, ap₂}
use Prim.Native.Nat.{ℕ}
use Rattle.whole.specs.Lists.{steps}
use Rattle.crossing.specs.Crossed.{crossed_at}
use Rattle.polygon.specs.held.Columns.{seen_spots}
use Rattle.polygon.proofs.Filled.{in_plane}
use Rattle.polygon.proofs.columns.first_crossed.Goals as goal

pub returns-clause-first : goal.returns-clause-first
returns-clause-first c = let a = c.args in
    c.crossed_in.ensures.first
    ∙ ap₂ (λ (j k : ℕ). crossed_at (steps (seen_spots a.points.now.flat a.ring.now j k))) c.left_by.ensures.0 c.left_by.ensures.1
    ∙ in_plane a.points.now.coords c.requires.known a.axis
