-- The rows of the verdict that turns do not change.
use Rattle.std.specs.Prelude.{ℕ, ◌≡◌, refl, Bool, List, [], ◌∷◌, ltb, length}
use Rattle.std.proofs.Math.Option.{Option, map}
use Rattle.whole.specs.Lists.{given, first}
use Rattle.shell.specs.declared.Shape.{Shape}
use Rattle.shell.specs.declared.Shape.TheVariants.{Whole, Few, Once, Often, Apart, Unlinked}
use Rattle.ring.specs.Polygon.{Polygon, all_rings}
use Rattle.edges.specs.Edges.{used_once, used_often}
use Rattle.shell.specs.Shell.{by_ends, not_reached, not_linked}
use Rattle.shell.specs.held.Kept.{fixed_shape}

-- the rows, by what the checks found
unfoldable pub fixed_by : Bool → ℕ → Option ℕ → Option ℕ → Option ℕ → Option ℕ → Shape
fixed_by b n o p q r = first Whole (given b (Few n) ∷ map (by_ends Once) o ∷ map (by_ends Often) p ∷ map Apart q ∷ map Unlinked r ∷ [])

pub fixed_by_lem : (ps : List Polygon) → fixed_shape ps ≡ fixed_by (ltb (length ps) 4) (length ps) (used_once (all_rings ps)) (used_often (all_rings ps)) (not_reached ps) (not_linked ps)
unfolding fixed_shape fixed_by
fixed_by_lem ps = refl
