-- Places inside rings and outside them, worked out.
use Rattle.std.specs.Prelude.{ℕ, ◌≡◌, refl, Bool, true, false, List, [], ◌∷◌, map, pos, negsuc}
use Rattle.whole.specs.Lists.{steps, lists_compute}
use Rattle.plane.specs.Plane.{Spot, plane_computes}
use Rattle.plane.specs.held.Edges.{spot}
use Rattle.rays.specs.Inside.{inside, inside_computes}

abbrev at : ℕ → ℕ → Spot
at u v = spot (pos u) (pos v)

abbrev told : List Spot → List Spot → List Bool
told ring places = map (λ q. inside q (steps ring)) places

-- a square: in its middle, beside it on either side, above and below, and at the height of its lower edge and of its upper one
abbrev square : List Spot
square = at 0 0 ∷ at 10 0 ∷ at 10 10 ∷ at 0 10 ∷ at 0 0 ∷ []

pub of-square : told square (at 5 5 ∷ at 15 5 ∷ spot (negsuc 4) (pos 5) ∷ at 5 15 ∷ spot (pos 5) (negsuc 4) ∷ at 15 0 ∷ spot (negsuc 4) (pos 0) ∷ at 15 10 ∷ spot (negsuc 4) (pos 10) ∷ [])
    ≡ true ∷ false ∷ false ∷ false ∷ false ∷ false ∷ false ∷ false ∷ false ∷ []
unfolding lists_compute plane_computes inside_computes
of-square = refl

-- a square on its corner, whose corners are at the heights of the places: within, to the left, to the right, left of the lowest and of the highest corner
abbrev diamond : List Spot
diamond = at 5 0 ∷ at 10 5 ∷ at 5 10 ∷ at 0 5 ∷ at 5 0 ∷ []

pub of-diamond : told diamond (at 2 5 ∷ spot (negsuc 0) (pos 5) ∷ at 11 5 ∷ at 3 0 ∷ at 3 10 ∷ []) ≡ true ∷ false ∷ false ∷ false ∷ false ∷ []
unfolding lists_compute plane_computes inside_computes
of-diamond = refl

-- the shape of a U: in the gap between its arms, above the gap, in each arm, in its foot, and in the foot at the height of the gap's ground
abbrev horseshoe : List Spot
horseshoe = at 0 0 ∷ at 10 0 ∷ at 10 10 ∷ at 7 10 ∷ at 7 3 ∷ at 3 3 ∷ at 3 10 ∷ at 0 10 ∷ at 0 0 ∷ []

pub of-horseshoe : told horseshoe (at 5 6 ∷ at 5 11 ∷ at 1 6 ∷ at 8 6 ∷ at 5 1 ∷ at 1 3 ∷ []) ≡ false ∷ false ∷ true ∷ true ∷ true ∷ true ∷ []
unfolding lists_compute plane_computes inside_computes
of-horseshoe = refl

-- a ring that crosses itself, seen from above: once around is inside, twice around is not, and no ring has a place inside
abbrev twice : List Spot
twice = at 0 0 ∷ at 10 0 ∷ at 10 10 ∷ at 2 10 ∷ at 2 2 ∷ at 8 2 ∷ at 8 8 ∷ at 0 8 ∷ at 0 0 ∷ []

pub of-twice : told twice (at 1 1 ∷ at 5 5 ∷ at 9 5 ∷ []) ≡ true ∷ false ∷ true ∷ []
unfolding lists_compute plane_computes inside_computes
of-twice = refl

pub of_none : told [] (at 0 0 ∷ []) ≡ false ∷ []
unfolding lists_compute plane_computes inside_computes
of_none = refl
