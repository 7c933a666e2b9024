-- Places and edges in the plane as code holds them, and the bounds of their numbers.
use Rattle.std.specs.Prelude.{ℕ, ◌+◌, List, cond, get_or, ℤ, pos}
use Rattle.std.specs.Int.Signed.{lt_z}
use Rattle.whole.specs.held.Small.{Small}
use Rattle.plane.specs.declared.Spot as held
use Rattle.plane.specs.declared.Edge.{Edge}
use Rattle.plane.specs.Plane.{Spot, Segment}

-- the smaller of two numbers, and the larger
abbrev pub least : ℤ → ℤ → ℤ
least p q = cond (lt_z q p) q p

abbrev pub most : ℤ → ℤ → ℤ
most p q = cond (lt_z q p) p q

-- the place of two numbers
abbrev pub spot : ℤ → ℤ → Spot
spot u v = record { u = u; v = v }

-- the place that code holds as a `Spot`, and the segment that it holds as an `Edge`
abbrev pub as_spot : held.Spot → Spot
as_spot p = spot p.u p.v

abbrev pub as_segment : Edge → Segment
as_segment e = (as_spot e.a, as_spot e.b)

-- a place whose numbers are coordinates
pub record Close (p : Spot) : Type 0 where
  pub on_u : Small 100000 p.u
  pub on-v : Small 100000 p.v

pub record Ends (e : Segment) : Type 0 where
  pub from : Close e.0
  pub to : Close e.1

-- edge i between places that follow one another, held as their numbers on either axis
abbrev pub edge_at : List ℤ → List ℤ → ℕ → Segment
edge_at us vs i = (spot (get_or us i (pos 0)) (get_or vs i (pos 0)), spot (get_or us (i + 1) (pos 0)) (get_or vs (i + 1) (pos 0)))
