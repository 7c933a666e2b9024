-- `misplaced::facing::one_faces` meets its contract. The loop: the rings that are left tell of all.
use mathlib.Core.Bool.{not}
use Rattle.space.specs.held.Points.{points_of}
use Rattle.ring.specs.held.Rings.{ring_at}
use Rattle.holes.specs.Holes.{component_of, is_opposite}
use Rattle.holes.specs.laws.Passes.{Rest}
use Rattle.misplaced.proofs.facing.one_faces.Given as goal

abbrev pub invariant-loop-q : goal.invariant-loop-q
invariant-loop-q l = Rest (λ r. component_of l.axis (points_of l.points.flat) (ring_at l.rings.entries l.rings.starts r)) (λ d. not (is_opposite l.c d)) l.p l.to l.q
