-- `holes::meets::meets_ring` meets its contract. The boxes first; then edge by edge.
use mathlib.Core.Path.{◌∙◌, sym, ap, subst}
use mathlib.Core.List.{List}
use Prim.Native.Nat.{ℕ}
use Rattle.space.specs.held.Points.{Known}
use Rattle.rays.specs.held.Seen.{spots_in}
use Rattle.holes.specs.Holes.{meet}
use Rattle.holes.specs.laws.Boxes.{around, parted-none}
use Rattle.holes.proofs.meets.meets_ring.Goals as goal

pub bounds_of-c-requires : goal.bounds_of-c-requires
bounds_of-c-requires c = subst Known (sym c.ring-s.ensures) c.requires.ring.known

pub returns-then-parted : goal.returns-then-parted
returns-then-parted c = let a = c.args in
    sym (parted-none (around c.requires.bounded) (around c.bounds_of-c.ensures) (sym c.parted.ensures ∙ c.if-parted.true))
    ∙ ap (λ (s : List ℕ). meet (spots_in a.points.now.flat a.plane.u a.plane.v a.r.now) (spots_in a.points.now.flat a.plane.u a.plane.v s)) c.ring-s.ensures

pub returns : goal.returns
returns c = let a = c.args in
    c.rings_meet.ensures
    ∙ ap (λ (s : List ℕ). meet (spots_in a.points.now.flat a.plane.u a.plane.v a.r.now) (spots_in a.points.now.flat a.plane.u a.plane.v s)) c.ring-s.ensures
