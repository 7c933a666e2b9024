-- `misplaced::corners::stands_in` meets its contract. The first entry's place is the ring's first corner.
use mathlib.Core.Path.{◌∙◌, sym, ap, ap₂, subst}
use mathlib.Core.List.{List}
use Prim.Native.Nat.{ℕ, ◌<◌}
use lib.ListN.{get_or, length}
use Rattle.whole.specs.Lists.{steps}
use Rattle.whole.specs.laws.Places.{map_at}
use Rattle.plane.specs.Plane.{Spot}
use Rattle.space.specs.held.Points.{Known}
use Rattle.fan.specs.held.Fan.{spot_in}
use Rattle.ring.specs.held.Rings.{ring_at}
use Rattle.rays.specs.Inside.{inside}
use Rattle.rays.specs.held.Seen.{spots_in}
use Rattle.misplaced.proofs.corners.stands_in.Goals as goal

pub bounds-own-0 : goal.bounds-own-0
bounds-own-0 c = subst (λ (r : List ℕ). 0 < length r) (sym c.ring-own.ensures) c.requires.ring.1

pub spot-corner-requires : goal.spot-corner-requires
spot-corner-requires c = let h = c.requires.ring in
    subst (λ (r : List ℕ). get_or r 0 0 < 512) (sym c.ring-own.ensures) (h.0.known.each 0 h.1)

pub inside-requires : goal.inside-requires
inside-requires c = record { known = subst Known (sym c.ring-other.ensures) c.requires.ring_2.known; close = c.spot-corner.ensures.close }

pub returns : goal.returns
returns c = let a = c.args in
    let at = spot_in a.points.now.flat a.plane.u a.plane.v in
    c.inside.ensures
    ∙ ap₂ (λ (q : Spot) (s : List ℕ). inside q (steps (spots_in a.points.now.flat a.plane.u a.plane.v s)))
    (c.spot-corner.ensures.place ∙ ap (λ (r : List ℕ). at (get_or r 0 0)) c.ring-own.ensures ∙ sym (map_at at (ring_at a.rings.now.entries a.rings.now.starts a.p) 0 0 (at 0) c.requires.ring.1))
    c.ring-other.ensures
