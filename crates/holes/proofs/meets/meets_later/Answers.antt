-- `holes::meets::meets_later` meets its contract. Ring p is the one that is held against the others.
use mathlib.Core.Path.{◌∙◌, sym, ap, subst}
use mathlib.Core.List.{List}
use Prim.Native.Nat.{ℕ, ◌+◌, ◌-◌}
use Rattle.space.specs.held.Points.{Known}
use Rattle.whole.specs.Lists.{any}
use Rattle.whole.specs.held.Spans.{span}
use Rattle.rays.specs.held.Seen.{spots_in}
use Rattle.holes.specs.Holes.{meet}
use Rattle.holes.specs.held.Rings.{spots_at}
use Rattle.holes.proofs.meets.meets_later.Goals as goal

pub meets_one-requires : goal.meets_one-requires
meets_one-requires c = record { rings = c.requires.1; known = subst Known (sym c.ring.ensures) c.requires.0.known }

pub returns : goal.returns
returns c = let a = c.args in
    c.meets_one.ensures
    ∙ ap (λ (r : List ℕ). any (meet (spots_in a.points.now.flat a.plane.u a.plane.v r)) (span (spots_at a.points.now.flat a.plane.u a.plane.v a.rings.now.entries a.rings.now.starts) (a.p + 1) (a.to - (a.p + 1)))) c.ring.ensures
