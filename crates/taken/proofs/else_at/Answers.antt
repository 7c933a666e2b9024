-- `taken::else_at` meets its contract, by whether the point is number n.
use Rattle.space.specs.Space.{Point, same_place_of}
use Rattle.space.specs.held.Points.{place_at}
use mathlib.Core.Path.{sym, ap, ◌∙◌}
use Rattle.taken.specs.laws.Else.{own, other}
use Rattle.places.specs.laws.Places.{point_bits}
use Rattle.taken.proofs.else_at.Goals as goal

pub returns-then-p-n : goal.returns-then-p-n
returns-then-p-n c = sym (own _ c.args.p c.args.n _ c.if-p-n.true)

pub returns : goal.returns
returns c = let f = c.ranges in
    c.same_place.ensures ∙ ap (λ (p : Point). same_place_of p (place_at c.args.points.now c.args.p)) (point_bits f.x f.y f.z) ∙ sym (other _ c.args.p c.args.n _ c.if-p-n.false)
