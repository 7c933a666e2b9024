-- `load::points::add_point` meets its contract.
use mathlib.Core.Path.{◌≡◌, sym, ap, ◌∙◌, subst}
use mathlib.Core.List.{List}
use lib.IntN.{ℤ}
use Prim.Native.Nat.{ℕ}
use Rattle.frame.specs.Frame.{point}
use Rattle.space.specs.Space.{Point}
use Rattle.space.specs.held.Points.{Coords}
use Rattle.places.specs.held.Places.{point3, placed, NearPlace}
use Rattle.places.specs.Points.{is_far_of}
use Rattle.places.specs.laws.Near.{near-place, placed_coords}
use Rattle.taken.specs.held.Chains.{linked}
use Rattle.service.specs.Service.{refusal}
use Rattle.desk.specs.held.Holds.{service, does}
use Rattle.desk.specs.laws.Rows.{handed}
use Rattle.load.specs.laws.Dids.{did_points, did_point}
use Rattle.desk.specs.laws.Dids.{did_refused}
use Rattle.load.proofs.points.add_point.Goals as goal
use Rattle.load.proofs.points.add_point.Goals.{After-place}

-- the points with the one more
there : (c : After-place) → c.place.new.points ≡ placed c.args.points.now c.args.d.held.points (point3 c.args.x c.args.y c.args.z)
there c =
    let f = c.ranges in
    c.place.ensures ∙ handed (λ (q : Point). placed c.args.points.now c.args.d.held.points q) f.x f.y f.z

-- the place is near
close : (c : After-place) → NearPlace (point3 c.args.x c.args.y c.args.z)
close c = let f = c.ranges in near-place _ (sym (handed is_far_of f.x f.y f.z) ∙ c.in_default.ensures.fit.1)

pub returns-in-Err : goal.returns-in-Err
returns-in-Err c = record {
  near = λ h. h;
  did = λ a s u v after w.
      let g = c.args in
      let f = c.ranges in
      did_points a after g.table.now (s ∙ sym w) u (does (service a g.d) (point g.x g.y g.z)) g.room.now g.d.at _ _
      (did_refused a g.d v (point g.x g.y g.z) c.in-Err.refusal g.room.now _ _
      (sym (handed (λ (q : Point). refusal (service a g.d) (point q.x q.y q.z)) f.x f.y f.z) ∙ c.in-Err.ensures.is a s v)
      (c.refuse.ensures a v));
}

pub returns : goal.returns
returns c =
    let g = c.args in
    let f = c.ranges in
    let n = g.d.held.points in
    let k = c.in_default.ensures in
    let here = there ((goal.at.returns c).After-place) in
    record {
      near = λ h. subst Coords (sym here) (placed_coords g.points.now n (point3 g.x g.y g.z) h (close ((goal.at.returns c).After-place)));
      did = λ a s u v after w.
          did_point a g.d v g.x g.y g.z
          (sym (handed (λ (q : Point). refusal (service a g.d) (point q.x q.y q.z)) f.x f.y f.z) ∙ k.is a s v) k.fit.0 after _
          (w ∙ here ∙ ap (λ (q : List ℤ). placed q n (point3 g.x g.y g.z)) (sym s))
          (c.link.ensures ∙ handed (λ (q : Point). linked g.table.now n q) f.x f.y f.z ∙ ap (λ (q : List ℕ). linked q n (point3 g.x g.y g.z)) (sym u))
          g.room.now _ _ c.put_plain-at.ensures;
    }
