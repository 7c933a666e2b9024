-- `amend::move_point` meets its contract.
use Rattle.desk.specs.held.Holds.{service}
use Rattle.service.specs.Service.{refusal}
use Rattle.desk.specs.laws.Rows.{handed}
use Rattle.desk.specs.laws.Dids.{valid_held, did_refused}
use Rattle.amend.specs.laws.Dids.{move_holds, move_known, move_near, did_move}
use Rattle.frame.specs.Frame.{move}
use Rattle.space.specs.Space.{Point}
use Rattle.places.specs.Points.{is_far_of}
use mathlib.Core.Path.{◌≡◌, refl, sym, ◌∙◌}
use mathlib.Core.Option.{none}
use Rattle.amend.proofs.move_point.Goals as goal

pub move_point-held-requires : goal.move_point-held-requires
move_point-held-requires c =
    let g = c.args in
    let v = c.requires.1 in
    let w = g.arrays.now in
    let row : refusal (service w g.d) (move g.number g.p g.x g.y g.z) ≡ none =
    sym (handed (λ (q : Point). refusal (service w g.d) (move g.number g.p q.x q.y q.z)) c.ranges.x c.ranges.y c.ranges.z) ∙ c.in_default.ensures.is w refl v in
    record {
      held = valid_held w g.d v (move_holds w g.d v g.number g.p g.x g.y g.z row);
      n_lt_points = move_known w g.d v g.number g.p g.x g.y g.z row;
      z_value = handed is_far_of c.ranges.x c.ranges.y c.ranges.z ∙ move_near w g.d v g.number g.p g.x g.y g.z row;
    }

pub returns-in-Err : goal.returns-in-Err
returns-in-Err c =
    let g = c.args in
    let v = c.requires.1 in
    let w = g.arrays.now in
    record {
      did = did_refused w g.d v (move g.number g.p g.x g.y g.z) c.in-Err.refusal g.room.now _ _
          (sym (handed (λ (q : Point). refusal (service w g.d) (move g.number g.p q.x q.y q.z)) c.ranges.x c.ranges.y c.ranges.z) ∙ c.in-Err.ensures.is w refl v)
          (c.refuse.ensures w v);
      rings = refl;
      table = refl;
      turned = refl;
    }

pub returns : goal.returns
returns c =
    let g = c.args in
    let v = c.requires.1 in
    let w = g.arrays.now in
    record {
      did = did_move w g.d v g.number g.p g.x g.y g.z
          (sym (handed (λ (q : Point). refusal (service w g.d) (move g.number g.p q.x q.y q.z)) c.ranges.x c.ranges.y c.ranges.z) ∙ c.in_default.ensures.is w refl v)
          _ (handed (λ (q : Point). q) c.ranges.x c.ranges.y c.ranges.z) _ _ c.move_point-held.ensures.did g.room.now _ _ c.put_report-at.ensures;
      rings = c.move_point-held.ensures.rings;
      table = c.move_point-held.ensures.table;
      turned = c.move_point-held.ensures.turned;
    }
