-- `turning::turn_polygon` meets its contract.
use mathlib.Core.Path.{refl}
use Rattle.desk.specs.laws.Dids.{valid_held, did_refused}
use Rattle.turning.specs.laws.Dids.{turn_holds, turn_known, did_turn}
use Rattle.frame.specs.Frame.{turn}
use Rattle.turning.proofs.turn_polygon.Goals as goal

pub turn_polygon-held-requires : goal.turn_polygon-held-requires
turn_polygon-held-requires c =
    let g = c.args in
    let v = c.requires.1 in
    let w = g.arrays.now in
    let q = c.in_default.ensures.is w tt v in
    record { held = valid_held w g.d v (turn_holds w g.d v g.number g.p q); n_lt_polygons = turn_known w g.d v g.number g.p q }

pub returns-in-Err : goal.returns-in-Err
returns-in-Err c =
    let g = c.args in
    let v = c.requires.1 in
    let w = g.arrays.now in
    record {
      did = did_refused w g.d v (turn g.number g.p) c.in-Err.refusal g.room.now _ _ (c.in-Err.ensures.is w tt v) (c.refuse.ensures w v);
      points = refl;
      starts = refl;
      firsts = refl;
      table = refl;
    }

pub returns : goal.returns
returns c =
    let g = c.args in
    let v = c.requires.1 in
    let w = g.arrays.now in
    record {
      did = did_turn w g.d v g.number g.p (c.in_default.ensures.is w tt v) _ _ c.turn_polygon-held.ensures.did g.room.now _ _ c.put_report-at.ensures;
      points = c.turn_polygon-held.ensures.points;
      starts = c.turn_polygon-held.ensures.starts;
      firsts = c.turn_polygon-held.ensures.firsts;
      table = c.turn_polygon-held.ensures.table;
    }
