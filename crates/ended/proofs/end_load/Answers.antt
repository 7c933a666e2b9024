-- `ended::end_load` meets its contract.
use mathlib.Core.Path.{refl}
use Rattle.ended.specs.laws.Dids.{did_end}
use Rattle.desk.specs.laws.Dids.{did_refused}
use Rattle.frame.specs.Frame.{end_of_load}
use Rattle.ended.proofs.end_load.Goals as goal

pub put_report-at-requires : goal.put_report-at-requires
put_report-at-requires c = let h = c.check_all-held.ensures.did.held in
    record { from_in_bounds = c.requires.0; loaded = (h.loaded, h.kept) }

pub returns-in-Err : goal.returns-in-Err
returns-in-Err c =
    let g = c.args in
    let v = c.requires.1 in
    let w = g.arrays.now in
    record {
      did = did_refused w g.d v end_of_load c.in-Err.refusal g.room.now _ _ (c.in-Err.ensures.is w tt v) (c.refuse.ensures w v);
      points = refl;
      rings = refl;
    }

pub returns : goal.returns
returns c =
    let g = c.args in
    let v = c.requires.1 in
    let w = g.arrays.now in
    record {
      did = did_end w g.d v (c.in_default.ensures.is w tt v) _ _ c.check_all-held.ensures.did g.room.now _ _ c.put_report-at.ensures;
      points = c.check_all-held.ensures.points;
      rings = c.check_all-held.ensures.rings;
    }
