-- What is left to show of `check_rings`.
use Rattle.std.proofs.Common.{◌∙◌, refl}
use Rattle.building.specs.laws.Beside.{beside_none, beside_more, beside_loaded}
use Rattle.building.specs.laws.Rings.{stands_of}
use Rattle.renew.specs.laws.Beside.{refreshed_beside}
use Rattle.checks.specs.laws.Steps.{checked-none, checked-more}
use Rattle.checks.proofs.check_rings.Goals as goal

pub loop-p-init : goal.loop-p-init
loop-p-init c = let a = c.args.arrays.now in
    record { checked = checked-none c.args.s.tolerance a.points.flat a.rings.entries a.rings.starts a.rings.firsts; beside = beside_none; stamps = refl }

pub refresh-requires : goal.refresh-requires
refresh-requires c = let ld = c.requires.loaded in
    record { stands = stands_of (beside_loaded c.loop-p.invariant.beside ld) c.loop-p.p c.loop-p-test.true; tolerance_bound = ld.tolerant }

pub loop-p-preserved : goal.loop-p-preserved
loop-p-preserved c = let a = c.args.arrays.now in
    let i = c.loop-p.invariant in
    let e = c.refresh.ensures in
    record {
      checked = checked-more c.args.s.tolerance a.points.flat a.rings.entries a.rings.starts a.rings.firsts i.checked (refreshed_beside i.beside e.refreshed);
      beside = beside_more i.beside e.beside;
      stamps = e.stamps ∙ i.stamps;
    }
