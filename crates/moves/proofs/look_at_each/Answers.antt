-- What is left to show of `look_at_each`.
use Rattle.std.proofs.Common.{◌+◌, arith}
use Rattle.building.specs.laws.Beside.{beside_none, beside_more, beside_loaded}
use Rattle.building.specs.laws.Rings.{stands_of}
use Rattle.moves.specs.laws.Rings.{span_of}
use Rattle.moves.specs.laws.Spans.{looked-from-none, looked-from-more}
use Rattle.moves.proofs.look_at_each.Goals as goal

pub loop-p-init : goal.loop-p-init
loop-p-init c = let g = c.args in
    let a = g.arrays.now in
    record { looked = looked-from-none g.s.tolerance a.points.flat a.rings.entries a.rings.starts a.rings.firsts g.number g.n g.from; beside = beside_none }

pub touch-requires : goal.touch-requires
touch-requires c = let p = c.loop-p.p in
    let ld = beside_loaded c.loop-p.invariant.beside c.requires.loaded in
    record {
      stands = (stands_of ld p (omega arith), span_of ld p (p + 1) (omega arith) (omega arith));
      tolerance_bound = ld.tolerant;
    }

pub loop-p-preserved : goal.loop-p-preserved
loop-p-preserved c = let g = c.args in
    let a = g.arrays.now in
    let i = c.loop-p.invariant in
    let e = c.touch.ensures in
    record {
      looked = looked-from-more g.s.tolerance a.points.flat a.rings.entries a.rings.starts a.rings.firsts g.number g.n g.from i.looked (omega arith) (rw (i.beside.points, i.beside.rings) at e.touched);
      beside = beside_more i.beside e.beside;
    }
