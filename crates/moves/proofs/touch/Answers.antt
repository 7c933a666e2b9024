-- `moves::touch` meets its contract, by whether the ring lists the point.
use Rattle.std.proofs.Common.{sym, ◌∙◌}
use Rattle.building.specs.laws.Beside.{beside_none}
use Rattle.moves.specs.laws.Rings.{lists-entries}
use Rattle.moves.specs.laws.Steps.{touched-yes, touched-no}
use Rattle.moves.proofs.touch.Goals as goal

pub returns-then-uses : goal.returns-then-uses
returns-then-uses c = let a = c.args.arrays.now in
    let g = c.args in
    let e = c.refresh.ensures in
    record {
      touched = rw e.stamps (touched-yes g.tolerance a.points.flat a.rings.entries a.rings.starts a.rings.firsts g.number g.n (sym (lists-entries a.rings.entries a.rings.starts a.rings.firsts g.p g.n c.requires.stands.0) ∙ (sym c.uses.ensures ∙ c.if-uses.true)) e.refreshed);
      beside = record { points = e.beside.points; rings = e.beside.rings; table = e.beside.table; turned = e.beside.turned };
    }

pub returns-else-uses : goal.returns-else-uses
returns-else-uses c = let a = c.args.arrays.now in
    let g = c.args in
    record {
      touched = touched-no g.tolerance a.points.flat a.rings.entries a.rings.starts a.rings.firsts g.number g.n (sym (lists-entries a.rings.entries a.rings.starts a.rings.firsts g.p g.n c.requires.stands.0) ∙ (sym c.uses.ensures ∙ c.if-uses.false));
      beside = beside_none;
    }
