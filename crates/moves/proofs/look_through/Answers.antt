-- `moves::look_through` meets its contract: where the span's entries do not list the point, no ring of it does.
use Rattle.std.proofs.Common.{sym, ◌∙◌}
use Rattle.building.specs.laws.Beside.{beside_none}
use Rattle.moves.specs.laws.Rings.{span_of}
use Rattle.moves.specs.laws.Spans.{none-listed, looked-from-same}
use Rattle.moves.proofs.look_through.Goals as goal

pub uses-requires : goal.uses-requires
uses-requires c = span_of c.requires.loaded c.args.from c.args.to c.requires.from_le_to.0 c.requires.from_le_to.1

pub returns-else-uses : goal.returns-else-uses
returns-else-uses c = let g = c.args in
    let a = g.arrays.now in
    record {
      looked = looked-from-same g.s.tolerance a.points.flat a.rings.entries a.rings.starts a.rings.firsts g.number g.n g.from g.to
          (none-listed c.requires.loaded g.n g.from g.to c.requires.from_le_to.1 (sym c.uses.ensures ∙ c.if-uses.false));
      beside = beside_none;
    }
