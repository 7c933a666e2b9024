-- `turns::turn_polygon` meets its contract, by the law of a turn (`did_turned`).
use Rattle.std.proofs.Common.{refl, ◌∙◌, arith}
use Rattle.building.specs.held.Holds.{Shown}
use Rattle.building.specs.laws.Rings.{ring_of, rings-many}
use Rattle.turns.specs.laws.Turned.{flipped, did_turned, found_now, part-now}
use Rattle.turns.proofs.turn_polygon.Goals as goal

pub turn_ring-requires : goal.turn_ring-requires
turn_ring-requires c = let h = c.requires.held in
    let p = c.args.n in
    let b = c.requires.n_lt_polygons in
    record {
      ring = ring_of h.loaded p (omega (arith, rings-many h.loaded));
      tolerance_bound = h.loaded.tolerant;
      finding_was = h.kept.found.each p b ∙ found_now h.loaded p b;
      part_was = h.kept.summed.each p b ∙ part-now h.loaded p b;
      p_bound = omega (arith, h.loaded.layout.few);
    }

pub returns-clause-did : goal.returns-clause-did
returns-clause-did c = let a = c.args.arrays.now in
    let e = c.turn_ring.ensures in
    let sh : Shown a.table c.args.s.edges (flipped a.turned c.args.n) c.args.s.fixed c.shape_now-shape.result = c.shape_now-shape.ensures in
    did_turned a _ c.args.s c.requires.held c.args.number c.args.n c.requires.n_lt_polygons refl e.entries_after e.starts e.firsts refl e.findings_after e.parts_after refl refl sh
