-- `moves::look_at_each` meets its contract. The loop keeps: the polygons of the span before p are looked at again, and no other.
use Rattle.building.specs.held.Holds.{Beside}
use Rattle.moves.specs.held.Steps.{LookedFrom}
use Rattle.moves.proofs.look_at_each.Given as goal

abbrev pub invariant-loop-p : goal.invariant-loop-p
invariant-loop-p l = let a = l.initial.arrays in
    record {
      looked : LookedFrom l.s.tolerance a.points.flat a.rings.entries a.rings.starts a.rings.firsts l.number l.n l.from l.p a.stamps a.findings a.parts l.arrays.stamps l.arrays.findings l.arrays.parts;
      beside : Beside a l.arrays;
    }
