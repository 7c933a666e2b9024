-- `moves::look_again` meets its contract. The loop keeps: the polygons before p are looked at again, and no other.
use Rattle.std.proofs.Common.{◌-◌, ◌≤◌}
use Rattle.building.specs.held.Holds.{Beside}
use Rattle.moves.specs.held.Steps.{Looked}
use Rattle.moves.proofs.look_again.Given as goal

abbrev pub invariant-loop-p : goal.invariant-loop-p
invariant-loop-p l = let a = l.initial.arrays in
    record {
      passed : l.p ≤ l.s.polygons;
      looked : Looked l.s.tolerance a.points.flat a.rings.entries a.rings.starts a.rings.firsts l.number l.n l.p a.stamps a.findings a.parts l.arrays.stamps l.arrays.findings l.arrays.parts;
      beside : Beside a l.arrays;
    }

abbrev pub decreases-loop-p : goal.decreases-loop-p
decreases-loop-p l = l.s.polygons - l.p
