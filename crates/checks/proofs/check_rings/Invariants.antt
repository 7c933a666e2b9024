-- `checks::check_rings` meets its contract. The loop keeps: the polygons before p are checked.
use Rattle.std.proofs.Common.{◌≡◌}
use Rattle.building.specs.held.Holds.{Beside}
use Rattle.checks.specs.held.Steps.{Checked}
use Rattle.checks.proofs.check_rings.Given as goal

abbrev pub invariant-loop-p : goal.invariant-loop-p
invariant-loop-p l = let a = l.initial.arrays in
    record {
      checked : Checked l.s.tolerance a.points.flat a.rings.entries a.rings.starts a.rings.firsts l.p a.findings a.parts l.arrays.findings l.arrays.parts;
      beside : Beside a l.arrays;
      stamps : l.arrays.stamps ≡ a.stamps;
    }
