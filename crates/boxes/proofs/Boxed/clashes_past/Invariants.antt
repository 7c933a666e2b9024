-- `boxes::Boxed::clashes_past` meets its contract. The loop: what is left of the row tells of the whole row.
use Rattle.std.proofs.Common.{◌≡◌, ◌+◌, ◌-◌, ◌≤◌, ◌<◌}
use Rattle.crossing.specs.held.Between.{clashes_from}
use Rattle.boxes.proofs.Boxed.clashes_past.Given as goal

abbrev pub invariant-loop-j : goal.invariant-loop-j
invariant-loop-j l = (l.i + 1 < l.j) × (l.j ≤ l.end) × (clashes_from l.self.columns l.i l.j ≡ clashes_from l.self.columns l.i (l.i + 2))

abbrev pub decreases-loop-j : goal.decreases-loop-j
decreases-loop-j l = l.end - l.j
