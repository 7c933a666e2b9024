-- `extents::furthest` meets its contract. The loop: the number is beyond the first ones.
use Rattle.std.proofs.Common.{not, nat_eq, ◌+◌}
use Rattle.extents.specs.held.Extents.{Ahead}
use Rattle.extents.proofs.furthest.Given as goal

abbrev pub invariant-loop-x : goal.invariant-loop-x
invariant-loop-x g l = Ahead l.room (not (nat_eq g.row.HIGH 0)) l.j (l.j + l.x-index) l.end
