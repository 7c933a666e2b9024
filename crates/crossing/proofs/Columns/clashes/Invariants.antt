-- `crossing::Columns::clashes` meets its contract. The loop: what is left of the row tells of the whole row.
use Rattle.std.proofs.Common.{◌≡◌, ◌+◌}
use Rattle.crossing.specs.held.Between.{clashes_from}
use Rattle.crossing.proofs.Columns.clashes.Given as goal

abbrev pub invariant-loop-j : goal.invariant-loop-j
invariant-loop-j l = clashes_from l.self l.i l.j ≡ clashes_from l.self l.i (l.i + 1)
