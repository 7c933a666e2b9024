-- `feeds_in` meets its contract. The invariant: the line feeds passed and those still to come are all of them.
use Rattle.std.specs.Prelude.{◌≡◌, ◌+◌, ◌≤◌, drop}
use Rattle.lines.specs.held.Offsets.{feeds}
use Rattle.lines.proofs.feeds_in.Given as goal

abbrev pub invariant-loop-b : goal.invariant-loop-b
invariant-loop-b l = (l.n ≤ l.b-index) × (l.n + feeds (drop l.b-index l.part) ≡ feeds l.part)
