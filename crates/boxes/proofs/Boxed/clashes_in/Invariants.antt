-- `boxes::Boxed::clashes_in` meets its contract. The loop: what is left of the row tells of all that was asked.
use Rattle.std.proofs.Common.{◌≡◌}
use Rattle.crossing.specs.held.Between.{clashes_from}
use Rattle.boxes.proofs.Boxed.clashes_in.Given as goal

abbrev pub invariant-loop-k : goal.invariant-loop-k
invariant-loop-k l = clashes_from l.self.columns l.i l.j ≡ clashes_from l.self.columns l.i l.k
