-- `links::Tables::cross` meets its contract.
use Prim.Native.Nat.{◌*◌}
use Rattle.words.specs.held.Words.{step_of, next_of}
use Rattle.links.proofs.Crossings.{Noting, out_of, inn_of}
use Rattle.links.proofs.Tables.cross.Given as goal

abbrev pub invariant-loop-i : goal.invariant-loop-i
invariant-loop-i l = Noting step_of out_of l.words l.self.out (2 * l.i) × Noting next_of inn_of l.words l.self.inn (2 * l.i)
