-- `shell::runs::paired` meets its contract.
use Prim.Native.Nat.{◌*◌}
use Rattle.shell.specs.laws.Keys.{Sweeping}
use Rattle.shell.proofs.runs.paired.Given as goal

abbrev pub invariant-loop-p : goal.invariant-loop-p
invariant-loop-p l = Sweeping l.words (2 * l.p) l.two
