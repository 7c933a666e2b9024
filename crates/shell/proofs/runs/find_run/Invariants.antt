-- `shell::runs::find_run` meets its contract.
use mathlib.Core.Path.{◌≡◌}
use mathlib.Core.List.{map}
use lib.ListN.{drop}
use Rattle.std.specs.Slice.Iter.{chunk_by_rest}
use Rattle.words.specs.held.Words.{key_from}
use Rattle.shell.specs.laws.Keys.{Finding}
use Rattle.shell.proofs.runs.find_run.Given as goal

abbrev pub invariant-loop-run : goal.invariant-loop-run
invariant-loop-run l = record { left : chunk_by_rest l.run-iterator ≡ drop l.i l.words; finding : Finding l.least l.most (map key_from l.words) l.i }
