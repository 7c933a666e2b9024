-- `directions::alike` meets its contract: what the words that are left tell, all told.
use mathlib.Core.Path.{◌≡◌}
use Rattle.std.specs.Slice.Iter.{chunks_exact_size, chunks_exact_rest}
use Rattle.shell.specs.held.Kept.{alike_in}
use Rattle.directions.proofs.alike.Given as goal

abbrev pub invariant-loop-pair : goal.invariant-loop-pair
invariant-loop-pair l = (chunks_exact_size l.pair-iterator ≡ 2) × (alike_in l.turned (chunks_exact_rest l.pair-iterator) ≡ alike_in l.turned l.words)
