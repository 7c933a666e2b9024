-- `rings::copy_ring` meets its contract.
use Rattle.rings.specs.laws.Copied.{Copied}
use Rattle.frame.specs.Frame.{numbers}
use lib.ListN.{drop}
use Rattle.rings.proofs.copy_ring.Given as goal

abbrev pub invariant-loop-i : goal.invariant-loop-i
invariant-loop-i l = Copied (numbers (drop 2 l.line)) l.initial.entries l.from l.i l.entries
