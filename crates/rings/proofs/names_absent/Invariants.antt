-- `rings::names_absent` meets its contract.
use Rattle.whole.specs.Lists.{any}
use Rattle.frame.specs.Frame.{numbers}
use lib.Dec.{leb}
use lib.ListN.{drop}
use mathlib.Core.Path.{◌≡◌}
use Rattle.rings.proofs.names_absent.Given as goal

abbrev pub invariant-loop-i : goal.invariant-loop-i
invariant-loop-i l = any (leb l.points) (drop l.i (numbers (drop 2 l.line))) ≡ any (leb l.points) (numbers (drop 2 l.line))
