-- `ring::lists` meets its contract. The loop: what is found, and what is left of the ring, tell whether the number stands in it.
use Rattle.std.proofs.Common.{◌≡◌}
use mathlib.Core.Bool.{◌||◌}
use lib.ListN.{drop}
use lib.Dec.{eqb}
use Rattle.whole.specs.Lists.{any}
use Rattle.ring.proofs.lists.Given as goal

abbrev pub invariant-loop-x : goal.invariant-loop-x
invariant-loop-x l = (l.found || any (eqb l.n) (drop l.x-index l.ring)) ≡ any (eqb l.n) l.ring
