-- `totals::six_volume` meets its contract. The loop keeps: the total is the sum of the parts so far, which fits.
use mathlib.Core.Path.{◌≡◌}
use Rattle.totals.specs.held.Scans.{sum_up_to}
use Rattle.totals.proofs.six_volume.Given as goal

abbrev pub invariant-loop-part : goal.invariant-loop-part
invariant-loop-part l = l.total ≡ sum_up_to l.parts l.part-index
