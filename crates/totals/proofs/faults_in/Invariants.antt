-- `totals::faults_in` meets its contract. The loop keeps: the count, with the tally of what is left, is the whole tally.
use Rattle.totals.specs.laws.Scans.{Counted}
use Rattle.totals.proofs.faults_in.Given as goal

abbrev pub invariant-loop-finding : goal.invariant-loop-finding
invariant-loop-finding l = Counted l.part l.finding-index l.count
