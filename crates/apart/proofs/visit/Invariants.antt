-- `apart::visit` meets its contract.
use Rattle.apart.proofs.Queues.{Visiting}
use Rattle.bits.specs.held.Bits.{marks_of}
use Rattle.apart.proofs.visit.Given as goal

abbrev pub invariant-loop-j : goal.invariant-loop-j
invariant-loop-j l = Visiting l.words l.p (marks_of l.initial.marks) l.initial.found.list l.initial.found.len (marks_of l.marks) l.found.list l.found.len l.j

abbrev pub decreases-loop-j : goal.decreases-loop-j
decreases-loop-j l = l.j
