-- `apart::take_all` meets its contract.
use Rattle.apart.proofs.Queues.{Taking}
use Rattle.reach.specs.held.Marking.{Joined}
use Rattle.words.specs.held.Words.{poly_from}
use Prim.Native.Nat.{◌-◌}
use Rattle.bits.specs.held.Bits.{marks_of}
use Rattle.apart.proofs.take_all.Given as goal

abbrev pub invariant-loop-from : goal.invariant-loop-from
invariant-loop-from l = Taking (Joined l.words poly_from) (marks_of l.initial.marks) (marks_of l.marks) l.found.list l.from l.found.len

abbrev pub decreases-loop-from : goal.decreases-loop-from
decreases-loop-from l = 256 - l.from
