-- `links::Tables::walk` meets its contract.
use mathlib.Core.Path.{◌≡◌}
use lib.ListN.{length}
use Rattle.bits.specs.held.Bits.{marks_of}
use Rattle.reach.specs.held.Marking.{zeros}
use Rattle.links.proofs.Trails.{Walking}
use Rattle.links.proofs.Tables.walk.Given as goal

abbrev pub invariant-loop-marks : goal.invariant-loop-marks
invariant-loop-marks l = (length l.marks ≡ 16) × Walking l.self.out l.self.inn (marks_of l.initial.marks) l.to (marks_of l.marks) l.p l.c

abbrev pub decreases-loop-marks : goal.decreases-loop-marks
decreases-loop-marks l = zeros (marks_of l.marks)
