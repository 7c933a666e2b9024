-- `links::Tables::walks` meets its contract.
use mathlib.Core.Path.{◌≡◌}
use lib.ListN.{length}
use Rattle.bits.specs.held.Bits.{marks_of}
use Rattle.links.specs.held.Linking.{Links}
use Rattle.links.proofs.Trails.{Tracing}
use Rattle.links.proofs.Tables.walks.Given as goal

abbrev pub invariant-loop-e : goal.invariant-loop-e
invariant-loop-e l = (length l.marks ≡ 16) × Tracing (Links l.self.out l.self.inn) (marks_of l.initial.marks) (marks_of l.marks) l.e
