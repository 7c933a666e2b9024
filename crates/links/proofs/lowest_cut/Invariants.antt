-- `links::lowest_cut` meets its contract.
use Rattle.std.specs.Prelude.{◌<◌, IfSome, unwrap_or}
use Rattle.bits.specs.held.Bits.{marks_of}
use Rattle.links.proofs.Firsts.{Cutting}
use Rattle.links.proofs.lowest_cut.Given as goal

abbrev pub invariant-loop-w : goal.invariant-loop-w
invariant-loop-w l = IfSome l.best (λ v. v < 65536) × Cutting l.entries l.words (marks_of l.marks) (unwrap_or l.best 65536) l.w-index
