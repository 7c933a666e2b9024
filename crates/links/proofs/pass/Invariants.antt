-- `links::pass` meets its contract.
use Prim.Native.Nat.{ℕ, ◌*◌}
use mathlib.Core.Path.{◌≡◌}
use mathlib.Core.List.{List}
use lib.ListN.{length}
use Rattle.bits.specs.held.Bits.{marks_of}
use Rattle.links.specs.held.Linking.{Cornered}
use Rattle.links.proofs.Firsts.{Beginning}
use Rattle.links.proofs.pass.Given as goal

abbrev pub invariant-loop-i : goal.invariant-loop-i
invariant-loop-i l = (length l.seen ≡ 16) × (length l.marks ≡ 16) × ((es : List ℕ) → Cornered es l.words → Beginning es l.words (marks_of l.seen) (marks_of l.marks) (2 * l.i))
