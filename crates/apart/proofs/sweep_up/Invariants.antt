-- `apart::sweep_up` meets its contract.
use Prim.Native.Nat.{◌*◌}
use mathlib.Core.Path.{◌≡◌}
use lib.ListN.{length}
use Rattle.bits.specs.held.Bits.{marks_of}
use Rattle.apart.proofs.Sweeps.{Up}
use Rattle.apart.proofs.sweep_up.Given as goal

abbrev pub invariant-loop-i : goal.invariant-loop-i
invariant-loop-i l = (length l.marks ≡ 4) × Up l.words (marks_of l.initial.marks) (marks_of l.marks) l.last (2 * l.i)
