-- `apart::sweep_down` meets its contract.
use Prim.Native.Nat.{◌*◌}
use mathlib.Core.Path.{◌≡◌}
use lib.ListN.{length}
use Rattle.bits.specs.held.Bits.{marks_of}
use Rattle.apart.proofs.Sweeps.{Down}
use Rattle.apart.proofs.sweep_down.Given as goal

abbrev pub invariant-loop-i : goal.invariant-loop-i
invariant-loop-i l = (length l.marks ≡ 4) × Down l.words l.from (marks_of l.initial.marks) (marks_of l.marks) l.some (2 * l.i)
