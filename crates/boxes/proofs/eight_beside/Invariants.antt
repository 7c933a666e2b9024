-- `boxes::eight_beside` meets its contract. The loop: the places before k lie on one side, where the flags say so.
use Rattle.std.proofs.Common.{pos}
use Rattle.std.specs.Int.Signed.{lt_z}
use Rattle.boxes.proofs.Siding.{Held}
use Rattle.boxes.proofs.eight_beside.Given as goal

abbrev pub invariant-loop-k : goal.invariant-loop-k
invariant-loop-k l = Held (λ z. lt_z (pos 0) z) l.columns l.i l.j l.k l.left × Held (λ z. lt_z z (pos 0)) l.columns l.i l.j l.k l.right
