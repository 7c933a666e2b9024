-- `put_digits` meets its contract. The invariant: the `i` digits of `left` before those written make the whole.
use mathlib.Core.Path.{◌≡◌}
use lib.Seq.{sets}
use Rattle.hexadecimal.specs.Hex.{digits}
use Rattle.answer.proofs.put_digits.Given as goal

abbrev pub invariant-loop-i : goal.invariant-loop-i
invariant-loop-i l = sets l.room l.at (digits l.i l.left) ≡ sets l.initial.room l.at (digits l.k l.v)
