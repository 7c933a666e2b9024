-- `each_digit` meets its contract. The invariant: `v` is the number of the first `i` digits of the field.
use Prim.Native.Nat.{◌<◌, ◌^◌}
use mathlib.Core.Path.{◌≡◌}
use lib.ListN.{take, drop}
use Rattle.hexadecimal.specs.Hex.{number}
use Rattle.fields.proofs.each_digit.Given as goal

abbrev pub invariant-loop-i : goal.invariant-loop-i
invariant-loop-i l = (l.v ≡ number (take l.i (drop l.at l.line))) × (l.v < 16 ^ l.i)
