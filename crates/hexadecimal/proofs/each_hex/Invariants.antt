-- `each_hex` meets its contract. The invariant: the bytes passed are digits and so is the rest, exactly when all are.
use Rattle.std.specs.Prelude.{◌≡◌, ◌&&◌, drop}
use Rattle.hexadecimal.specs.Hex.{all_hex_of}
use Rattle.hexadecimal.proofs.each_hex.Given as goal

abbrev pub invariant-loop-b : goal.invariant-loop-b
invariant-loop-b l = (l.good && all_hex_of (drop l.b-index l.part)) ≡ all_hex_of l.part
