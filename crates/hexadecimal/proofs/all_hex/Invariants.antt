-- `all_hex` meets its contract. The invariant: the bytes still to come tell of the whole line.
use Rattle.std.specs.Prelude.{◌≡◌, drop}
use Rattle.hexadecimal.specs.Hex.{all_hex_of}
use Rattle.hexadecimal.proofs.all_hex.Given as goal

abbrev pub invariant-loop-at : goal.invariant-loop-at
invariant-loop-at l = all_hex_of (drop l.at l.line) ≡ all_hex_of l.line
