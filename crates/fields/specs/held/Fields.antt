-- What the code that reads digits asks of them: a field of a line, four bytes that are digits.
use Rattle.std.specs.Prelude.{ℕ, ◌+◌, ◌≤◌, ◌≡◌, true, List, length}
use Rattle.hexadecimal.specs.Hex.{is_hex_of, all_hex_of}

-- a line of digits has a field of k digits, a number of the machine, at an offset
pub record HexField (l : List ℕ) (at k : ℕ) : Type 0 where
  pub hex : all_hex_of l ≡ true
  pub inside : at + k ≤ length l
  pub short : k ≤ 8

-- four bytes that are digits
pub record Hex4 (a b c d : ℕ) : Type 0 where
  pub first : is_hex_of a ≡ true
  pub second : is_hex_of b ≡ true
  pub third : is_hex_of c ≡ true
  pub fourth : is_hex_of d ≡ true
