-- What comes back for a line, as digits.
use Rattle.std.specs.Prelude.{ℕ, List, ◌++◌, ℤ}
use Rattle.hexadecimal.specs.Hex.{digits, bits64}

-- "01, 02, 03 accepted: `00`." "Refused: the two digits"
unfoldable pub plain : ℕ → List ℕ
plain n = digits 2 n

-- "`00`, check 2 digits, element a 4, element b 4, number of polygons with a finding of their own 4, six-volume 16 (two's complement)"
unfoldable pub reported : ℕ → ℕ → ℕ → ℕ → ℤ → List ℕ
reported check a b faulty volume = digits 2 0 ++ digits 2 check ++ digits 4 a ++ digits 4 b ++ digits 4 faulty ++ digits 16 (bits64 volume)

-- "`00`, the polygon's finding 2, its stamp 8, its part of the six-volume 16"; document 02 (iii): "The question's answer grows by 4 digits
-- after the finding, to 32 digits"
unfoldable pub told : ℕ → ℕ → ℕ → ℤ → List ℕ
told finding position stamp part = digits 2 0 ++ digits 2 finding ++ digits 4 position ++ digits 8 stamp ++ digits 16 (bits64 part)

-- document 02 (xiii): "answers `00`, users 4 digits, first user 4, second user 4"
unfoldable pub across : ℕ → ℕ → ℕ → List ℕ
across users lowest second = digits 2 0 ++ digits 4 users ++ digits 4 lowest ++ digits 4 second

unfoldable pub answer_computes : Unit {0}
unfolding plain reported told across
answer_computes = tt
