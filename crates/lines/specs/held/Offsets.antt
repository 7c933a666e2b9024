-- A line by its offsets in the stream, as the code meets it.
use Rattle.std.specs.Prelude.{ℕ, ◌+◌, cond, List, [], ◌∷◌, eqb, length, drop}
use Rattle.lines.specs.Lines.{lines}

-- the first of some lines
unfoldable pub first_line : List (List ℕ) → List ℕ
first_line [] = []
first_line (l ∷ ls) = l

-- where the line that starts at an offset ends: the place of its line feed, or the stream's end
unfoldable pub line_end_of : List ℕ → ℕ → ℕ
line_end_of s from = from + length (first_line (lines (drop from s)))

-- how many bytes are line feeds
unfoldable pub feeds : List ℕ → ℕ
feeds [] = 0
feeds (b ∷ s) = cond (eqb b 10) 1 0 + feeds s
