-- The marks, each 0 or 1, that the bits of words stand for.
use Rattle.std.specs.Prelude.{ℕ, zero, suc, ◌+◌, ◌/◌, ◌%◌, List, [], ◌∷◌, ◌++◌}

-- the n lowest bits of a word, the lowest first
unfoldable pub bits_of : ℕ → ℕ → List ℕ
bits_of zero w = []
bits_of (suc n) w = w % 2 ∷ bits_of n (w / 2)

-- those of each word, one word after the other
unfoldable pub spread : ℕ → List ℕ → List ℕ
spread n [] = []
spread n (w ∷ ws) = bits_of n w ++ spread n ws

-- the marks that words of 64 bits hold
abbrev pub marks_of : List ℕ → List ℕ
marks_of words = spread 64 words

-- how many marks are set: their sum
unfoldable pub sum_of : List ℕ → ℕ
sum_of [] = 0
sum_of (b ∷ marks) = b + sum_of marks
