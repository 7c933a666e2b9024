-- Checks 02 and 03: a ring as the numbers of its points, and where 03 is met.
use Rattle.std.specs.Prelude.{ℕ, Bool, false, not, List, [], ◌∷◌, eqb, take}
use Rattle.whole.specs.Lists.{any_two, front, last_of, least_index, numbered, lists}

-- 02: "last entry differs from first"
unfoldable pub is_unclosed : List ℕ → Bool
is_unclosed [] = false
is_unclosed (a ∷ l) = not (eqb a (last_of a l))

-- 03: "with the last entry left aside, some number stands twice"
unfoldable pub is_repeated : List ℕ → Bool
is_repeated ring = any_two eqb (front ring)

-- whether an entry, with its index, has a number that "stood earlier" in a list
unfoldable pub stood_earlier : List ℕ → ℕ × ℕ → Bool
stood_earlier l e = lists e.1 (take e.0 l)

-- document 02 (iii): "for 03 the least entry index whose number stood earlier, the closing entry aside"; where there is none, how
-- many entries stand before the closing one
unfoldable pub repeated_at : List ℕ → ℕ
repeated_at ring = least_index (stood_earlier (front ring)) (numbered (front ring))

unfoldable pub entries_compute : Unit {0}
unfolding is_unclosed is_repeated stood_earlier repeated_at
entries_compute = tt
