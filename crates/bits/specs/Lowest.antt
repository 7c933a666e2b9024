-- Document 02, (x): "Hold the 256 marks as four 64-bit words and find the lowest polygon not reached by counting trailing ones in each
-- word. Show it equal to the byte form on every set, and keep the byte form as the definition." The byte form: a list of marks, one for
-- each number, 0 where it has none.
use Rattle.std.specs.Prelude.{ℕ, List, eqb}
use Rattle.whole.specs.Lists.{least_index}

-- the lowest number that has no mark; where each has one, how many there are
unfoldable pub lowest_bare_of : List ℕ → ℕ
lowest_bare_of marks = least_index (eqb 0) marks
