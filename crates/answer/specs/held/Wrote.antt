-- An answer written into lent room.
use Rattle.std.specs.Prelude.{ℕ, ◌+◌, ◌≡◌, List, length}
use Rattle.std.proofs.lemmas.List.Edits.{sets}

-- the bytes l stand in the room from an offset, all others are as they were, and r is the place after l
pub record Wrote (l room : List ℕ) (at : ℕ) (room' : List ℕ) (r : ℕ) : Type 0 where
  pub bytes : room' ≡ sets room at l
  pub past : r ≡ at + length l
