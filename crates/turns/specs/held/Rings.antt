-- A ring turned in its place in the table of entries.
use Rattle.std.specs.Prelude.{ℕ, List, reverse, get_or}
use Rattle.std.proofs.lemmas.List.Edits.{sets}
use Rattle.ring.specs.held.Rings.{ring_at}

-- the entries with ring p turned in its place
abbrev pub turned_entries : List ℕ → List ℕ → ℕ → List ℕ
turned_entries entries starts p = sets entries (get_or starts p 0) (reverse (ring_at entries starts p))
