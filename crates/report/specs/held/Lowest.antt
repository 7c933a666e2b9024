-- The search for the lowest polygon that has a finding of its own.
use Rattle.std.specs.Prelude.{ℕ, ◌<◌, ◌≡◌, List, get_or}

-- none of the first n has one
abbrev pub NoneFound : List ℕ → ℕ → Type 0
NoneFound l n = (p : ℕ) → p < n → get_or l p 0 ≡ 0
