-- Rings on which the entry of check 03 is seen to compute.
use Rattle.std.specs.Prelude.{ℕ, ◌≡◌, refl, List, [], ◌∷◌, map}
use Rattle.whole.specs.Lists.{lists_compute}
use Rattle.ring.specs.Entries.{repeated_at, entries_compute}

-- no number twice; one again, next to the closing entry; all alike; numbers 64 apart; two again; the first again; one entry; none
abbrev rings : List (List ℕ)
rings =
    (0 ∷ 1 ∷ 2 ∷ 0 ∷ []) ∷
    (0 ∷ 1 ∷ 2 ∷ 1 ∷ 0 ∷ []) ∷
    (7 ∷ 7 ∷ 7 ∷ 7 ∷ []) ∷
    (5 ∷ 69 ∷ 133 ∷ 5 ∷ []) ∷
    (0 ∷ 1 ∷ 2 ∷ 2 ∷ 1 ∷ 0 ∷ []) ∷
    (0 ∷ 1 ∷ 0 ∷ 0 ∷ []) ∷
    (3 ∷ []) ∷
    [] ∷
    []

pub told : map repeated_at rings ≡ 3 ∷ 3 ∷ 1 ∷ 3 ∷ 3 ∷ 2 ∷ 0 ∷ 0 ∷ []
unfolding lists_compute entries_compute
told = refl
