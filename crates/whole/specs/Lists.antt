-- What several definitions say of lists: the first row given, some, how many, the least index, one after the other.
use Rattle.std.specs.Prelude.{ℕ, zero, suc, min, Bool, true, false, List, [], ◌∷◌, ◌++◌, eqb, ℤ, pos, negsuc, ◌+ℤ◌}
use Rattle.std.proofs.Math.Option.{Option, none, some}

module _ {A : Type 0} where
  -- a row of a table: its answer, given exactly when its test holds
  unfoldable pub given : Bool → A → Option A
  given true a = some a
  given false a = none

  -- the first row that is given, if one is
  unfoldable pub first_given : List (Option A) → Option A
  first_given [] = none
  first_given (none ∷ l) = first_given l
  first_given (some b ∷ l) = some b

  -- the first row that is given; where none is, a
  unfoldable pub first : A → List (Option A) → A
  first a [] = a
  first a (none ∷ l) = first a l
  first a (some b ∷ l) = b

  -- whether a test holds of some of a list
  unfoldable pub any : (A → Bool) → List A → Bool
  any t [] = false
  any t (x ∷ l) = elim (t x) [ true ↦ true | false ↦ any t l ]

  -- the least index, counted from 0, of one of a list that a test holds of; where there is none, the list's length
  unfoldable pub least_index : (A → Bool) → List A → ℕ
  least_index t [] = 0
  least_index t (x ∷ l) = elim (t x) [ true ↦ 0 | false ↦ suc (least_index t l) ]

  -- how many of a list a test holds of
  unfoldable pub tally : (A → Bool) → List A → ℕ
  tally t [] = 0
  tally t (x ∷ l) = elim (t x) [ true ↦ suc (tally t l) | false ↦ tally t l ]

  -- those of a list that a test holds of
  unfoldable pub keep : (A → Bool) → List A → List A
  keep t [] = []
  keep t (x ∷ l) = elim (t x) [ true ↦ x ∷ keep t l | false ↦ keep t l ]

  -- whether two of a list, one before the other, are so related
  unfoldable pub any_two : (A → A → Bool) → List A → Bool
  any_two r [] = false
  any_two r (x ∷ l) = elim (any (r x) l) [ true ↦ true | false ↦ any_two r l ]

  -- consecutive entries, where a stands before the list
  unfoldable pub steps_from : A → List A → List (A × A)
  steps_from a [] = []
  steps_from a (b ∷ l) = (a, b) ∷ steps_from b l

  -- consecutive entries: each with the next
  unfoldable pub steps : List A → List (A × A)
  steps [] = []
  steps (a ∷ l) = steps_from a l

  -- a list without its last
  unfoldable pub front : List A → List A
  front [] = []
  front (a ∷ []) = []
  front (a ∷ b ∷ l) = a ∷ front (b ∷ l)

  -- the last of a list; where it has none, a
  unfoldable pub last_of : A → List A → A
  last_of a [] = a
  last_of a (b ∷ l) = last_of b l

  -- the list with its number n changed by f
  unfoldable pub at : ℕ → (A → A) → List A → List A
  at n f [] = []
  at zero f (x ∷ l) = f x ∷ l
  at (suc n) f (x ∷ l) = x ∷ at n f l

  -- f of each number below n
  unfoldable pub tab : (ℕ → A) → ℕ → List A
  tab f zero = []
  tab f (suc n) = tab f n ++ (f n ∷ [])

  -- each with its number, the first being n
  unfoldable pub numbered_from : ℕ → List A → List (ℕ × A)
  numbered_from n [] = []
  numbered_from n (x ∷ l) = (n, x) ∷ numbered_from (suc n) l

  unfoldable pub numbered : List A → List (ℕ × A)
  numbered l = numbered_from 0 l

  -- a sum over a list
  unfoldable pub sum_of : (A → ℤ) → List A → ℤ
  sum_of f [] = pos 0
  sum_of f (x ∷ l) = f x +ℤ sum_of f l

-- whether a number stands in a list
unfoldable pub lists : ℕ → List ℕ → Bool
lists n l = any (eqb n) l

-- the least of a list of numbers, if it has one
unfoldable pub least : List ℕ → Option ℕ
least [] = none
least (x ∷ l) = elim (least l) [ none ↦ some x | some y ↦ some (min x y) ]

-- whether two whole numbers are the same
unfoldable pub same_z : ℤ → ℤ → Bool
same_z (pos a) (pos b) = eqb a b
same_z (pos a) (negsuc b) = false
same_z (negsuc a) (pos b) = false
same_z (negsuc a) (negsuc b) = eqb a b

-- all of the above computes
unfoldable pub lists_compute : Unit {0}
unfolding given first_given first any least_index tally keep any_two steps_from steps front last_of at tab numbered_from numbered sum_of lists least same_z
lists_compute = tt
