-- Who uses an edge, as the words of the edge table tell it, and what a search among them leaves.
use Rattle.std.specs.Prelude.{ℕ, ◌≤◌, ◌<◌, ◌≡◌, List, map, eqb, length, get_or}
use Rattle.whole.specs.Lists.{keep}
use Rattle.words.specs.held.Words.{key_from, poly_from}

-- the users of edge e that a list of words tells, in the words' order
unfoldable pub users_in : ℕ → List ℕ → List ℕ
users_in e words = map poly_from (keep (λ w. eqb e (key_from w)) words)

-- before r stand the words of edges below e, and from r on the others
pub record Bound (words : List ℕ) (e r : ℕ) : Type 0 where
  pub within : r ≤ length words
  pub below : (i : ℕ) → i < r → key_from (get_or words i 0) < e
  pub above : (i : ℕ) → r ≤ i → i < length words → e ≤ key_from (get_or words i 0)

-- that place is not before lo and not after hi
pub record Halving (words : List ℕ) (e lo hi : ℕ) : Type 0 where
  pub order : lo ≤ hi
  pub within : hi ≤ length words
  pub below : (i : ℕ) → i < lo → key_from (get_or words i 0) < e
  pub above : (i : ℕ) → hi ≤ i → i < length words → e ≤ key_from (get_or words i 0)

-- r is the polygon of the word at i where that stands before `end`, else 65,535
pub record UserAt (words : List ℕ) (i end r : ℕ) : Type 0 where
  pub inside : i < end → r ≡ poly_from (get_or words i 0)
  pub outside : end ≤ i → r ≡ 65535

-- what is told of users: how many, and the two lowest, 65,535 where there is none
pub record Told (us : List ℕ) (count lowest second : ℕ) : Type 0 where
  pub count_is : count ≡ length us
  pub lowest_is : lowest ≡ get_or us 0 65535
  pub second_is : second ≡ get_or us 1 65535
