-- What the parts of a move do to the arrays, polygon by polygon.
use Rattle.std.specs.Prelude.{ℕ, ◌≡◌, cond, List, ltb, get_or, set, ℤ, pos}
use Rattle.whole.specs.Lists.{lists}
use Rattle.whole.specs.held.Stored.{upto}
use Rattle.ring.specs.Polygon.{entries_from}
use Rattle.ring.specs.held.Rings.{polygon_at}
use Rattle.renew.specs.held.Renewed.{kept_at, part_at}

-- stamp, finding and part of polygon p, looked at again if one of its rings lists point n
abbrev pub restamp : List ℕ → List ℕ → List ℕ → ℕ → ℕ → ℕ → ℕ → ℕ
restamp entries starts firsts number n p old = cond (lists n (entries_from (polygon_at entries starts firsts p))) number old

abbrev pub refind : ℕ → List ℤ → List ℕ → List ℕ → List ℕ → ℕ → ℕ → ℕ → ℕ
refind tolerance points entries starts firsts n p old = cond (lists n (entries_from (polygon_at entries starts firsts p))) (kept_at tolerance points entries starts firsts p) old

abbrev pub repart : List ℤ → List ℕ → List ℕ → List ℕ → ℕ → ℕ → ℤ → ℤ
repart points entries starts firsts n p old = cond (lists n (entries_from (polygon_at entries starts firsts p))) (part_at points entries starts firsts p) old

module _ (tolerance : ℕ) (points : List ℤ) (entries starts firsts : List ℕ) (number n : ℕ) where
  pub record Touched (p : ℕ) (stamps findings : List ℕ) (parts : List ℤ) (stamps' findings' : List ℕ) (parts' : List ℤ) : Type 0 where
    pub stamped : stamps' ≡ set stamps p (restamp entries starts firsts number n p (get_or stamps p 0))
    pub found : findings' ≡ set findings p (refind tolerance points entries starts firsts n p (get_or findings p 0))
    pub summed : parts' ≡ set parts p (repart points entries starts firsts n p (get_or parts p (pos 0)))

  -- the first m looked at again
  pub record Looked (m : ℕ) (stamps findings : List ℕ) (parts : List ℤ) (stamps' findings' : List ℕ) (parts' : List ℤ) : Type 0 where
    pub stamped : stamps' ≡ upto (restamp entries starts firsts number n) 0 stamps m
    pub found : findings' ≡ upto (refind tolerance points entries starts firsts n) 0 findings m
    pub summed : parts' ≡ upto (repart points entries starts firsts n) (pos 0) parts m

-- f of the places from a on, and no other changed
abbrev pub from : {A : Type 0} → ℕ → (ℕ → A → A) → ℕ → A → A
from a f k old = cond (ltb k a) old (f k old)

-- the polygons from a up to m looked at again whose rings list point n
module _ (tolerance : ℕ) (points : List ℤ) (entries starts firsts : List ℕ) (number n a : ℕ) where
  pub record LookedFrom (m : ℕ) (stamps findings : List ℕ) (parts : List ℤ) (stamps' findings' : List ℕ) (parts' : List ℤ) : Type 0 where
    pub stamped : stamps' ≡ upto (from a (restamp entries starts firsts number n)) 0 stamps m
    pub found : findings' ≡ upto (from a (refind tolerance points entries starts firsts n)) 0 findings m
    pub summed : parts' ≡ upto (from a (repart points entries starts firsts n)) (pos 0) parts m
