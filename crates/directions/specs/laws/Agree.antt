-- Any two results that a public function's statement allows agree.
use Rattle.std.specs.Prelude.{ℕ, ◌≡◌, List, take}
use Rattle.whole.specs.laws.Agree.{agree}
use Rattle.shell.specs.declared.Shape.{Shape}
use Rattle.shell.specs.held.Kept.{now_of, alike_in}

-- `shape_now`: the shape
pub shape_now_agree : (table : List ℕ) (count : ℕ) (turned : List ℕ) (fixed r r' : Shape) → r ≡ now_of fixed (alike_in turned (take count table)) → r' ≡ now_of fixed (alike_in turned (take count table)) → r ≡ r'
shape_now_agree table count turned fixed r r' a b = agree a b

-- the same of what the code is lent: the words themselves
pub shape_now_alone : (words : List ℕ) (turned : List ℕ) (fixed r r' : Shape) → r ≡ now_of fixed (alike_in turned words) → r' ≡ now_of fixed (alike_in turned words) → r ≡ r'
shape_now_alone words turned fixed r r' a b = agree a b
