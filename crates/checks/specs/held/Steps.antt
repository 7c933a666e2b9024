-- What the parts of end of load do to the arrays, polygon by polygon.
use Rattle.std.specs.Prelude.{ℕ, ◌≡◌, List, ℤ, pos}
use Rattle.whole.specs.held.Stored.{upto}
use Rattle.renew.specs.held.Renewed.{kept_at, part_at}

-- end of load: the first m are checked
module _ (tolerance : ℕ) (points : List ℤ) (entries starts firsts : List ℕ) where
  pub record Checked (m : ℕ) (findings : List ℕ) (parts : List ℤ) (findings' : List ℕ) (parts' : List ℤ) : Type 0 where
    pub found : findings' ≡ upto (λ p _. kept_at tolerance points entries starts firsts p) 0 findings m
    pub summed : parts' ≡ upto (λ p _. part_at points entries starts firsts p) (pos 0) parts m
