-- Arrays after a loop of stores: every place below a number anew, or 0.
use Rattle.std.specs.Prelude.{ℕ, zero, suc, List, get_or, set}

-- l, with f k of what stands at each place k below n in its stead
unfoldable pub upto : {A : Type 0} → (ℕ → A → A) → A → List A → ℕ → List A
upto f d l zero = l
upto f d l (suc k) = set (upto f d l k) k (f k (get_or l k d))

-- the first m are 0
abbrev pub zeroed : List ℕ → ℕ → List ℕ
zeroed l m = upto (λ p old. 0) 0 l m
