-- Any two results that a public function's statement allows agree.
use Rattle.std.specs.Prelude.{ℕ, ◌≤◌, ◌<◌, ◌≡◌, refl, List, length, Option, None, Some, IfSome, unwrap_or}
use Rattle.std.proofs.Math.Decide.{dec_lt}
use Rattle.std.proofs.Common.{arith, ap}
use Rattle.std.proofs.Math.Logic.{by_cases}
use Rattle.apart.specs.held.Reaching.{LowestCut}

-- the lowest polygon that is not reached is one
lowest-one : (l : List ℕ) (n r r' : ℕ) → LowestCut l n r → LowestCut l n r' → r < r' → ⊥
lowest-one l n r r' a b h = a.cut (omega (arith, b.within)) (b.before r h)

-- a number below n, or none in place of n, is told by its number
below_alone : (n : ℕ) (o o' : Option ℕ) → IfSome o (λ p. p < n) → IfSome o' (λ p. p < n) → unwrap_or o n ≡ unwrap_or o' n → o ≡ o'
below_alone n None None a b e = refl
below_alone n None (Some q) a b e = absurd (omega arith)
below_alone n (Some p) None a b e = absurd (omega arith)
below_alone n (Some p) (Some q) a b e = ap Some e

-- `unreached`: the polygon, for as many words as the table can have
pub unreached_agree : (l : List ℕ) (n r r' : ℕ) → length l ≤ 1024 → (length l ≤ 1024 → LowestCut l n r) → (length l ≤ 1024 → LowestCut l n r') → r ≡ r'
unreached_agree l n r r' h f g =
    by_cases
    (dec_lt r r')
    (λ lt. absurd (lowest-one l n r r' (f h) (g h) lt))
    (λ ge. by_cases (dec_lt r' r) (λ lt. absurd (lowest-one l n r' r (g h) (f h) lt)) (λ ge'. omega arith))

-- the same of what the code answers: a polygon below n, or none in place of n
pub unreached_alone : (l : List ℕ) (n : ℕ) (o o' : Option ℕ) → length l ≤ 1024
    → IfSome o (λ p. p < n) × (length l ≤ 1024 → LowestCut l n (unwrap_or o n))
    → IfSome o' (λ p. p < n) × (length l ≤ 1024 → LowestCut l n (unwrap_or o' n))
    → o ≡ o'
unreached_alone l n o o' h f g = below_alone n o o' f.0 g.0 (unreached_agree l n (unwrap_or o n) (unwrap_or o' n) h f.1 g.1)
