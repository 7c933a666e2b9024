-- Any two results that a public function's statement allows agree.
use Rattle.std.specs.Prelude.{ℕ, ◌≡◌, List, ◌++◌, take, drop}
use Rattle.std.proofs.Common.{sym, ap₂, subst, ◌∙◌, take-append-drop}
use Rattle.whole.specs.laws.Agree.{agree}
use Rattle.edges.specs.held.Steps.{Filled}

-- `fill`: the number of words and the array
pub fill_agree : (ws w₀ w w' : List ℕ) (r r' : ℕ) → Filled ws w₀ w r → Filled ws w₀ w' r' → (r ≡ r') × (w ≡ w')
fill_agree ws w₀ w w' r r' a b = (e, sym (take-append-drop r w) ∙ (ap₂ (λ (x y : List ℕ). x ++ y) front rest ∙ take-append-drop r w'))
  where
    e : r ≡ r'
    e = agree a.long b.long

    front : take r w ≡ take r w'
    front = agree a.done (subst (λ (k : ℕ). take k w' ≡ ws) (sym e) b.done)

    rest : drop r w ≡ drop r w'
    rest = agree a.rest (subst (λ (k : ℕ). drop k w' ≡ drop k w₀) (sym e) b.rest)
