-- Any two results that a public function's statement allows agree.
use Rattle.std.specs.Prelude.{ℕ, ◌≤◌, ◌<◌, ◌≡◌, Bool, List, refl, Option, IfSome, unwrap_or}
use Rattle.std.proofs.Math.Decide.{dec_lt}
use Rattle.std.proofs.Common.{arith, sym, subst, ◌∙◌}
use Rattle.std.proofs.Math.Logic.{by_cases}
use Rattle.std.proofs.Math.Option.{none, some, some-injective, none-ne-some}
use Rattle.whole.specs.laws.Agree.{agree, agree_below}
use Rattle.shell.specs.declared.Shape.{Shape}
use Rattle.edges.specs.Edges.{used_once, used_often}
use Rattle.links.specs.held.Linking.{Cornered, Unlinks}
use Rattle.shell.specs.Shell.{not_linked}
use Rattle.ring.specs.Polygon.{all_rings}
use Rattle.ring.specs.held.Rings.{polygons}
use Rattle.shell.specs.held.Kept.{Loaded, Built, Table}
use Rattle.shell.specs.laws.Across.{all-pairs}
use Rattle.shell.specs.laws.Corner.{unlinked-found, unlinked-missing}

-- `built`: the array, the count and the verdict
pub built_agree : (es st ft : List ℕ) (n : ℕ) (room t t' : List ℕ) (k k' : ℕ) (s : Bool) (f f' : Shape) → Built es st ft n room t k s f → Built es st ft n room t' k' s f' → (t ≡ t') × (k ≡ k') × (f ≡ f')
built_agree es st ft n room t t' k k' s f f' a b = (agree a.table_is b.table_is, agree a.count_is b.count_is, agree a.fixed_is b.fixed_is)

-- `links::unlinked`, of the words of loaded rings: where each edge is used twice, the point
module _ (es st ft : List ℕ) (n : ℕ) (ws : List ℕ) (t : Table es st ft n ws) (once : used_once (all_rings (polygons es st ft n)) ≡ none) (often : used_often (all_rings (polygons es st ft n)) ≡ none) where
  l : Loaded es st ft n
  l = t.loaded

  found : (r : ℕ) → Unlinks es ws r → r < 65536 → not_linked (polygons es st ft n) ≡ some r
  found r u h = unlinked-found es st ft n l (all-pairs es st ft n l once often) r (subst (λ (x : List ℕ). Unlinks es x r) t.words_are u) h

  missing : (r : ℕ) → Unlinks es ws r → 65536 ≤ r → not_linked (polygons es st ft n) ≡ none
  missing r u h = unlinked-missing es st ft n l (all-pairs es st ft n l once often) r (subst (λ (x : List ℕ). Unlinks es x r) t.words_are u) h

  pub unlinked_agree : (r r' : ℕ) → Unlinks es ws r → Unlinks es ws r' → r ≡ r'
  unlinked_agree r r' a b =
      by_cases
      (dec_lt r 65536)
      (λ h. by_cases (dec_lt r' 65536) (λ k. some-injective r r' (sym (found r a h) ∙ found r' b k)) (λ k. absurd (none-ne-some r (sym (missing r' b (omega arith)) ∙ found r a h))))
      (λ h. by_cases (dec_lt r' 65536) (λ k. absurd (none-ne-some r' (sym (missing r a (omega arith)) ∙ found r' b k))) (λ k. omega (arith, a.least.within, b.least.within)))

  -- the same of what the code answers, a point or none in place of 65,536: the words have their corners
  pub unlinked_alone : Cornered es ws → (o o' : Option ℕ)
      → IfSome o (λ v. v < 65536) × (Cornered es ws → Unlinks es ws (unwrap_or o 65536))
      → IfSome o' (λ v. v < 65536) × (Cornered es ws → Unlinks es ws (unwrap_or o' 65536))
      → o ≡ o'
  unlinked_alone c o o' a b = agree_below 65536 o o' (a.0, unlinked_agree (unwrap_or o 65536) (unwrap_or o' 65536) (a.1 c) (b.1 c)) (b.0, refl)
