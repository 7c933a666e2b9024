-- For each public function: any two results that its statement allows are one; of check_all that is every
-- word of the arrays and the scalars.
use Rattle.std.specs.Prelude.{ℕ, ◌<◌, ◌≡◌, List, leb, ltb, ℤ}
use Rattle.std.proofs.Common.{arith, sym, ◌∙◌, subst, true≢false, ltb-true, ltb-false}
use Rattle.whole.specs.laws.Agree.{agree}
use Rattle.shell.specs.held.Kept.{Built}
use Rattle.shell.specs.laws.Agree.{built_agree}
use Rattle.building.specs.declared.Arrays.{Arrays}
use Rattle.building.specs.declared.Scalars.{Scalars}
use Rattle.whole.specs.laws.Stores.{cases}
use Rattle.checks.specs.held.Early.{EarlyAt}
use Rattle.building.specs.laws.Agree.{shown_agrees}
use Rattle.checks.specs.held.Writes.{checked, LoadWrites}

module _ (a : Arrays) (s : Scalars) where
  -- the first polygon that fails one of checks 01 to 03 is one
  before : {l : List ℕ} {m i j : ℕ} → EarlyAt l m i → EarlyAt l m j → i < j → ⊥
  before {l = l} {i = i} e f h = true≢false (sym (e.here (omega (arith, f.none.passed))) ∙ f.none.before i h)

  low_agrees : {l : List ℕ} {m i j : ℕ} → EarlyAt l m i → EarlyAt l m j → i ≡ j
  low_agrees {i = i} {j = j} e f =
      cases (ltb i j)
      (λ t. absurd (before e f (ltb-true i j t)))
      (λ t. cases (ltb j i)
      (λ u. absurd (before f e (ltb-true j i u)))
      (λ u. omega (arith, ltb-false i j t, ltb-false j i u)))

  pub load_agrees : {stamps' stamps'' findings' findings'' : List ℕ} {parts' parts'' : List ℤ} {table' table'' turned' turned'' : List ℕ} {r r' : Scalars} → LoadWrites a s stamps' findings' parts' table' turned' r → LoadWrites a s stamps'' findings'' parts'' table'' turned'' r'
      → (stamps' ≡ stamps'') × (findings' ≡ findings'') × (parts' ≡ parts'') × ((table' ≡ table'') × (r ≡ r')) × (turned' ≡ turned'')
  load_agrees {findings' = findings'} {findings'' = findings''} {table' = table'} {table'' = table''} {r = r} {r' = r'} w w' =
      let e : findings' ≡ findings'' = agree w.each.found w'.each.found in
      let l : w.low ≡ w'.low = low_agrees (subst (λ (f : List ℕ). EarlyAt f s.polygons w.low) e w.early) w'.early in
      let t = built_agree a.rings.entries a.rings.starts a.rings.firsts s.polygons a.table table' table'' r.edges r'.edges (leb s.polygons w.low) r.fixed r'.fixed w.table
      (subst (λ (i : ℕ). Built a.rings.entries a.rings.starts a.rings.firsts s.polygons a.table table'' r'.edges (leb s.polygons i) r'.fixed) (sym l) w'.table) in
      let u = agree w.turned w'.turned in
      let h = shown_agrees t.0 t.1 u t.2 w.shown w'.shown in
      (agree w.stamps w'.stamps, e, agree w.each.summed w'.each.summed, (t.0, w.scalars ∙ (λ j. checked s (t.1 j) (t.2 j) (h j)) ∙ sym w'.scalars), u)
