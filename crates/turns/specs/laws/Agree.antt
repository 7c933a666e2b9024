-- Any two results that the statement of turn_polygon allows are one: every word of the arrays and the scalars.
use Rattle.std.specs.Prelude.{ℕ, ◌≡◌, refl, List, ℤ}
use Rattle.std.proofs.Common.{sym, ap, ◌∙◌}
use Rattle.whole.specs.laws.Agree.{agree}
use Rattle.building.specs.declared.Arrays.{Arrays}
use Rattle.building.specs.declared.Scalars.{Scalars}
use Rattle.building.specs.held.Holds.{corrected}
use Rattle.building.specs.laws.Agree.{shown_agrees}
use Rattle.turns.specs.held.Writes.{TurnWrites}

module _ (a : Arrays) (s : Scalars) where
  pub turn_agrees : {number n : ℕ} {entries' entries'' stamps' stamps'' findings' findings'' : List ℕ} {parts' parts'' : List ℤ} {turned' turned'' : List ℕ} {r r' : Scalars} → TurnWrites a s number n entries' stamps' findings' parts' turned' r → TurnWrites a s number n entries'' stamps'' findings'' parts'' turned'' r'
      → (entries' ≡ entries'') × (stamps' ≡ stamps'') × (findings' ≡ findings'') × (parts' ≡ parts'') × (turned' ≡ turned'') × (r ≡ r')
  turn_agrees {number = number} t t' =
      let u = agree t.turned t'.turned in
      (agree t.entries t'.entries, agree t.stamps t'.stamps, agree t.findings t'.findings, agree t.parts t'.parts, u, t.scalars ∙ ap (corrected s number) (shown_agrees {t = a.table} {k = s.edges} refl refl u refl t.shown t'.shown) ∙ sym t'.scalars)
