-- Any two results that the statement of move_point allows are one: every word of the arrays and the scalars.
use Rattle.std.specs.Prelude.{ℕ, ◌≡◌, List, ℤ, pos}
use Rattle.std.proofs.Common.{sym, ap, ◌∙◌}
use Rattle.whole.specs.laws.Agree.{agree}
use Rattle.space.specs.Space.{Point}
use Rattle.building.specs.declared.Arrays.{Arrays}
use Rattle.building.specs.declared.Scalars.{Scalars}
use Rattle.whole.specs.held.Stored.{upto}
use Rattle.moves.specs.held.Steps.{refind, repart}
use Rattle.moves.specs.held.Writes.{MoveWrites}

module _ (a : Arrays) (s : Scalars) where
  module _ {number n : ℕ} {p : Point} {points' points'' : List ℤ} {stamps' stamps'' findings' findings'' : List ℕ} {parts' parts'' : List ℤ} {r r' : Scalars}
      (m : MoveWrites a s number n p points' stamps' findings' parts' r) (m' : MoveWrites a s number n p points'' stamps'' findings'' parts'' r') where
    same : points' ≡ points''
    same = agree m.points m'.points

    pub move-agrees : (points' ≡ points'') × (stamps' ≡ stamps'') × (findings' ≡ findings'') × (parts' ≡ parts'') × (r ≡ r')
    move-agrees = (
      same,
      agree m.looked.stamped m'.looked.stamped,
      m.looked.found ∙ ap (λ (l : List ℤ). upto (refind s.tolerance l a.rings.entries a.rings.starts a.rings.firsts n) 0 a.findings s.polygons) same ∙ sym m'.looked.found,
      m.looked.summed ∙ ap (λ (l : List ℤ). upto (repart l a.rings.entries a.rings.starts a.rings.firsts n) (pos 0) a.parts s.polygons) same ∙ sym m'.looked.summed,
      agree m.scalars m'.scalars,
    )
