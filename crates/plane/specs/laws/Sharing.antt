-- What `share` finds, test by test.
use Rattle.std.specs.Prelude.{◌≡◌, refl, Bool, true, false, ◌&&◌}
use Rattle.std.proofs.Common.{sym, ap₂, ◌∙◌, true≢false}
use Rattle.std.proofs.Math.Path.{ap}
use Rattle.std.proofs.Math.Bool.{not, ◌||◌}
use Rattle.std.proofs.lemmas.Bool.{false≢true}
use Rattle.plane.specs.Plane.{Segment, side, same_sign, overlap, share}

none_apart : (a b c d : Bool) → (not a || not b) ≡ true → false ≡ (a && b && c && d)
none_apart false b c d e = refl
none_apart true false c d e = refl
none_apart true true c d e = absurd (false≢true e)

none_beside : (a b c d : Bool) → c ≡ true → false ≡ (a && b && not c && d)
none_beside false b c d e = refl
none_beside true false c d e = refl
none_beside true true true d e = refl
none_beside true true false d e = absurd (false≢true e)

as_last : (a b c d : Bool) → (not a || not b) ≡ false → c ≡ false → not d ≡ (a && b && not c && not d)
as_last true true false d e f = refl
as_last true true true d e f = absurd (true≢false f)
as_last true false c d e f = absurd (true≢false e)
as_last false b c d e f = absurd (true≢false e)

module _ (e f : Segment) {beside above : Bool} (on_u : beside ≡ not (overlap e.0.u e.1.u f.0.u f.1.u)) (on-v : above ≡ not (overlap e.0.v e.1.v f.0.v f.1.v)) where
  pub share-apart : (beside || above) ≡ true → false ≡ share e f
  unfolding share
  share-apart t = none_apart (overlap e.0.u e.1.u f.0.u f.1.u) (overlap e.0.v e.1.v f.0.v f.1.v) (not (same_sign (side e.0 e.1 f.0) (side e.0 e.1 f.1))) (not (same_sign (side f.0 f.1 e.0) (side f.0 f.1 e.1))) (sym (ap₂ ◌||◌ on_u on-v) ∙ t)

  module _ {one : Bool} (on-e : one ≡ same_sign (side e.0 e.1 f.0) (side e.0 e.1 f.1)) where
    pub share-beside : one ≡ true → false ≡ share e f
    unfolding share
    share-beside t = none_beside (overlap e.0.u e.1.u f.0.u f.1.u) (overlap e.0.v e.1.v f.0.v f.1.v) (same_sign (side e.0 e.1 f.0) (side e.0 e.1 f.1)) (not (same_sign (side f.0 f.1 e.0) (side f.0 f.1 e.1))) (sym on-e ∙ t)

    pub share-last : {other : Bool} → (beside || above) ≡ false → one ≡ false → other ≡ same_sign (side f.0 f.1 e.0) (side f.0 f.1 e.1) → not other ≡ share e f
    unfolding share
    share-last t s on-f = ap not on-f ∙ as_last (overlap e.0.u e.1.u f.0.u f.1.u) (overlap e.0.v e.1.v f.0.v f.1.v) (same_sign (side e.0 e.1 f.0) (side e.0 e.1 f.1)) (same_sign (side f.0 f.1 e.0) (side f.0 f.1 e.1)) (sym (ap₂ ◌||◌ on_u on-v) ∙ t) (sym on-e ∙ s)
