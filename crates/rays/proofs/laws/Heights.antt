-- Whether an edge crosses the ray, told by the heights of its ends: most edges need no side.
use Rattle.std.specs.Prelude.{◌≡◌, Bool, true, false, pos}
use Rattle.std.proofs.Math.Path.{sym}
use Rattle.std.proofs.Common.{ap₂, ◌∙◌}
use Rattle.std.proofs.Math.Bool.{or-false}
use Rattle.std.specs.Int.Signed.{lt_z, le_z}
use Rattle.plane.specs.Plane.{Spot, side}
use Rattle.rays.specs.Inside.{crosses}
use Rattle.rays.proofs.laws.Parity.{crossing, crosses_is}

module _ (q a b : Spot) where
  heights : {x y : Bool} → le_z a.v q.v ≡ x → le_z b.v q.v ≡ y → crosses q (a, b) ≡ crossing x y (lt_z (pos 0) (side a b q)) (lt_z (side a b q) (pos 0))
  heights e f = crosses_is q (a, b) ∙ ap₂ (λ (s t : Bool). crossing s t (lt_z (pos 0) (side a b q)) (lt_z (side a b q) (pos 0))) e f

  pub both-low : le_z a.v q.v ≡ true → le_z b.v q.v ≡ true → false ≡ crosses q (a, b)
  unfolding crossing
  both-low e f = sym (heights e f)

  pub both_high : le_z a.v q.v ≡ false → le_z b.v q.v ≡ false → false ≡ crosses q (a, b)
  unfolding crossing
  both_high e f = sym (heights e f)

  pub going_up : le_z a.v q.v ≡ true → le_z b.v q.v ≡ false → lt_z (pos 0) (side a b q) ≡ crosses q (a, b)
  unfolding crossing
  going_up e f = sym (heights e f ∙ or-false (lt_z (pos 0) (side a b q)))

  pub going_down : le_z a.v q.v ≡ false → le_z b.v q.v ≡ true → lt_z (side a b q) (pos 0) ≡ crosses q (a, b)
  unfolding crossing
  going_down e f = sym (heights e f)
