-- Which axis the tests of sizes find.
use Rattle.std.specs.Prelude.{◌≡◌, Bool, true, false, ◌&&◌, leb, nat_abs}
use Rattle.std.proofs.Math.Path.{ap, ap₂}
use Rattle.std.proofs.Math.Bool.{cond}
use Rattle.space.specs.declared.Axis.TheVariants.{X, Y, Z}
use Rattle.space.specs.Space.{Point}
use Rattle.plane.specs.Plane.{largest_axis_of}

module _ (n : Point) where
  pub axis-x : (leb (nat_abs n.y) (nat_abs n.x) && leb (nat_abs n.z) (nat_abs n.x)) ≡ true → largest_axis_of n ≡ X
  unfolding largest_axis_of
  axis-x e = ap (λ (t : Bool). cond t X (cond (leb (nat_abs n.z) (nat_abs n.y)) Y Z)) e

  axis-rest : (leb (nat_abs n.y) (nat_abs n.x) && leb (nat_abs n.z) (nat_abs n.x)) ≡ false → {t : Bool} → leb (nat_abs n.z) (nat_abs n.y) ≡ t → largest_axis_of n ≡ cond t Y Z
  unfolding largest_axis_of
  axis-rest e f = ap₂ (λ (t u : Bool). cond t X (cond u Y Z)) e f

  pub axis-y : (leb (nat_abs n.y) (nat_abs n.x) && leb (nat_abs n.z) (nat_abs n.x)) ≡ false → leb (nat_abs n.z) (nat_abs n.y) ≡ true → largest_axis_of n ≡ Y
  axis-y e f = axis-rest e f

  pub axis_z : (leb (nat_abs n.y) (nat_abs n.x) && leb (nat_abs n.z) (nat_abs n.x)) ≡ false → leb (nat_abs n.z) (nat_abs n.y) ≡ false → largest_axis_of n ≡ Z
  axis_z e f = axis-rest e f
