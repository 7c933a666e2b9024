-- In a building that fails none of the thirteen checks each edge of the list has two users, and they differ.
use Rattle.std.specs.Prelude.{ℕ, ◌<◌, length}
use Rattle.std.proofs.Common.{arith, sym}
use Rattle.std.proofs.Math.Path.{subst}
use mathlib.Core.List.{List, ◌∷◌}
use Rattle.whole.specs.All.{All, none, more}
use Rattle.whole.specs.laws.Alls.{all_imp}
use Rattle.space.specs.Space.{Point}
use Rattle.ring.specs.Polygon.{Polygon, rings_of}
use Rattle.users.specs.EdgeList.{edge_list}
use Rattle.users.proofs.laws.Two.{Numbers, Separate, Sole, TwoUsers, two_users}
use Rattle.building.specs.Tables.{Tables}
use Rattle.building.specs.Thirteen.{Passes, NoneOfThirteen}
use Rattle.building.specs.laws.Sound.{sound_of}
use Rattle.building.specs.laws.Loadable.{Loadable, PolygonOver}

module _ (n : ℕ) (few : n < 65536) where
  -- numbers of n points
  numbered : {ring : List ℕ} → All (λ (e : ℕ). e < n) ring → Numbers ring
  numbered a = all_imp (λ e h. omega arith) a

  -- a polygon of one ring that passes 01 to 03
  sole : (tolerance : ℕ) (points : List Point) (p : Polygon) → Passes tolerance points p → PolygonOver n p → Sole p
  unfolding rings_of
  sole tolerance points p x o =
      record {
        sound = all_imp (λ r y. sound_of r y.not_01 y.not_02 y.not_03) x.rings-pass;
        numbers = subst (λ (l : List (List ℕ)). All Numbers (p.outer ∷ l)) (sym o.alone) (more (numbered o.outer.known) none);
        separate = subst (λ (l : List (List ℕ)). Separate (p.outer ∷ l)) (sym o.alone) (none, tt);
      }

  each_sole : (tolerance : ℕ) (points : List Point) {ps : List Polygon} → All (Passes tolerance points) ps → All (PolygonOver n) ps → All Sole ps
  each_sole tolerance points none none = none
  each_sole tolerance points (more {x = p} x xs) (more o os) = more (sole tolerance points p x o) (each_sole tolerance points xs os)

pub none-two : (t : Tables) → Loadable t → NoneOfThirteen t → All (TwoUsers (length t.polygons)) (edge_list t.polygons)
none-two t ok sound =
    two_users t.polygons (each_sole (length t.points) (omega (arith, ok.points_few)) t.tolerance t.points sound.polygons-pass ok.each) sound.all_pass.not_08 sound.all_pass.not_09
