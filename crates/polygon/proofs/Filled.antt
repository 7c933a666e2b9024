-- The numbers of a ring's places on one axis, copied one after another; and the edges between them.
use Prim.Native.Nat.{ℕ, suc, ◌+◌, ◌*◌, ◌-◌, ◌≤◌, ◌<◌}
use native.Mathlib.Omega.{arith}
use mathlib.Core.Path.{◌≡◌, refl, sym, ap, ap₂, ◌∙◌, subst}
use mathlib.Core.List.{List, [], ◌∷◌, map}
use lib.ListN.{length, get_or, set, length-set, length-map}
use lib.Seq.{ext_get_or}
use lib.IntN.{ℤ, pos}
use Rattle.whole.specs.Lists.{steps, tab}
use Rattle.whole.specs.laws.Places.{tab-length, tab-at, steps-length, steps-at, map_at}
use Rattle.whole.specs.held.Small.{Small}
use Rattle.space.specs.declared.Axis.{Axis}
use Rattle.space.specs.Space.{places}
use Rattle.plane.specs.Plane.{Spot, drop_axis}
use Rattle.polygon.specs.Ring.{edges_in}
use Rattle.crossing.specs.Crossed.{crossed_at}
use Rattle.space.specs.held.Points.{points_of, Coords, Known}
use Rattle.plane.specs.held.Edges.{spot, edge_at}
use Rattle.crossing.specs.held.Columns.{Spread}
use Rattle.polygon.specs.held.Columns.{Filled, seen_spots}
use Rattle.space.specs.laws.Sizes.{point_at}
use Rattle.fan.specs.laws.Planes.{u_of, v_of, drop_is}
use Rattle.extents.specs.laws.Copy.{copy_more}

-- ---- the copy: the first i are there
pub record Filling (flat : List ℤ) (ring : List ℕ) (k n : ℕ) (room : List ℤ) (i : ℕ) : Type 0 where
  pub upto : i ≤ length ring
  pub all : length room ≡ n
  pub each : (j : ℕ) → j < i → get_or room j (pos 0) ≡ get_or flat (3 * get_or ring j 0 + k) (pos 0)

pub filling_start : (flat : List ℤ) (ring : List ℕ) (k : ℕ) (room : List ℤ) → Filling flat ring k (length room) room 0
filling_start flat ring k room = record { upto = omega arith; all = refl; each = λ j h. absurd (omega arith) }

pub filling_more : {flat : List ℤ} {ring : List ℕ} {k n : ℕ} {room : List ℤ} {i : ℕ} → Filling flat ring k n room i → i < length ring → i < length room
    → (x : ℤ) → x ≡ get_or flat (3 * get_or ring i 0 + k) (pos 0) → Filling flat ring k n (set room i x) (i + 1)
filling_more {flat} {ring} {k} {n} {room} {i} f l h x e =
    record {
      upto = omega arith;
      all = length-set room i x ∙ f.all;
      each = copy_more (pos 0) (λ j. get_or flat (3 * get_or ring j 0 + k) (pos 0)) room i h f.each x e;
    }

pub filling_end : {flat : List ℤ} {ring : List ℕ} {k n : ℕ} {room : List ℤ} {i : ℕ} → Filling flat ring k n room i → i ≡ length ring → Filled flat ring k n room
filling_end f e = record { all = f.all; each = λ j h. f.each j (omega arith) }

-- ---- what two copies show
module _ {flat : List ℤ} {ring : List ℕ} {j k n : ℕ} {us vs : List ℤ} (h : Coords flat) (few : length ring ≤ n) (some : 1 ≤ length ring) (p : Filled flat ring j n us) (q : Filled flat ring k n vs) where
  pub spread_is : Spread us vs (length ring - 1)
  spread_is =
      record {
        room_u = omega (arith, p.all);
        room_v = omega (arith, q.all);
        close_u = λ i l. subst (λ (z : ℤ). Small 100000 z) (sym (p.each i (omega arith))) (h.small (3 * get_or ring i 0 + j));
        close_v = λ i l. subst (λ (z : ℤ). Small 100000 z) (sym (q.each i (omega arith))) (h.small (3 * get_or ring i 0 + k));
      }

  spots : List Spot
  spots = seen_spots flat ring j k

  nowhere : Spot
  nowhere = spot (pos 0) (pos 0)

  spots-length : length spots ≡ length ring
  unfolding spots
  spots-length = length-map ring (λ p. spot (get_or flat (3 * p + j) (pos 0)) (get_or flat (3 * p + k) (pos 0)))

  spot_is : (i : ℕ) → i < length ring → get_or spots i nowhere ≡ spot (get_or us i (pos 0)) (get_or vs i (pos 0))
  unfolding spots
  spot_is i l =
      map_at (λ p. spot (get_or flat (3 * p + j) (pos 0)) (get_or flat (3 * p + k) (pos 0))) ring i 0 nowhere l
      ∙ (λ t. spot (sym (p.each i l) t) (sym (q.each i l) t))

  edges_are : tab (edge_at us vs) (length ring - 1) ≡ steps spots
  edges_are = ext_get_or (nowhere, nowhere) _ _ (tab-length (edge_at us vs) (length ring - 1) ∙ ap (λ (m : ℕ). m - 1) (sym spots-length) ∙ sym (steps-length spots)) each
    where
      each : (i : ℕ) → i < length (tab (edge_at us vs) (length ring - 1)) → get_or (tab (edge_at us vs) (length ring - 1)) i (nowhere, nowhere) ≡ get_or (steps spots) i (nowhere, nowhere)
      each i l =
          let m : i < length ring - 1 = subst (λ (m : ℕ). i < m) (tab-length (edge_at us vs) (length ring - 1)) l in
          tab-at (edge_at us vs) (length ring - 1) i (nowhere, nowhere) m
          ∙ sym (steps-at spots i (nowhere, nowhere) nowhere (omega (arith, spots-length)) ∙ (λ t. (spot_is i (omega arith) t, spot_is (i + 1) (omega arith) t)))

  pub crossed_is : crossed_at (tab (edge_at us vs) (length ring - 1)) ≡ crossed_at (steps (seen_spots flat ring j k))
  unfolding spots
  crossed_is = ap crossed_at edges_are

-- ---- the plane left by dropping an axis
pub seen_is : {flat : List ℤ} → Coords flat → (axis : Axis) (ring : List ℕ) → ((i : ℕ) → i < length ring → get_or ring i 0 < 512)
    → seen_spots flat ring (u_of axis) (v_of axis) ≡ map (drop_axis axis) (places (points_of flat) ring)
unfolding places
seen_is h axis [] k = refl
seen_is {flat} h axis (p ∷ ring) k =
    ap₂ (λ (s : Spot) (l : List Spot). s ∷ l) (drop_is axis flat p ∙ ap (drop_axis axis) (sym (point_at h p (k 0 (omega arith))))) (seen_is h axis ring (λ i l. k (suc i) (omega arith)))

pub in_plane : {flat : List ℤ} {ring : List ℕ} → Coords flat → Known ring → (axis : Axis)
    → crossed_at (steps (seen_spots flat ring (u_of axis) (v_of axis))) ≡ crossed_at (edges_in axis (places (points_of flat) ring))
unfolding edges_in
in_plane {flat} {ring} h k axis = ap (λ (l : List Spot). crossed_at (steps l)) (seen_is h axis ring k.each)
