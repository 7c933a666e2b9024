-- 0E in plain words: two rings share a point when two of their edges have a rational point in common.
use Rattle.std.specs.Prelude.{ℕ, ◌<◌, ◌≡◌, true, length, pos}
use Rattle.std.proofs.Common.{◌∙◌}
use mathlib.Core.List.{List, []}
use Rattle.std.proofs.Math.ListN.{get_or}
use Rattle.whole.specs.Lists.{any, steps, least_index}
use Rattle.whole.specs.laws.Index.{any-holds, holds-any, two-holds, holds-two}
use Rattle.plane.specs.Plane.{Spot, Segment, share}
use Rattle.plane.specs.held.Edges.{spot}
use Rattle.plane.specs.laws.Common.{CommonPoint, share_is}
use Rattle.rays.proofs.laws.Turned.{share-sym}
use Rattle.holes.specs.Holes.{meet, is_shared}
use Rattle.holes.specs.laws.Some.{any_swap}

-- rings share a point whichever is named first
pub meet-sym : (r s : List Spot) → meet r s ≡ meet s r
unfolding meet
meet-sym r s = any_swap share (steps r) (steps s) ∙ (λ i. any (λ f. any (λ e. share-sym e f i) (steps r)) (steps s))

-- where a list has no edge, this one stands for it
abbrev pub nowhere : Segment
nowhere = (spot (pos 0) (pos 0), spot (pos 0) (pos 0))

-- an edge of the one ring and an edge of the other that have a point in common
pub record Meeting (r s : List Spot) : Type 0 where
  pub first : ℕ
  pub second : ℕ
  pub first-there : first < length (steps r)
  pub second_there : second < length (steps s)
  pub point : CommonPoint (get_or (steps r) first nowhere) (get_or (steps s) second nowhere)

module _ (r s : List Spot) where
  met : meet r s ≡ true → Meeting r s
  unfolding meet
  met h =
      let x = any-holds (λ e. any (share e) (steps s)) nowhere (steps r) h in
      let i = least_index (λ e. any (share e) (steps s)) (steps r) in
      let e = get_or (steps r) i nowhere in
      let y = any-holds (share e) nowhere (steps s) x.1 in
      let j = least_index (share e) (steps s) in
      record { first = i; second = j; first-there = x.0; second_there = y.0; point = (share_is e (get_or (steps s) j nowhere)).0 y.1 }

  meets : Meeting r s → meet r s ≡ true
  unfolding meet
  meets m =
      let e = get_or (steps r) m.first nowhere in
      holds-any (λ e. any (share e) (steps s)) nowhere (steps r) m.first
      (m.first-there, holds-any (share e) nowhere (steps s) m.second (m.second_there, (share_is e (get_or (steps s) m.second nowhere)).1 m.point))

-- two rings of a polygon, one before the other, have such edges
pub record SharedPoint (rings : List (List Spot)) : Type 0 where
  pub low : ℕ
  pub high : ℕ
  pub order : low < high
  pub within : high < length rings
  pub meeting : Meeting (get_or rings low []) (get_or rings high [])

-- 0E says just that
module _ (rings : List (List Spot)) where
  pub shared_is : is_shared rings ≡ true → SharedPoint rings
  unfolding is_shared
  shared_is h =
      let t = two-holds meet [] rings h in
      record { low = t.low; high = t.high; order = t.order; within = t.within; meeting = met (get_or rings t.low []) (get_or rings t.high []) t.related }

  pub is_shared_lem : SharedPoint rings → is_shared rings ≡ true
  unfolding is_shared
  is_shared_lem p =
      holds-two meet [] rings
      (record { low = p.low; high = p.high; order = p.order; within = p.within; related = meets (get_or rings p.low []) (get_or rings p.high []) p.meeting })
