-- A turned ring has the same places inside; segments share a point whichever comes first, and turned.
use Rattle.std.specs.Prelude.{◌≡◌, Bool, ◌&&◌, ◌||◌, pos}
use Rattle.std.proofs.Math.Path.{refl, sym, ap}
use Rattle.std.proofs.Common.{ap₂, ◌∙◌}
use Rattle.std.proofs.Math.Bool.{or_comm}
use mathlib.Core.List.{List, [], ◌∷◌, map, reverse, reverse_aux}
use Rattle.std.specs.Int.Signed.{lt_z, le_z}
use Rattle.whole.specs.Lists.{tally, steps}
use Rattle.whole.specs.laws.Reverse.{back, steps-reverse}
use Rattle.plane.specs.Plane.{Spot, Segment, side, share}
use Rattle.plane.specs.laws.PlaneTurn.{share_back}
use Rattle.plane.specs.laws.Share.{share_exactly}
use Rattle.rays.specs.Inside.{crosses, is_odd, inside}
use Rattle.rays.specs.laws.Flags.{same_test, xor, xor-none, xor_assoc, xor_comm}
use Rattle.rays.proofs.laws.Parity.{back-up, meet-swap, odd_more}

-- ---- segments
pub share-sym : (e f : Segment) → share e f ≡ share f e
share-sym e f = same_test (share e f) (share f e) (λ h. (share_exactly f e).1 (meet-swap ((share_exactly e f).0 h))) (λ h. (share_exactly e f).1 (meet-swap ((share_exactly f e).0 h)))

pub both-back : (e f : Segment) → share (back e) (back f) ≡ share e f
both-back e f = share_back f e ∙ share-sym f e

pub crosses-back : (q : Spot) (e : Segment) → crosses q (back e) ≡ crosses q e
unfolding crosses
crosses-back q e =
    ap₂ (λ (x y : Bool). le_z e.1.v q.v && lt_z q.v e.0.v && x || le_z e.0.v q.v && lt_z q.v e.1.v && y) (back-up e.0 e.1 q) (sym (back-up e.1 e.0 q))
    ∙ or_comm (le_z e.1.v q.v && lt_z q.v e.0.v && lt_z (side e.0 e.1 q) (pos 0)) (le_z e.0.v q.v && lt_z q.v e.1.v && lt_z (pos 0) (side e.0 e.1 q))

-- ---- rings
module _ (q : Spot) where
  abbrev odd : List Segment → Bool
  odd l = is_odd (tally (crosses q) l)

  odd-back : (l r : List Segment) → odd (reverse_aux (map back l) r) ≡ xor (odd l) (odd r)
  unfolding tally is_odd xor
  odd-back [] r = refl
  odd-back (e ∷ l) r =
      odd-back l (back e ∷ r)
      ∙ ap (xor (odd l)) (odd_more (crosses q) (back e) r ∙ ap (λ (b : Bool). xor b (odd r)) (crosses-back q e))
      ∙ sym (xor_assoc (odd l) (crosses q e) (odd r))
      ∙ ap (λ (b : Bool). xor b (odd r)) (xor_comm (odd l) (crosses q e) ∙ sym (odd_more (crosses q) e l))

  pub inside-turned : (ring : List Spot) → inside q (steps (reverse ring)) ≡ inside q (steps ring)
  unfolding inside tally is_odd
  inside-turned ring = ap odd (steps-reverse ring) ∙ odd-back (steps ring) [] ∙ xor-none (odd (steps ring))
