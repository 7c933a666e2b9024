-- It does not matter which corner of a ring its ray starts from: where two rings share no point, all corners of the one are inside
-- the other or none is.
use Rattle.std.specs.Prelude.{ℕ, zero, suc, ◌<◌, ◌≡◌, true, length, get_or, ℤ}
use Rattle.std.proofs.Common.{arith, ◌∙◌}
use Rattle.std.proofs.Math.Path.{refl, sym, ap, ap₂}
use Rattle.std.proofs.Math.Bool.{Bool, false, not, ◌||◌}
use mathlib.Core.List.{List, [], ◌∷◌}
use Rattle.whole.specs.Lists.{any, any_two, steps, steps_from, last_of}
use Rattle.whole.specs.All.{All, none, more}
use Rattle.whole.specs.laws.Alls.{any_none, none_any, all_imp}
use Rattle.whole.specs.laws.Reverse.{any_or, any_two_or}
use Rattle.whole.specs.laws.Search.{two-parts}
use Rattle.plane.specs.Plane.{Spot, share}
use Rattle.rays.specs.Inside.{inside}
use Rattle.rays.proofs.laws.Parity.{path_inside}
use Rattle.holes.specs.Holes.{meet, is_shared, is_inside, is_nested, is_opposite, is_misplaced_of}
use Rattle.holes.specs.held.Corners.{stands, nested}
use Rattle.holes.specs.laws.Some.{any_agree}
use Rattle.holes.specs.laws.Meeting.{meet-sym}

-- a ring that is there and ends where it begins
pub data Closed : List Spot → Type 0 where
  closed : {a : Spot} {l : List Spot} → last_of a l ≡ a → Closed (a ∷ l)

module _ {s : List Spot} (c : Closed s) where
  -- each corner of a ring that shares no point with s is inside s as the first is
  pub alike : (p : Spot) (path : List Spot) → meet (p ∷ path) s ≡ false → All (λ (q : Spot). inside q (steps s) ≡ inside p (steps s)) path
  unfolding meet steps
  alike p path h = go s c h
    where
      go : (s : List Spot) → Closed s → any (λ e. any (share e) (steps s)) (steps_from p path) ≡ false → All (λ (q : Spot). inside q (steps s) ≡ inside p (steps s)) path
      go [] x h = elim x [ ]
      go (a ∷ l) (closed e) h = path_inside a l e p path (any_none (λ e. any (share e) (steps (a ∷ l))) (steps_from p path) h)

  -- so that one corner tells
  pub first_tells : (p : Spot) (path : List Spot) → meet (p ∷ path) s ≡ false → is_inside (p ∷ path) s ≡ inside p (steps s)
  unfolding is_inside
  first_tells p path h = ap not (any_or out p path) ∙ go (inside p (steps s)) (alike p path h)
    where
      out : Spot → Bool
      out q = not (inside q (steps s))

      go : (b : Bool) → All (λ (q : Spot). inside q (steps s) ≡ b) path → not (not b || any out path) ≡ b
      go true a = ap not (none_any out path (all_imp (λ q e. ap not e) a))
      go false a = refl

  -- whichever it is
  pub corner_tells : (d : Spot) (r : List Spot) (i : ℕ) → i < length r → meet r s ≡ false → is_inside r s ≡ inside (get_or r i d) (steps s)
  corner_tells d [] i l h = absurd (omega arith)
  corner_tells d (p ∷ path) zero l h = first_tells p path h
  corner_tells d (p ∷ path) (suc i) l h = first_tells p path h ∙ sym (at path i (alike p path h) (omega arith))
    where
      at : (path : List Spot) (i : ℕ) → All (λ (q : Spot). inside q (steps s) ≡ inside p (steps s)) path → i < length path → inside (get_or path i d) (steps s) ≡ inside p (steps s)
      at [] i none l = absurd (omega arith)
      at (q ∷ path) zero (more e a) l = e
      at (q ∷ path) (suc i) (more e a) l = at path i a (omega arith)

-- ---- 0F, where 0E passed: one corner a ring, here the first
module _ (d : Spot) where
  inside_is : {r s : List Spot} → Closed r → Closed s → meet r s ≡ false → is_inside r s ≡ stands d r s
  inside_is (closed {a = p} {l = path} f) c h = first_tells c p path h

  nested_is : {r s : List Spot} → Closed r → Closed s → meet r s ≡ false → is_nested r s ≡ nested d r s
  unfolding is_nested
  nested_is {r} {s} c e h = ap₂ ◌||◌ (inside_is c e h) (inside_is e c (meet-sym s r ∙ h))

  -- inner rings that share no point with the outer one, and none with one another
  outside_tells : {outer : List Spot} {inner : List (List Spot)} → Closed outer → All Closed inner → any (meet outer) inner ≡ false
      → any (λ r. not (is_inside r outer)) inner ≡ any (λ r. not (stands d r outer)) inner
  outside_tells {outer} {inner} c cs h = any_agree (λ r. not (is_inside r outer)) (λ r. not (stands d r outer)) (go cs (any_none (meet outer) inner h))
    where
      go : {l : List (List Spot)} → All Closed l → All (λ (r : List Spot). meet outer r ≡ false) l → All (λ (r : List Spot). not (is_inside r outer) ≡ not (stands d r outer)) l
      go none none = none
      go (more {x = r} k ks) (more e es) = more (ap not (inside_is k c (meet-sym r outer ∙ e))) (go ks es)

  nested_tells : {inner : List (List Spot)} → All Closed inner → any_two meet inner ≡ false → any_two is_nested inner ≡ any_two (nested d) inner
  unfolding any_two
  nested_tells none h = refl
  nested_tells (more {x = r} {l = l} k ks) h =
      let w = two-parts meet r l h in
      any_two_or is_nested r l
      ∙ ap₂ ◌||◌ (any_agree (is_nested r) (nested d r) (go ks (any_none (meet r) l w.0))) (nested_tells ks w.1)
      ∙ sym (any_two_or (nested d) r l)
    where
      go : {l : List (List Spot)} → All Closed l → All (λ (s : List Spot). meet r s ≡ false) l → All (λ (s : List Spot). is_nested r s ≡ nested d r s) l
      go none none = none
      go (more c cs) (more e es) = more (nested_is k c e) (go cs es)

  pub corners-tell : {outer : List Spot} {inner : List (List Spot)} → Closed outer → All Closed inner → is_shared (outer ∷ inner) ≡ false → (c : ℤ) (cs : List ℤ)
      → is_misplaced_of outer inner c cs ≡ (any (λ r. not (stands d r outer)) inner || any_two (nested d) inner || any (λ d. not (is_opposite c d)) cs)
  unfolding is_misplaced_of is_shared
  corners-tell {outer} {inner} k ks h c cs =
      let w = two-parts meet outer inner h in
      ap₂ (λ (x y : Bool). x || y || any (λ d. not (is_opposite c d)) cs) (outside_tells k ks w.0) (nested_tells ks w.1)
