-- All corners of a path that shares no point with a closed ring are inside it, or none is.
use Rattle.std.specs.Prelude.{ℕ, zero, suc, ◌+◌, ◌<◌, ◌≡◌, Bool, not, ◌&&◌, ◌||◌, ◌⊎◌, ℤ, pos, negsuc, neg_ℤ, nat_abs, ◌+ℤ◌, ◌*ℤ◌, ◌≤ℤ◌, ◌<ℤ◌}
use Rattle.std.proofs.Common.{arith, ◌∙◌, true≢false, inl, inr}
use Rattle.std.proofs.Math.Path.{refl, sym, ap, ap₂}
use Rattle.std.proofs.Math.Bool.{true, false, or-false}
use mathlib.Core.List.{List, [], ◌∷◌}
use Rattle.std.specs.Int.Signed.{lt_z, le_z}
use Rattle.whole.specs.laws.Solve.{k, ◌⊕◌, ◌⊗◌, ⊝◌, ring, ◌≔◌}
use Rattle.whole.specs.laws.Linear.{◌≼◌, ◌≺◌, never, ◌⇒◌, lin}
use Rattle.whole.specs.laws.Tests.{lt_yes, le_yes, le_no, lt_test, ge_test, lt_le}
use Rattle.whole.specs.Lists.{any, tally, steps, steps_from, last_of}
use Rattle.whole.specs.All.{All, none, more}
use Rattle.whole.specs.laws.Alls.{any_none}
use Rattle.plane.specs.Plane.{Spot, Segment, side, same_sign, share}
use Rattle.plane.specs.laws.PlaneTurn.{side-back}
use Rattle.plane.specs.laws.Meet.{Meet}
use Rattle.plane.specs.laws.Found.{found_meet}
use Rattle.plane.specs.laws.Share.{share_exactly}
use Rattle.rays.specs.Inside.{crosses, is_odd, inside}
use Rattle.rays.specs.laws.Flags.{same_test, xor, xor-none, xor_self, xor_same, xor_chain, xor-four}
use Rattle.rays.specs.laws.Signs.{Sides, sides-of, Cut, across_to, across-back, rising_to, rising_back, leaving_to, leaving_back, within_to, within_back, le_or_lt}

-- ---- two segments that do not meet do not cut one another
pub meet-swap : {e f : Segment} → Meet e f → Meet f e
meet-swap m = record { s = m.t; s' = m.t'; t = m.s; t' = m.s'; some = omega (arith, m.some, m.whole); whole = sym m.whole; on_u = sym m.on_u; on-v = sym m.on-v }

pub meet-back : {a b : Spot} {f : Segment} → Meet (b, a) f → Meet (a, b) f
meet-back {a} {b} {f} m = record {
  s = m.s';
  s' = m.s;
  t = m.t;
  t' = m.t';
  some = omega (arith, m.some);
  whole = omega (arith, m.whole);
  on_u = swap (pos m.s) a.u (pos m.s') b.u ∙ m.on_u;
  on-v = swap (pos m.s) a.v (pos m.s') b.v ∙ m.on-v;
}
  where
    swap : (s x t y : ℤ) → s *ℤ x +ℤ t *ℤ y ≡ t *ℤ y +ℤ s *ℤ x
    swap = ring 4 (λ s x t y. s ⊗ x ⊕ t ⊗ y ≔ t ⊗ y ⊕ s ⊗ x) tt

mixed : (x y : ℤ) → ((x ≤ℤ pos 0) × (pos 0 ≤ℤ y)) ⊎ ((pos 0 ≤ℤ x) × (y ≤ℤ pos 0)) → same_sign x y ≡ false
unfolding same_sign
mixed x y (inl h) = ap₂ (λ (s t : Bool). s && lt_z (pos 0) y || lt_z x (pos 0) && t) (ge_test h.0) (ge_test h.1) ∙ go (lt_z x (pos 0))
  where
    go : (s : Bool) → (s && false) ≡ false
    go true = refl
    go false = refl
mixed x y (inr h) = ap₂ (λ (s t : Bool). lt_z (pos 0) x && t || s && lt_z y (pos 0)) (ge_test h.0) (ge_test h.1) ∙ go (lt_z (pos 0) x)
  where
    go : (s : Bool) → (s && false || false) ≡ false
    go true = refl
    go false = refl

no_size : (z : ℤ) → nat_abs z ≡ 0 → z ≡ pos 0
no_size (pos n) e = ap pos e
no_size (negsuc n) e = absurd (omega arith)

some_size : (x y : ℤ) → ((x ≡ pos 0) × (y ≡ pos 0) → ⊥) → 0 < nat_abs x + nat_abs y
some_size x y f = go (nat_abs x + nat_abs y) refl
  where
    go : (n : ℕ) → nat_abs x + nat_abs y ≡ n → 0 < n
    go zero e = absurd (f (no_size x (omega arith), no_size y (omega arith)))
    go (suc n) e = omega arith

pub cut-meet : (a b p q : Spot) → Cut (side a b p) (side a b q) (side p q a) (side p q b) → Meet (a, b) (p, q)
cut-meet a b p q c = go c.some
  where
    go : ((side a b p ≡ pos 0) × (side a b q ≡ pos 0) → ⊥) ⊎ ((side p q a ≡ pos 0) × (side p q b ≡ pos 0) → ⊥) → Meet (a, b) (p, q)
    go (inl f) = found_meet (a, b) (p, q) (mixed (side a b p) (side a b q) c.mixed_e) (mixed (side p q a) (side p q b) c.mixed_f) (some_size (side a b p) (side a b q) f)
    go (inr f) = meet-swap (found_meet (p, q) (a, b) (mixed (side p q a) (side p q b) c.mixed_f) (mixed (side a b p) (side a b q) c.mixed_e) (some_size (side p q a) (side p q b) f))

-- ---- tests
lt_not_le : (x y : ℤ) → lt_z y x ≡ not (le_z x y)
lt_not_le x y = go (le_z x y) refl
  where
    go : (t : Bool) → le_z x y ≡ t → lt_z y x ≡ not t
    go true e = ge_test {a = y} {b = x} (le_yes refl refl e)
    go false e = lt_test {a = y} {b = x} (le_no refl refl e)

pub same_lt : (x y z w : ℤ) → (x <ℤ y → z <ℤ w) → (z <ℤ w → x <ℤ y) → lt_z x y ≡ lt_z z w
same_lt x y z w f g = same_test (lt_z x y) (lt_z z w) (λ e. lt_test (f (lt_yes refl refl e))) (λ e. lt_test (g (lt_yes refl refl e)))

-- the side of the segment turned about
pub back-up : (a b c : Spot) → lt_z (pos 0) (side b a c) ≡ lt_z (side a b c) (pos 0)
back-up a b c = ap (lt_z (pos 0)) (side-back a b c) ∙ same_lt (pos 0) (neg_ℤ (side a b c)) (side a b c) (pos 0) (lin 1 (λ x. k (pos 0) ≺ ⊝ x ⇒ x ≺ k (pos 0)) (omega arith) (side a b c)) (lin 1 (λ x. x ≺ k (pos 0) ⇒ k (pos 0) ≺ ⊝ x) (omega arith) (side a b c))

-- ---- the signs of the sides of two segments that are apart
module _ (a b p q : Spot) (apart : Meet (a, b) (p, q) → ⊥) where
  s : Sides a.v b.v p.v q.v (side a b p) (side a b q) (side p q a) (side p q b)
  s = sides-of a b p q

  uncut : Cut (side a b p) (side a b q) (side p q a) (side p q b) → ⊥
  uncut c = apart (cut-meet a b p q c)

  low-high : a.v ≤ℤ p.v → a.v ≤ℤ q.v → p.v <ℤ b.v → q.v <ℤ b.v → lt_z (pos 0) (side a b p) ≡ lt_z (pos 0) (side a b q)
  low-high h g i j =
      let r : a.v <ℤ b.v = lin 3 (λ a p b. a ≼ p ⇒ p ≺ b ⇒ a ≺ b) (omega arith) a.v p.v b.v h i in
      same_lt (pos 0) (side a b p) (pos 0) (side a b q) (across_to s uncut r h g (lt_le i) (lt_le j)) (across-back s uncut r h g (lt_le i) (lt_le j))

  low_mid : a.v ≤ℤ p.v → p.v <ℤ b.v → b.v ≤ℤ q.v → lt_z (pos 0) (side a b p) ≡ lt_z (side p q b) (pos 0)
  low_mid h g i = same_lt (pos 0) (side a b p) (side p q b) (pos 0) (rising_to s uncut h g i) (rising_back s uncut h g i)

  mid_high : p.v <ℤ a.v → a.v ≤ℤ q.v → q.v <ℤ b.v → lt_z (pos 0) (side a b q) ≡ lt_z (side p q a) (pos 0)
  mid_high h g i = same_lt (pos 0) (side a b q) (side p q a) (pos 0) (leaving_to s uncut h g i) (leaving_back s uncut h g i)

  mid_mid : p.v <ℤ a.v → p.v <ℤ b.v → a.v ≤ℤ q.v → b.v ≤ℤ q.v → lt_z (side p q a) (pos 0) ≡ lt_z (side p q b) (pos 0)
  mid_mid h g i j =
      let r : p.v <ℤ q.v = lin 3 (λ p a q. p ≺ a ⇒ a ≼ q ⇒ p ≺ q) (omega arith) p.v a.v q.v h i in
      same_lt (side p q a) (pos 0) (side p q b) (pos 0) (within_to s uncut r (lt_le h) (lt_le g) i j) (within_back s uncut r (lt_le h) (lt_le g) i j)

-- ---- crossings as tests of heights and sides
unfoldable pub crossing : Bool → Bool → Bool → Bool → Bool
crossing x y up down = x && not y && up || y && not x && down

pub crosses_is : (q : Spot) (e : Segment) → crosses q e ≡ crossing (le_z e.0.v q.v) (le_z e.1.v q.v) (lt_z (pos 0) (side e.0 e.1 q)) (lt_z (side e.0 e.1 q) (pos 0))
unfolding crosses crossing
crosses_is q e =
    ap₂ (λ (s t : Bool). le_z e.0.v q.v && s && lt_z (pos 0) (side e.0 e.1 q) || le_z e.1.v q.v && t && lt_z (side e.0 e.1 q) (pos 0))
    (lt_not_le e.1.v q.v) (lt_not_le e.0.v q.v)

-- whether x is among the places that the ray passes over as its start goes from p to q
unfoldable pub swept : Spot → Spot → Spot → Bool
swept p q x = crossing (le_z x.v q.v) (le_z x.v p.v) (lt_z (side p q x) (pos 0)) (lt_z (pos 0) (side p q x))

-- what is at or below the lower of two heights is at or below the higher
pub never_so : (p q : Spot) → p.v ≤ℤ q.v → (x : Spot) → le_z x.v p.v ≡ true → le_z x.v q.v ≡ false → ⊥
never_so p q level x h g = lin 3 (λ x p q. x ≼ p ⇒ q ≺ x ⇒ p ≼ q ⇒ never) (omega arith) x.v p.v q.v (le_yes refl refl h) (le_no refl refl g) level

module _ (a b p q : Spot) (apart : Meet (a, b) (p, q) → ⊥) (level : p.v ≤ℤ q.v) where
  down : Meet (b, a) (p, q) → ⊥
  down m = apart (meet-back m)

  abbrev A⁺ : Bool
  A⁺ = lt_z (pos 0) (side a b p)

  abbrev A⁻ : Bool
  A⁻ = lt_z (side a b p) (pos 0)

  abbrev B⁺ : Bool
  B⁺ = lt_z (pos 0) (side a b q)

  abbrev B⁻ : Bool
  B⁻ = lt_z (side a b q) (pos 0)

  abbrev C⁻ : Bool
  C⁻ = lt_z (side p q a) (pos 0)

  abbrev C⁺ : Bool
  C⁺ = lt_z (pos 0) (side p q a)

  abbrev D⁻ : Bool
  D⁻ = lt_z (side p q b) (pos 0)

  abbrev D⁺ : Bool
  D⁺ = lt_z (pos 0) (side p q b)

  by_heights : (x : Bool) → le_z a.v p.v ≡ x → (y : Bool) → le_z a.v q.v ≡ y → (z : Bool) → le_z b.v p.v ≡ z → (w : Bool) → le_z b.v q.v ≡ w
      → xor (crossing x z A⁺ A⁻) (crossing y w B⁺ B⁻) ≡ xor (crossing y x C⁻ C⁺) (crossing w z D⁻ D⁺)
  unfolding xor crossing
  by_heights true i false j z g w h = absurd (never_so p q level a i j)
  by_heights true i true j true g false h = absurd (never_so p q level b g h)
  by_heights true i true j true g true h = refl
  by_heights true i true j false g false h = ap₂ xor (or-false A⁺) (or-false B⁺) ∙ ap (λ (t : Bool). xor t B⁺) (low-high a b p q apart (le_yes refl refl i) (le_yes refl refl j) (le_no refl refl g) (le_no refl refl h)) ∙ xor_self B⁺
  by_heights true i true j false g true h = xor-none (A⁺ || false) ∙ or-false A⁺ ∙ low_mid a b p q apart (le_yes refl refl i) (le_no refl refl g) (le_yes refl refl h) ∙ sym (or-false D⁻)
  by_heights false i false j true g false h = absurd (never_so p q level b g h)
  by_heights false i false j true g true h = ap (λ (t : Bool). xor t B⁻) (sym (back-up a b p) ∙ low-high b a p q down (le_yes refl refl g) (le_yes refl refl h) (le_no refl refl i) (le_no refl refl j) ∙ back-up a b q) ∙ xor_self B⁻
  by_heights false i false j false g false h = refl
  by_heights false i false j false g true h = sym (back-up a b q) ∙ mid_high b a p q down (le_no refl refl g) (le_yes refl refl h) (le_no refl refl j) ∙ sym (or-false D⁻)
  by_heights false i true j true g false h = absurd (never_so p q level b g h)
  by_heights false i true j true g true h = xor-none A⁻ ∙ sym (back-up a b p) ∙ low_mid b a p q down (le_yes refl refl g) (le_no refl refl i) (le_yes refl refl j) ∙ sym (or-false C⁻) ∙ sym (xor-none (C⁻ || false))
  by_heights false i true j false g false h = or-false B⁺ ∙ mid_high a b p q apart (le_no refl refl i) (le_yes refl refl j) (le_no refl refl h) ∙ sym (or-false C⁻) ∙ sym (xor-none (C⁻ || false))
  by_heights false i true j false g true h = sym (xor_self D⁻) ∙ ap (λ (t : Bool). xor t D⁻) (sym (mid_mid a b p q apart (le_no refl refl i) (le_no refl refl g) (le_yes refl refl j) (le_yes refl refl h))) ∙ ap₂ xor (sym (or-false C⁻)) (sym (or-false D⁻))

  pub level_step : xor (crosses p (a, b)) (crosses q (a, b)) ≡ xor (swept p q a) (swept p q b)
  unfolding swept
  level_step = ap₂ xor (crosses_is p (a, b)) (crosses_is q (a, b)) ∙ by_heights (le_z a.v p.v) refl (le_z a.v q.v) refl (le_z b.v p.v) refl (le_z b.v q.v) refl

-- ---- a closed ring
pub odd_more : (t : Segment → Bool) (e : Segment) (l : List Segment) → is_odd (tally t (e ∷ l)) ≡ xor (t e) (is_odd (tally t l))
unfolding is_odd tally xor
odd_more t e l = go (t e)
  where
    go : (b : Bool) → is_odd (elim b as (λ _. ℕ) [ true ↦ suc (tally t l) | false ↦ tally t l ]) ≡ xor b (is_odd (tally t l))
    go true = refl
    go false = refl

-- tests p and q of edges, whose difference is that of a test of corners
module _ (p q : Segment → Bool) (f : Spot → Bool) where
  abbrev Differ : Segment → Type 0
  Differ e = xor (p e) (q e) ≡ xor (f e.0) (f e.1)

  along : (a : Spot) (l : List Spot) → All Differ (steps_from a l) → xor (is_odd (tally p (steps_from a l))) (is_odd (tally q (steps_from a l))) ≡ xor (f a) (f (last_of a l))
  unfolding steps_from last_of tally is_odd xor
  along a [] none = sym (xor_self (f a))
  along a (b ∷ l) (more h r) =
      ap₂ xor (odd_more p (a, b) (steps_from b l)) (odd_more q (a, b) (steps_from b l))
      ∙ xor-four (p (a, b)) (is_odd (tally p (steps_from b l))) (q (a, b)) (is_odd (tally q (steps_from b l)))
      ∙ ap₂ xor h (along b l r)
      ∙ xor_chain (f a) (f b) (f (last_of b l))

pub unshared : (e f : Segment) → share e f ≡ false → Meet f e → ⊥
unshared e f h m = true≢false (sym ((share_exactly e f).1 (meet-swap m)) ∙ h)

module _ (p q : Spot) where
  steps-differ : p.v ≤ℤ q.v → {l : List Segment} → All (λ (e : Segment). share (p, q) e ≡ false) l → All (λ (e : Segment). xor (crosses p e) (crosses q e) ≡ xor (swept p q e.0) (swept p q e.1)) l
  steps-differ level none = none
  steps-differ level (more {x = e} h r) = more (level_step e.0 e.1 p q (unshared (p, q) e h) level) (steps-differ level r)

  level_inside : p.v ≤ℤ q.v → (a : Spot) (l : List Spot) → last_of a l ≡ a → All (λ (e : Segment). share (p, q) e ≡ false) (steps (a ∷ l)) → inside p (steps (a ∷ l)) ≡ inside q (steps (a ∷ l))
  unfolding inside steps
  level_inside level a l closed h =
      xor_same (is_odd (tally (crosses p) (steps_from a l))) (is_odd (tally (crosses q) (steps_from a l)))
      (along (crosses p) (crosses q) (swept p q) a l (steps-differ level h) ∙ ap (λ (x : Spot). xor (swept p q a) (swept p q x)) closed ∙ xor_self (swept p q a))

share-turn : (p q : Spot) (e : Segment) → share (p, q) e ≡ false → share (q, p) e ≡ false
share-turn p q e h = go (share (q, p) e) refl
  where
    go : (b : Bool) → share (q, p) e ≡ b → share (q, p) e ≡ false
    go true z = absurd (unshared (p, q) e h (meet-swap (meet-back ((share_exactly (q, p) e).0 z))))
    go false z = z

all-turn : (p q : Spot) {l : List Segment} → All (λ (e : Segment). share (p, q) e ≡ false) l → All (λ (e : Segment). share (q, p) e ≡ false) l
all-turn p q none = none
all-turn p q (more {x = e} h r) = more (share-turn p q e h) (all-turn p q r)

-- The two ends of a segment that shares no point with a closed ring are both inside it, or both outside.
module _ (a : Spot) (l : List Spot) (closed : last_of a l ≡ a) where
  pub same-inside : (p q : Spot) → any (share (p, q)) (steps (a ∷ l)) ≡ false → inside p (steps (a ∷ l)) ≡ inside q (steps (a ∷ l))
  same-inside p q h = go (le_or_lt p.v q.v) (any_none (share (p, q)) (steps (a ∷ l)) h)
    where
      go : (p.v ≤ℤ q.v) ⊎ (q.v <ℤ p.v) → All (λ (e : Segment). share (p, q) e ≡ false) (steps (a ∷ l)) → inside p (steps (a ∷ l)) ≡ inside q (steps (a ∷ l))
      go (inl level) r = level_inside p q level a l closed r
      go (inr level) r = sym (level_inside q p (lt_le level) a l closed (all-turn p q r))

  -- All corners of a path that shares no point with a closed ring are inside it, or none is.
  pub path_inside : (p : Spot) (path : List Spot) → All (λ (e : Segment). any (share e) (steps (a ∷ l)) ≡ false) (steps_from p path) → All (λ (q : Spot). inside q (steps (a ∷ l)) ≡ inside p (steps (a ∷ l))) path
  unfolding steps_from
  path_inside p [] none = none
  path_inside p (q ∷ path) (more h r) = let e = sym (same-inside p q h) in more e (all-through e (path_inside q path r))
    where
      all-through : {x y : Bool} {m : List Spot} → x ≡ y → All (λ (q : Spot). inside q (steps (a ∷ l)) ≡ x) m → All (λ (q : Spot). inside q (steps (a ∷ l)) ≡ y) m
      all-through e none = none
      all-through e (more h r) = more (h ∙ e) (all-through e r)
