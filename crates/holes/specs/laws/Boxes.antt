-- Boxes around rings: one that holds a place more holds those before, and what lies beside a box shares no point with what is in it.
use Rattle.std.specs.Prelude.{ℕ, suc, ◌+◌, ◌<◌, ◌≡◌, Bool, cond, ◌&&◌, ◌||◌, ◌⊎◌, List, [], ◌∷◌, map, length, get_or, ℤ, ◌≤ℤ◌, ◌<ℤ◌}
use Rattle.std.proofs.Common.{arith, sym, ap₂, ◌∙◌, subst, inl, inr}
use Rattle.std.proofs.Math.Decide.{dec_lt}
use Rattle.std.proofs.Math.Path.{refl, ap}
use Rattle.std.proofs.Math.Bool.{true, false, not}
use Rattle.std.proofs.lemmas.Bool.{false≢true}
use Rattle.std.specs.Int.Signed.{lt_z}
use Rattle.whole.specs.Lists.{any, steps, steps_from}
use Rattle.whole.specs.All.{All, none, more}
use Rattle.whole.specs.held.Small.{Small}
use Rattle.whole.specs.laws.Alls.{none_any}
use Rattle.whole.specs.laws.Bools.{and_left, and_right, and_false, or_cases}
use Rattle.whole.specs.laws.Linear.{◌≼◌, ◌≺◌, ◌⇒◌, lin}
use Rattle.whole.specs.laws.Tests.{lt_yes, lt_no, lt_test, lt_le}
use Rattle.plane.specs.Plane.{Spot, Segment, side, same_sign, under, overlap, share}
use Rattle.plane.specs.held.Edges.{Close}
use Rattle.holes.specs.declared.bounds.Bounds.{Bounds}
use Rattle.holes.specs.Holes.{meet}
use Rattle.holes.specs.held.Boxes.{further, Sized, Widened, Within, Bounded, parted, beside}

-- ---- the larger of two, and the smaller
le_le : (a b c : ℤ) → a ≤ℤ b → b ≤ℤ c → a ≤ℤ c
le_le = lin 3 (λ a b c. a ≼ b ⇒ b ≼ c ⇒ a ≼ c) (omega arith)

le_self : (a : ℤ) → a ≤ℤ a
le_self = lin 1 (λ a. a ≼ a) (omega arith)

below_both : (p q : ℤ) → (further false p q ≤ℤ p) × (further false p q ≤ℤ q)
below_both p q = go (lt_z q p) refl
  where
    go : (t : Bool) → lt_z q p ≡ t → (cond t q p ≤ℤ p) × (cond t q p ≤ℤ q)
    go true e = (lt_le (lt_yes refl refl e), le_self q)
    go false e = (le_self p, lt_no refl refl e)

above-both : (p q : ℤ) → (p ≤ℤ further true p q) × (q ≤ℤ further true p q)
above-both p q = go (lt_z q p) refl
  where
    go : (t : Bool) → lt_z q p ≡ t → (p ≤ℤ cond t p q) × (q ≤ℤ cond t p q)
    go true e = (le_self p, lt_le (lt_yes refl refl e))
    go false e = (lt_no refl refl e, le_self q)

further_small : {n : ℕ} (high : Bool) (p q : ℤ) → Small n p → Small n q → Small n (further high p q)
further_small {n} true p q h l = go (lt_z q p)
  where
    go : (t : Bool) → Small n (cond t p q)
    go true = h
    go false = l
further_small {n} false p q h l = go (lt_z q p)
  where
    go : (t : Bool) → Small n (cond t q p)
    go true = l
    go false = h

-- ---- a box made to hold one place more
module _ {b r : Bounds} {p : Spot} (w : Widened b p r) where
  widened_sized : Sized b → Close p → Sized r
  widened_sized s c = record {
    lu = subst (λ (z : ℤ). Small 100000 z) (sym w.lu) (further_small false b.lu p.u s.lu c.on_u);
    hu = subst (λ (z : ℤ). Small 100000 z) (sym w.hu) (further_small true b.hu p.u s.hu c.on_u);
    lv = subst (λ (z : ℤ). Small 100000 z) (sym w.lv) (further_small false b.lv p.v s.lv c.on-v);
    hv = subst (λ (z : ℤ). Small 100000 z) (sym w.hv) (further_small true b.hv p.v s.hv c.on-v);
  }

  -- a box of which each number is as far out holds what the box held
  outer : (q : Spot) → further false b.lu p.u ≤ℤ q.u → q.u ≤ℤ further true b.hu p.u → further false b.lv p.v ≤ℤ q.v → q.v ≤ℤ further true b.hv p.v → Within r q
  outer q x y z t = record {
    left = subst (λ (n : ℤ). n ≤ℤ q.u) (sym w.lu) x;
    right = subst (λ (n : ℤ). q.u ≤ℤ n) (sym w.hu) y;
    low = subst (λ (n : ℤ). n ≤ℤ q.v) (sym w.lv) z;
    high = subst (λ (n : ℤ). q.v ≤ℤ n) (sym w.hv) t;
  }

  still_within : (q : Spot) → Within b q → Within r q
  still_within q i =
      outer q
      (le_le (further false b.lu p.u) b.lu q.u (below_both b.lu p.u).0 i.left)
      (le_le q.u b.hu (further true b.hu p.u) i.right (above-both b.hu p.u).0)
      (le_le (further false b.lv p.v) b.lv q.v (below_both b.lv p.v).0 i.low)
      (le_le q.v b.hv (further true b.hv p.v) i.high (above-both b.hv p.v).0)

  now_within : Within r p
  now_within = outer p (below_both b.lu p.u).1 (above-both b.hu p.u).1 (below_both b.lv p.v).1 (above-both b.hv p.v).1

-- ---- the loop
module _ (at : ℕ → Spot) (ring : List ℕ) where
  pub bounded_none : {b : Bounds} → Sized b → Bounded at ring 0 b
  bounded_none s = record { sized = s; each = λ i h. absurd (omega arith) }

  pub bounded_more : {b r : Bounds} {i : ℕ} → Bounded at ring i b → Close (at (get_or ring i 0)) → Widened b (at (get_or ring i 0)) r → Bounded at ring (i + 1) r
  bounded_more {b} {r} {i} h c w = record { sized = widened_sized w h.sized c; each = λ j l. go j l (dec_lt j i) }
    where
      go : (j : ℕ) → j < i + 1 → Dec (j < i) → Within r (at (get_or ring j 0))
      go j l (yes m) = still_within w (at (get_or ring j 0)) (h.each j m)
      go j l (no m) = let e : j ≡ i = omega arith in subst (λ (n : ℕ). Within r (at (get_or ring n 0))) (sym e) (now_within w)

-- all places of the ring are in the box
pub around : {at : ℕ → Spot} {ring : List ℕ} {b : Bounds} → Bounded at ring (length ring) b → All (Within b) (map at ring)
around {at} {ring} {b} h = go ring h.each
  where
    go : (l : List ℕ) → ((i : ℕ) → i < length l → Within b (at (get_or l i 0))) → All (Within b) (map at l)
    go [] f = none
    go (n ∷ l) f = more (f 0 (omega arith)) (go l (λ i g. f (suc i) (omega arith)))

-- ---- stretches that have a number between them share nothing
lt_le_lt : (a l c : ℤ) → a <ℤ l → l ≤ℤ c → lt_z a c ≡ true
lt_le_lt a l c h k = lt_test (lin 3 (λ a l c. a ≺ l ⇒ l ≼ c ⇒ a ≺ c) (omega arith) a l c h k)

le_lt_lt : (c h a : ℤ) → c ≤ℤ h → h <ℤ a → lt_z c a ≡ true
le_lt_lt c h a k l = lt_test (lin 3 (λ c h a. c ≼ h ⇒ h ≺ a ⇒ c ≺ a) (omega arith) c h a k l)

four : {a b c d : Bool} → a ≡ true → b ≡ true → c ≡ true → d ≡ true → (a && b && c && d) ≡ true
four p q r s = ap₂ ◌&&◌ (ap₂ ◌&&◌ (ap₂ ◌&&◌ p q) r) s

-- below l, and not below it
overlap_below : (a b c d l : ℤ) → (lt_z a l && lt_z b l) ≡ true → l ≤ℤ c → l ≤ℤ d → overlap a b c d ≡ false
unfolding overlap under
overlap_below a b c d l t lc ld =
    let x = lt_yes refl refl (and_left (lt_z a l) (lt_z b l) t) in
    let y = lt_yes refl refl (and_right (lt_z a l) (lt_z b l) t) in
    ap (λ (z : Bool). not z && not (under c d a b)) (four (lt_le_lt a l c x lc) (lt_le_lt a l d x ld) (lt_le_lt b l c y lc) (lt_le_lt b l d y ld))

-- above h, and not above it
overlap-above : (a b c d h : ℤ) → (lt_z h a && lt_z h b) ≡ true → c ≤ℤ h → d ≤ℤ h → overlap a b c d ≡ false
unfolding overlap under
overlap-above a b c d h t ch dh =
    let x = lt_yes refl refl (and_left (lt_z h a) (lt_z h b) t) in
    let y = lt_yes refl refl (and_right (lt_z h a) (lt_z h b) t) in
    ap (λ (z : Bool). not (under a b c d) && not z) (four (le_lt_lt c h a ch x) (le_lt_lt c h b ch y) (le_lt_lt d h a dh x) (le_lt_lt d h b dh y))
    ∙ and_false (not (under a b c d))

-- ---- an edge beside a box shares no point with one in it
module _ (e f : Segment) where
  off_u : overlap e.0.u e.1.u f.0.u f.1.u ≡ false → share e f ≡ false
  unfolding share
  off_u h = ap (λ (t : Bool). t && overlap e.0.v e.1.v f.0.v f.1.v && not (same_sign (side e.0 e.1 f.0) (side e.0 e.1 f.1)) && not (same_sign (side f.0 f.1 e.0) (side f.0 f.1 e.1))) h

  off-v : overlap e.0.v e.1.v f.0.v f.1.v ≡ false → share e f ≡ false
  unfolding share
  off-v h =
      ap (λ (t : Bool). overlap e.0.u e.1.u f.0.u f.1.u && t && not (same_sign (side e.0 e.1 f.0) (side e.0 e.1 f.1)) && not (same_sign (side f.0 f.1 e.0) (side f.0 f.1 e.1))) h
      ∙ go (overlap e.0.u e.1.u f.0.u f.1.u)
    where
      go : (t : Bool) → (t && false && not (same_sign (side e.0 e.1 f.0) (side e.0 e.1 f.1)) && not (same_sign (side f.0 f.1 e.0) (side f.0 f.1 e.1))) ≡ false
      go true = refl
      go false = refl

-- both ends are in the box
abbrev Inside : Bounds → Segment → Type 0
Inside b f = (Within b f.0) × (Within b f.1)

module _ (b : Bounds) (e : Segment) where
  abbrev lefts : Bool
  lefts = lt_z e.0.u b.lu && lt_z e.1.u b.lu

  abbrev rights : Bool
  rights = lt_z b.hu e.0.u && lt_z b.hu e.1.u

  abbrev lows : Bool
  lows = lt_z e.0.v b.lv && lt_z e.1.v b.lv

  abbrev highs : Bool
  highs = lt_z b.hv e.0.v && lt_z b.hv e.1.v

  unshared : (f : Segment) → Inside b f → beside b e ≡ true → share e f ≡ false
  unshared f i t = go (or_cases (lefts || rights || lows) highs t)
    where
      left : (lefts ≡ true) ⊎ (rights ≡ true) → share e f ≡ false
      left (inl s) = off_u e f (overlap_below e.0.u e.1.u f.0.u f.1.u b.lu s i.0.left i.1.left)
      left (inr s) = off_u e f (overlap-above e.0.u e.1.u f.0.u f.1.u b.hu s i.0.right i.1.right)

      low : ((lefts || rights) ≡ true) ⊎ (lows ≡ true) → share e f ≡ false
      low (inl s) = left (or_cases lefts rights s)
      low (inr s) = off-v e f (overlap_below e.0.v e.1.v f.0.v f.1.v b.lv s i.0.low i.1.low)

      go : ((lefts || rights || lows) ≡ true) ⊎ (highs ≡ true) → share e f ≡ false
      go (inl s) = low (or_cases (lefts || rights) lows s)
      go (inr s) = off-v e f (overlap-above e.0.v e.1.v f.0.v f.1.v b.hv s i.0.high i.1.high)

edges-inside : {b : Bounds} {s : List Spot} → All (Within b) s → All (Inside b) (steps s)
unfolding steps steps_from
edges-inside none = none
edges-inside {b} (more {x = p} {l = l} h a) = go p l h a
  where
    go : (p : Spot) (l : List Spot) → Within b p → All (Within b) l → All (Inside b) (steps_from p l)
    go p [] h none = none
    go p (q ∷ l) h (more k a) = more (h, k) (go q l k a)

-- an edge beside the box of a ring shares no point with the ring
pub beside_none : {b : Bounds} {s : List Spot} (e : Segment) → All (Within b) s → beside b e ≡ true → any (share e) (steps s) ≡ false
beside_none {b} {s} e a t = none_any (share e) (steps s) (go (edges-inside a))
  where
    go : {l : List Segment} → All (Inside b) l → All (λ (f : Segment). share e f ≡ false) l
    go none = none
    go (more {x = f} i r) = more (unshared b e f i t) (go r)

-- rings whose boxes are parted share no point
pub parted-none : {a b : Bounds} {r s : List Spot} → All (Within a) r → All (Within b) s → parted a b ≡ true → meet r s ≡ false
unfolding meet
parted-none {a} {b} {r} {s} h k t = none_any (λ e. any (share e) (steps s)) (steps r) (go (edges-inside h))
  where
    x : Bool
    x = lt_z a.hu b.lu

    y : Bool
    y = lt_z b.hu a.lu

    z : Bool
    z = lt_z a.hv b.lv

    both : {p q : Bool} → p ≡ true → q ≡ true → (p && q) ≡ true
    both e f = ap₂ ◌&&◌ e f

    some : (p q r s : Bool) → (p ≡ true) ⊎ ((q ≡ true) ⊎ ((r ≡ true) ⊎ (s ≡ true))) → (p || q || r || s) ≡ true
    some true q r s e = refl
    some false true r s e = refl
    some false false true s e = refl
    some false false false s (inl e) = absurd (false≢true e)
    some false false false s (inr (inl e)) = absurd (false≢true e)
    some false false false s (inr (inr (inl e))) = absurd (false≢true e)
    some false false false s (inr (inr (inr e))) = e

    aside : (e : Segment) → Inside a e → beside b e ≡ true
    aside e i = some (lefts b e) (rights b e) (lows b e) (highs b e) (go (or_cases (x || y || z) (lt_z b.hv a.lv) t))
      where
        two : (x ≡ true) ⊎ (y ≡ true) → (lefts b e ≡ true) ⊎ ((rights b e ≡ true) ⊎ ((lows b e ≡ true) ⊎ (highs b e ≡ true)))
        two (inl u) = inl (both (le_lt_lt e.0.u a.hu b.lu i.0.right (lt_yes refl refl u)) (le_lt_lt e.1.u a.hu b.lu i.1.right (lt_yes refl refl u)))
        two (inr u) = inr (inl (both (lt_le_lt b.hu a.lu e.0.u (lt_yes refl refl u) i.0.left) (lt_le_lt b.hu a.lu e.1.u (lt_yes refl refl u) i.1.left)))

        three : ((x || y) ≡ true) ⊎ (z ≡ true) → (lefts b e ≡ true) ⊎ ((rights b e ≡ true) ⊎ ((lows b e ≡ true) ⊎ (highs b e ≡ true)))
        three (inl u) = two (or_cases x y u)
        three (inr u) = inr (inr (inl (both (le_lt_lt e.0.v a.hv b.lv i.0.high (lt_yes refl refl u)) (le_lt_lt e.1.v a.hv b.lv i.1.high (lt_yes refl refl u)))))

        go : ((x || y || z) ≡ true) ⊎ (lt_z b.hv a.lv ≡ true) → (lefts b e ≡ true) ⊎ ((rights b e ≡ true) ⊎ ((lows b e ≡ true) ⊎ (highs b e ≡ true)))
        go (inl u) = three (or_cases (x || y) z u)
        go (inr u) = inr (inr (inr (both (lt_le_lt b.hv a.lv e.0.v (lt_yes refl refl u) i.0.low) (lt_le_lt b.hv a.lv e.1.v (lt_yes refl refl u) i.1.low))))

    go : {l : List Segment} → All (Inside a) l → All (λ (e : Segment). any (share e) (steps s) ≡ false) l
    go none = none
    go (more {x = e} i r) = more (beside_none e k (aside e i)) (go r)
