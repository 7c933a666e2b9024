-- A ring of four entries that passes 01 to 04 passes 05 and 06. Closed, it has three edges, each a neighbour of the other two;
-- how far one turns off another in the plane that is left is N's component on the axis that is dropped, which is not 0
-- since N is largest there; and all three points lie in one plane with the first.
use Rattle.std.specs.Prelude.{ℕ, ◌≤◌, max, ◌≡◌, Bool, true, ◌&&◌, List, [], ◌∷◌, leb, length, get_or, ℤ, pos, negsuc, nat_abs, ◌+ℤ◌, ◌-ℤ◌, ◌*ℤ◌}
use Rattle.std.proofs.Common.{arith, sym, ap₂, ◌∙◌, subst, true≢false, leb-true, leb-false, eqb-true}
use Rattle.std.proofs.Math.Path.{refl, ap}
use Rattle.std.proofs.Math.Bool.{false}
use Rattle.std.proofs.Math.Dec.{eqb}
use Rattle.whole.specs.laws.Solve.{k, ◌⊕◌, ◌⊖◌, ◌⊗◌, ring, ◌≔◌}
use Rattle.whole.specs.Lists.{any, any_two, steps, steps_from, numbered, numbered_from, front, same_z}
use Rattle.whole.specs.laws.Search.{two-next}
use Rattle.whole.specs.All.{none, more}
use Rattle.whole.specs.laws.Alls.{none_any}
use Rattle.space.specs.declared.Axis.{Axis}
use Rattle.space.specs.declared.Axis.TheVariants.{X, Y, Z}
use Rattle.space.specs.Space.{Point, origin, relative_to, cross, dot, places}
use Rattle.plane.specs.Plane.{largest_axis_of, Spot, drop_axis, side, turn_off_of, share_more_of}
use Rattle.ring.specs.Entries.{is_unclosed, is_repeated}
use Rattle.normal.specs.Normal.{relative, normal, is_zero_of}
use Rattle.crossing.specs.Crossed.{follows, forbidden, is_crossed}
use Rattle.polygon.specs.Ring.{edges_in}
use Rattle.even.specs.Even.{is_uneven}
use Rattle.plane.specs.laws.Axes.{axis-x, axis-y, axis_z}
use Rattle.normal.specs.laws.Sums.{on}
use Rattle.even.specs.held.Offs.{largest}
use Rattle.even.proofs.laws.Distance.{all-zero, far, upright_own, within}
use Rattle.normal.specs.laws.Triangle.{round, normal_is, ring_three, places-three, triangle_normal}

-- ---- in the plane that is left: a triangle of some area
module _ (a b c : Spot) where
  -- each edge turns off the one before it by twice the signed area
  turn_second : turn_off_of (a, b) (b, c) ≡ side a b c
  unfolding turn_off_of side
  turn_second = go a.u a.v b.u b.v c.u c.v
    where
      go : (p q r s t w : ℤ) → (r -ℤ p) *ℤ (w -ℤ s) -ℤ (s -ℤ q) *ℤ (t -ℤ r) ≡ (r -ℤ p) *ℤ (w -ℤ q) -ℤ (s -ℤ q) *ℤ (t -ℤ p)
      go = ring 6 (λ p q r s t w. (r ⊖ p) ⊗ (w ⊖ s) ⊖ (s ⊖ q) ⊗ (t ⊖ r) ≔ (r ⊖ p) ⊗ (w ⊖ q) ⊖ (s ⊖ q) ⊗ (t ⊖ p)) tt

  -- the area is the same from wherever it is begun
  pub side-round : side b c a ≡ side a b c
  unfolding side
  side-round = go a.u a.v b.u b.v c.u c.v
    where
      go : (p q r s t w : ℤ) → (t -ℤ r) *ℤ (q -ℤ s) -ℤ (w -ℤ s) *ℤ (p -ℤ r) ≡ (r -ℤ p) *ℤ (w -ℤ q) -ℤ (s -ℤ q) *ℤ (t -ℤ p)
      go = ring 6 (λ p q r s t w. (t ⊖ r) ⊗ (q ⊖ s) ⊖ (w ⊖ s) ⊗ (p ⊖ r) ≔ (r ⊖ p) ⊗ (w ⊖ q) ⊖ (s ⊖ q) ⊗ (t ⊖ p)) tt

  -- so it does not go back over it
  pub no_more : same_z (side a b c) (pos 0) ≡ false → share_more_of (a, b) (b, c) ≡ false
  unfolding share_more_of
  no_more e = rw (turn_second, e)

-- of three, no two are related, if the first and the second are not, nor the first and the third, nor the second and the third
three : {A : Type 0} (r : A → A → Bool) (x y z : A) → r x y ≡ false → r x z ≡ false → r y z ≡ false → any_two r (x ∷ y ∷ z ∷ []) ≡ false
unfolding any_two any
three r x y z p q s =
    two-next r (x ∷ y ∷ z ∷ []) 0 x (omega arith) (none_any (r x) (y ∷ z ∷ []) (more p (more q none)))
    ∙ two-next r (y ∷ z ∷ []) 0 x (omega arith) (none_any (r y) (z ∷ []) (more s none))

uncrossed : (a b c : Spot) → same_z (side a b c) (pos 0) ≡ false → is_crossed (steps (round a b c)) ≡ false
unfolding is_crossed steps steps_from numbered numbered_from forbidden follows
uncrossed a b c e =
    let f : same_z (side b c a) (pos 0) ≡ false = ap (λ (z : ℤ). same_z z (pos 0)) (side-round a b c) ∙ e in
    let g : same_z (side c a b) (pos 0) ≡ false = ap (λ (z : ℤ). same_z z (pos 0)) (side-round b c a) ∙ f in
    three (forbidden 3) (0, (a, b)) (1, (b, c)) (2, (c, a)) (no_more a b c e) (no_more c a b g) (no_more b c a f)

-- ---- numbers of places that are the corners of some area differ
pub level_first : (a c : Spot) → side a a c ≡ pos 0
unfolding side
level_first a c = go a.u a.v c.u c.v
  where
    go : (p q t w : ℤ) → (p -ℤ p) *ℤ (w -ℤ q) -ℤ (q -ℤ q) *ℤ (t -ℤ p) ≡ pos 0
    go = ring 4 (λ p q t w. (p ⊖ p) ⊗ (w ⊖ q) ⊖ (q ⊖ q) ⊗ (t ⊖ p) ≔ k (pos 0)) tt

one_apart : (m n : ℕ) {z : ℤ} → (m ≡ n → z ≡ pos 0) → same_z z (pos 0) ≡ false → eqb m n ≡ false
unfolding same_z
one_apart m n f h = go (eqb m n) refl
  where
    go : (t : Bool) → eqb m n ≡ t → t ≡ false
    go true e = absurd (true≢false (sym (ap (λ (z : ℤ). same_z z (pos 0)) (f (eqb-true m n e))) ∙ h))
    go false e = refl

pub differ : (spot : ℕ → Spot) (a b c : ℕ) → same_z (side (spot a) (spot b) (spot c)) (pos 0) ≡ false → (eqb a b ≡ false) × (eqb a c ≡ false) × (eqb b c ≡ false)
differ spot a b c h = (
  one_apart a b (λ e. ap (λ (n : ℕ). side (spot a) (spot n) (spot c)) (sym e) ∙ level_first (spot a) (spot c)) h,
  one_apart a c (λ e. ap (λ (n : ℕ). side (spot n) (spot b) (spot c)) e ∙ side-round (spot c) (spot c) (spot b) ∙ level_first (spot c) (spot b)) h,
  one_apart b c (λ e. ap (λ (n : ℕ). side (spot a) (spot n) (spot c)) e ∙ side-round (spot c) (spot a) (spot c) ∙ side-round (spot c) (spot c) (spot a) ∙ level_first (spot c) (spot a)) h,
)

-- ---- N of a triangle
module _ (a b c : Point) where
  -- its component on an axis is twice the signed area in the plane left by dropping it
  area_is : (axis : Axis) → side (drop_axis axis a) (drop_axis axis b) (drop_axis axis c) ≡ on axis (cross (relative_to a b) (relative_to a c))
  unfolding side drop_axis cross relative_to
  area_is X = refl
  area_is Y = refl
  area_is Z = refl

-- ---- N is not 0 where it is largest
-- its component on the drop axis is as large as any
largest_is : (n : Point) → largest n ≤ nat_abs (on (largest_axis_of n) n)
unfolding largest
largest_is n = go (leb y x) (leb z x) (leb z y) refl refl refl
  where
    x : ℕ
    x = nat_abs n.x

    y : ℕ
    y = nat_abs n.y

    z : ℕ
    z = nat_abs n.z

    by : (axis : Axis) → largest_axis_of n ≡ axis → max x (max y z) ≤ nat_abs (on axis n) → max x (max y z) ≤ nat_abs (on (largest_axis_of n) n)
    by axis e h = subst (λ (a : Axis). max x (max y z) ≤ nat_abs (on a n)) (sym e) h

    go : (p q r : Bool) → leb y x ≡ p → leb z x ≡ q → leb z y ≡ r → max x (max y z) ≤ nat_abs (on (largest_axis_of n) n)
    go true true r e f g = by X (axis-x n (ap₂ ◌&&◌ e f)) (omega (arith, leb-true y x e, leb-true z x f))
    go true false true e f g = by Y (axis-y n (ap₂ ◌&&◌ e f) g) (omega (arith, leb-true y x e, leb-false z x f, leb-true z y g))
    go true false false e f g = by Z (axis_z n (ap₂ ◌&&◌ e f) g) (omega (arith, leb-true y x e, leb-false z x f, leb-false z y g))
    go false q true e f g = by Y (axis-y n (ap₂ ◌&&◌ e f) g) (omega (arith, leb-false y x e, leb-true z y g))
    go false q false e f g = by Z (axis_z n (ap₂ ◌&&◌ e f) g) (omega (arith, leb-false y x e, leb-false z y g))

none_above : (z : ℤ) → same_z z (pos 0) ≡ true → nat_abs z ≡ 0
unfolding same_z
none_above (pos n) e = eqb-true n 0 e
none_above (negsuc n) e = absurd (true≢false (sym e))

-- so where N is not 0, that component is not
largest-some : (n : Point) → is_zero_of n ≡ false → same_z (on (largest_axis_of n) n) (pos 0) ≡ false
largest-some n e = go (same_z (on (largest_axis_of n) n) (pos 0)) refl
  where
    go : (t : Bool) → same_z (on (largest_axis_of n) n) (pos 0) ≡ t → t ≡ false
    go true f = absurd (true≢false (sym (all-zero n (omega (arith, largest_is n, none_above (on (largest_axis_of n) n) f))) ∙ e))
    go false f = refl

upright_one : (p q : Point) → dot (cross p q) p ≡ pos 0
unfolding dot cross
upright_one p q = go p.x p.y p.z q.x q.y q.z
  where
    go : (a b c p q r : ℤ) → (b *ℤ r -ℤ c *ℤ q) *ℤ a +ℤ (c *ℤ p -ℤ a *ℤ r) *ℤ b +ℤ (a *ℤ q -ℤ b *ℤ p) *ℤ c ≡ pos 0
    go = ring 6 (λ a b c p q r. (b ⊗ r ⊖ c ⊗ q) ⊗ a ⊕ (c ⊗ p ⊖ a ⊗ r) ⊗ b ⊕ (a ⊗ q ⊖ b ⊗ p) ⊗ c ≔ k (pos 0)) tt

upright_other : (p q : Point) → dot (cross p q) q ≡ pos 0
unfolding dot cross
upright_other p q = go p.x p.y p.z q.x q.y q.z
  where
    go : (a b c p q r : ℤ) → (b *ℤ r -ℤ c *ℤ q) *ℤ p +ℤ (c *ℤ p -ℤ a *ℤ r) *ℤ q +ℤ (a *ℤ q -ℤ b *ℤ p) *ℤ r ≡ pos 0
    go = ring 6 (λ a b c p q r. (b ⊗ r ⊖ c ⊗ q) ⊗ p ⊕ (c ⊗ p ⊖ a ⊗ r) ⊗ q ⊕ (a ⊗ q ⊖ b ⊗ p) ⊗ r ≔ k (pos 0)) tt

-- ---- the two checks, of three points and the first again
module _ (a b c : Point) where
  crossed_none : is_zero_of (normal (round a b c)) ≡ false → is_crossed (edges_in (largest_axis_of (normal (round a b c))) (round a b c)) ≡ false
  unfolding edges_in
  crossed_none e =
      let n = normal (round a b c) in
      let axis = largest_axis_of n in
      uncrossed (drop_axis axis a) (drop_axis axis b) (drop_axis axis c) (ap (λ (z : ℤ). same_z z (pos 0)) (area_is a b c axis ∙ ap (on axis) (sym (normal_is a b c))) ∙ largest-some n e)

  uneven-none : (tolerance : ℕ) → is_uneven tolerance (normal (round a b c)) (round a b c) ≡ false
  unfolding is_uneven relative
  uneven-none tolerance =
      let p = relative_to a b in
      let q = relative_to a c in
      ap (λ (n : Point). is_uneven tolerance n (round a b c)) (normal_is a b c)
      ∙ none_any (far tolerance (cross p q)) (relative (round a b c))
      (more (own p q) (more (within tolerance (cross p q) p (upright_one p q)) (more (within tolerance (cross p q) q (upright_other p q)) (more (own p q) none))))
    where
      own : (p q : Point) → far tolerance (cross p q) (relative_to a a) ≡ false
      own p q = within tolerance (cross p q) (relative_to a a) (upright_own (cross p q) a)

-- ---- a closed ring of four entries
module _ (points : List Point) (ring : List ℕ) (four : length ring ≡ 4) (closed : is_unclosed ring ≡ false) where
  abbrev ps : List Point
  ps = places points ring

  -- where its entry i stands
  abbrev spot_of : ℕ → Point
  spot_of i = get_or points (get_or ring i 0) origin

  -- 05 does not fail
  pub triangle_uncrossed : is_zero_of (normal ps) ≡ false → is_crossed (edges_in (largest_axis_of (normal ps)) ps) ≡ false
  triangle_uncrossed =
      subst (λ (l : List Point). is_zero_of (normal l) ≡ false → is_crossed (edges_in (largest_axis_of (normal l)) l) ≡ false) (sym (places-three points ring four closed)) (crossed_none (spot_of 0) (spot_of 1) (spot_of 2))

  -- 06 does not fail, at any tolerance
  pub triangle_even : (tolerance : ℕ) → is_uneven tolerance (normal ps) ps ≡ false
  triangle_even tolerance = subst (λ (l : List Point). is_uneven tolerance (normal l) l ≡ false) (sym (places-three points ring four closed)) (uneven-none (spot_of 0) (spot_of 1) (spot_of 2) tolerance)

  -- 03 does not fail where 04 does not: two entries of one number would leave no area
  pub triangle_single : is_zero_of (normal ps) ≡ false → is_repeated ring ≡ false
  unfolding is_repeated front
  triangle_single e =
      let axis = largest_axis_of (normal ps) in
      let some : same_z (side (drop_axis axis (spot_of 0)) (drop_axis axis (spot_of 1)) (drop_axis axis (spot_of 2))) (pos 0) ≡ false =
      ap (λ (z : ℤ). same_z z (pos 0)) (area_is (spot_of 0) (spot_of 1) (spot_of 2) axis ∙ ap (on axis) (sym (triangle_normal points ring four closed))) ∙ largest-some (normal ps) e
      in
      let d = differ (λ n. drop_axis axis (get_or points n origin)) (get_or ring 0 0) (get_or ring 1 0) (get_or ring 2 0) some in
      ap is_repeated (ring_three ring four closed) ∙ three eqb (get_or ring 0 0) (get_or ring 1 0) (get_or ring 2 0) d.0 d.1 d.2
