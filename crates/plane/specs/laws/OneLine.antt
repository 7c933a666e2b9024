-- Segments on one line whose stretches overlap on both axes have a point in common; with Found: what is found is there.
use Rattle.std.specs.Prelude.{ℕ, zero, suc, ◌+◌, ◌-◌, ◌≤◌, ◌<◌, ◌≡◌, refl, Bool, true, false, not, ◌⊎◌, [], ◌∷◌, T, ℤ, pos, negsuc, neg_ℤ, ◌+ℤ◌, ◌-ℤ◌, ◌*ℤ◌}
use Rattle.std.proofs.Common.{arith, add_comm, sym, ap, ◌∙◌, subst, true≢false, inl, inr}
use Rattle.std.proofs.Math.IntN.{+ℤ_comm, +ℤ_idr}
use Rattle.std.specs.Int.Signed.{lt_z, lt_z_no}
use Rattle.whole.specs.laws.Solve.{v, k, ◌⊕◌, ◌⊖◌, ◌⊗◌, ⊝◌, ring, ◌≔◌}
use Rattle.whole.specs.laws.Ring.{combine}
use Rattle.whole.specs.laws.Order.{P, N, le_of, eq_by}
use Rattle.plane.specs.Plane.{Spot, Segment, side, under, overlap}
use Rattle.plane.specs.laws.PlaneTurn.{side-back}
use Rattle.whole.specs.laws.Bools.{and_left, and_right}
use Rattle.plane.specs.laws.Meet.{Meet, differs, turned}

-- ---- order on an axis

pub record AtLeast (x y : ℤ) : Type 0 where
  pub by : ℕ
  pub is : x ≡ y +ℤ pos by

apart : (x y : ℤ) → x ≡ y +ℤ (x -ℤ y)
apart = ring 2 (λ x y. x ≔ y ⊕ (x ⊖ y)) tt

above : (x y : ℤ) → lt_z y x ≡ true → AtLeast x y
above x y e = let n = differs y x e in record { by = suc n.0; is = apart x y ∙ ap (λ (z : ℤ). y +ℤ z) n.1 }

not_below : (x y : ℤ) → lt_z x y ≡ false → AtLeast x y
not_below x y e =
    let h : P y + N x ≤ P x + N y = le_of (x ∷ y ∷ []) (v 1) (v 0) (lt_z_no (subst (λ (b : Bool). T (not b)) (sym e) tt)) in
    record { by = P x + N y - (P y + N x); is = apart x y ∙ ap (λ (z : ℤ). y +ℤ z) (eq_by (x ∷ y ∷ []) (v 0 ⊖ v 1) (k (pos (P x + N y - (P y + N x)))) (omega arith)) }

-- x lies from p up to q
abbrev Rising : ℤ → ℤ → ℤ → Type 0
Rising x p q = AtLeast x p × AtLeast q x

-- x lies between p and q
abbrev Within : ℤ → ℤ → ℤ → Type 0
Within x p q = Rising x p q ⊎ Rising x q p

data Lies (x p q : ℤ) : Type 0 where
  between : Within x p q → Lies x p q
  beneath : lt_z x p ≡ true → lt_z x q ≡ true → Lies x p q
  beyond : lt_z p x ≡ true → lt_z q x ≡ true → Lies x p q

lies : (x p q : ℤ) → Lies x p q
lies x p q = go (lt_z x p) refl (lt_z x q) refl (lt_z p x) refl (lt_z q x) refl
  where
    go : (b : Bool) → lt_z x p ≡ b → (c : Bool) → lt_z x q ≡ c → (d : Bool) → lt_z p x ≡ d → (e : Bool) → lt_z q x ≡ e → Lies x p q
    go true b true c d h e g = beneath b c
    go true b false c d h e g = between (inr (not_below x q c, above p x b))
    go false b true c d h e g = between (inl (not_below x p b, above q x c))
    go false b false c true h true g = beyond h g
    go false b false c false h e g = between (inr (not_below x q c, not_below p x h))
    go false b false c true h false g = between (inl (not_below x p b, not_below q x g))

-- stretches that overlap: an end of one lies in the other
overlap_within : (a b c d : ℤ) → overlap a b c d ≡ true → Within c a b ⊎ (Within d a b ⊎ Within a c d)
unfolding overlap under
overlap_within a b c d o = go (lies c a b) (lies d a b)
  where
    go : Lies c a b → Lies d a b → Within c a b ⊎ (Within d a b ⊎ Within a c d)
    go (between w) l = inl w
    go (beneath p q) (between w) = inr (inl w)
    go (beyond p q) (between w) = inr (inl w)
    go (beneath p q) (beneath r s) = absurd (true≢false (sym (rw (p, q, r, s) at (and_right (not (under a b c d)) (not (under c d a b)) o))))
    go (beyond p q) (beyond r s) = absurd (true≢false (sym (rw (p, q, r, s) at (and_left (not (under a b c d)) (not (under c d a b)) o))))
    go (beneath p q) (beyond r s) = inr (inr (inl (above a c p, above d a r)))
    go (beyond p q) (beneath r s) = inr (inr (inr (above a d r, above c a p)))

-- ---- a place on a segment

pub record OnSegment (x p q : Spot) : Type 0 where
  pub m : ℕ
  pub n : ℕ
  pub some : 0 < m + n
  pub on_u : pos m *ℤ p.u +ℤ pos n *ℤ q.u ≡ pos (m + n) *ℤ x.u
  pub on-v : pos m *ℤ p.v +ℤ pos n *ℤ q.v ≡ pos (m + n) *ℤ x.v

back_on : (x p q : Spot) → OnSegment x q p → OnSegment x p q
back_on x p q o =
    record {
      m = o.n;
      n = o.m;
      some = omega (arith, o.some);
      on_u = +ℤ_comm (pos o.n *ℤ p.u) (pos o.m *ℤ q.u) ∙ o.on_u ∙ ap (λ (i : ℕ). pos i *ℤ x.u) (add_comm o.m o.n);
      on-v = +ℤ_comm (pos o.n *ℤ p.v) (pos o.m *ℤ q.v) ∙ o.on-v ∙ ap (λ (i : ℕ). pos i *ℤ x.v) (add_comm o.m o.n);
    }

-- from the order on one axis and the side
rising_on : (x p q : Spot) (r : Rising x.u p.u q.u) → 0 < r.1.by + r.0.by → side p q x ≡ pos 0 → OnSegment x p q
unfolding side
rising_on x p q r h s =
    let i : ℤ = pos r.0.by in
    let j : ℤ = pos r.1.by in
    let hx : x.u ≡ p.u +ℤ i = r.0.is in
    let hq : q.u ≡ p.u +ℤ i +ℤ j = r.1.is ∙ ap (λ (z : ℤ). z +ℤ j) hx in
    let s' : (p.u +ℤ i +ℤ j -ℤ p.u) *ℤ (x.v -ℤ p.v) -ℤ (q.v -ℤ p.v) *ℤ (p.u +ℤ i -ℤ p.u) ≡ pos 0 = (λ t. (sym hq t -ℤ p.u) *ℤ (x.v -ℤ p.v) -ℤ (q.v -ℤ p.v) *ℤ (sym hx t -ℤ p.u)) ∙ s in
    record {
      m = r.1.by;
      n = r.0.by;
      some = h;
      on_u = ap (λ (z : ℤ). j *ℤ p.u +ℤ i *ℤ z) hq ∙ mean p.u i j ∙ ap (λ (z : ℤ). (j +ℤ i) *ℤ z) (sym hx);
      on-v = combine (negsuc 0) (j *ℤ p.v +ℤ i *ℤ q.v) ((j +ℤ i) *ℤ x.v) s' (same p.u i j x.v p.v q.v);
    }
  where
    mean : (a i j : ℤ) → j *ℤ a +ℤ i *ℤ (a +ℤ i +ℤ j) ≡ (j +ℤ i) *ℤ (a +ℤ i)
    mean = ring 3 (λ a i j. j ⊗ a ⊕ i ⊗ (a ⊕ i ⊕ j) ≔ (j ⊕ i) ⊗ (a ⊕ i)) tt

    same : (a i j x p q : ℤ) → (j *ℤ p +ℤ i *ℤ q) -ℤ (j +ℤ i) *ℤ x ≡ negsuc 0 *ℤ (((a +ℤ i +ℤ j -ℤ a) *ℤ (x -ℤ p) -ℤ (q -ℤ p) *ℤ (a +ℤ i -ℤ a)) -ℤ pos 0)
    same = ring 6 (λ a i j x p q. (j ⊗ p ⊕ i ⊗ q) ⊖ (j ⊕ i) ⊗ x ≔ k (negsuc 0) ⊗ (((a ⊕ i ⊕ j ⊖ a) ⊗ (x ⊖ p) ⊖ (q ⊖ p) ⊗ (a ⊕ i ⊖ a)) ⊖ k (pos 0))) tt

-- ... or both ends stand where x does on that axis
inside : (x p q : Spot) → Within x.u p.u q.u → side p q x ≡ pos 0 → OnSegment x p q ⊎ ((p.u ≡ x.u) × (q.u ≡ x.u))
inside x p q (inl r) s = go r.0.by r.1.by refl refl
  where
    go : (i j : ℕ) → r.0.by ≡ i → r.1.by ≡ j → OnSegment x p q ⊎ ((p.u ≡ x.u) × (q.u ≡ x.u))
    go zero zero hi hj = inr (sym (r.0.is ∙ ap (λ (n : ℕ). p.u +ℤ pos n) hi ∙ +ℤ_idr p.u), r.1.is ∙ ap (λ (n : ℕ). x.u +ℤ pos n) hj ∙ +ℤ_idr x.u)
    go zero (suc j) hi hj = inl (rising_on x p q r (omega arith) s)
    go (suc i) j hi hj = inl (rising_on x p q r (omega arith) s)
inside x p q (inr r) s = go r.0.by r.1.by refl refl
  where
    s' : side q p x ≡ pos 0
    s' = side-back p q x ∙ ap neg_ℤ s

    go : (i j : ℕ) → r.0.by ≡ i → r.1.by ≡ j → OnSegment x p q ⊎ ((p.u ≡ x.u) × (q.u ≡ x.u))
    go zero zero hi hj = inr (r.1.is ∙ ap (λ (n : ℕ). x.u +ℤ pos n) hj ∙ +ℤ_idr x.u, sym (r.0.is ∙ ap (λ (n : ℕ). q.u +ℤ pos n) hi ∙ +ℤ_idr q.u))
    go zero (suc j) hi hj = inl (back_on x p q (rising_on x q p r (omega arith) s'))
    go (suc i) j hi hj = inl (back_on x p q (rising_on x q p r (omega arith) s'))

-- the axes change places
other : Spot → Spot
other p = record { u = p.v; v = p.u }

side_other : (p q x : Spot) → side (other p) (other q) (other x) ≡ neg_ℤ (side p q x)
unfolding side other
side_other p q x = go p.u p.v q.u q.v x.u x.v
  where
    go : (a b c d e f : ℤ) → (d -ℤ b) *ℤ (e -ℤ a) -ℤ (c -ℤ a) *ℤ (f -ℤ b) ≡ neg_ℤ ((c -ℤ a) *ℤ (f -ℤ b) -ℤ (d -ℤ b) *ℤ (e -ℤ a))
    go = ring 6 (λ a b c d e f. (d ⊖ b) ⊗ (e ⊖ a) ⊖ (c ⊖ a) ⊗ (f ⊖ b) ≔ ⊝ ((c ⊖ a) ⊗ (f ⊖ b) ⊖ (d ⊖ b) ⊗ (e ⊖ a))) tt

on_other : (x p q : Spot) → OnSegment (other x) (other p) (other q) → OnSegment x p q
unfolding other
on_other x p q o = record { m = o.m; n = o.n; some = o.some; on_u = o.on-v; on-v = o.on_u }

-- an end where x is
on_end : (x p q : Spot) → p.u ≡ x.u → p.v ≡ x.v → OnSegment x p q
on_end x p q hu hv =
    record { m = 1; n = 0; some = omega arith; on_u = ap (λ (z : ℤ). pos 1 *ℤ z +ℤ pos 0 *ℤ q.u) hu ∙ only x.u q.u; on-v = ap (λ (z : ℤ). pos 1 *ℤ z +ℤ pos 0 *ℤ q.v) hv ∙ only x.v q.v }
  where
    only : (z w : ℤ) → pos 1 *ℤ z +ℤ pos 0 *ℤ w ≡ pos 1 *ℤ z
    only = ring 2 (λ z w. k (pos 1) ⊗ z ⊕ k (pos 0) ⊗ w ≔ k (pos 1) ⊗ z) tt

-- on the other axis, where the ends stand with x on the first
inside_other : (x p q : Spot) → p.u ≡ x.u → Within x.v p.v q.v → side p q x ≡ pos 0 → OnSegment x p q
unfolding other
inside_other x p q e w s = go (inside (other x) (other p) (other q) w (side_other p q x ∙ ap neg_ℤ s))
  where
    go : OnSegment (other x) (other p) (other q) ⊎ ((p.v ≡ x.v) × (q.v ≡ x.v)) → OnSegment x p q
    go (inl o) = on_other x p q o
    go (inr h) = on_end x p q e h.0

-- x stands with p on an axis
at_end : (x p q : ℤ) → x ≡ p → Within x p q
at_end x p q e = go (lt_z q p) refl
  where
    same : AtLeast x p
    same = record { by = 0; is = e ∙ sym (+ℤ_idr p) }

    go : (b : Bool) → lt_z q p ≡ b → Within x p q
    go true h = inr (subst (λ (z : ℤ). AtLeast z q) (sym e) (above p q h), record { by = 0; is = sym e ∙ sym (+ℤ_idr x) })
    go false h = inl (same, subst (λ (z : ℤ). AtLeast q z) (sym e) (not_below q p h))

-- ---- segments on one line

module _ (e f : Segment) where
  first_on : OnSegment f.0 e.0 e.1 → Meet e f
  first_on o = record { s = o.n; s' = o.m; t = 0; t' = o.m + o.n; some = o.some; whole = omega arith; on_u = o.on_u ∙ alone (pos (o.m + o.n)) f.0.u f.1.u; on-v = o.on-v ∙ alone (pos (o.m + o.n)) f.0.v f.1.v }
    where
      alone : (w x y : ℤ) → w *ℤ x ≡ w *ℤ x +ℤ pos 0 *ℤ y
      alone = ring 3 (λ w x y. w ⊗ x ≔ w ⊗ x ⊕ k (pos 0) ⊗ y) tt

  last_on : OnSegment f.1 e.0 e.1 → Meet e f
  last_on o = record { s = o.n; s' = o.m; t = o.m + o.n; t' = 0; some = o.some; whole = omega arith; on_u = o.on_u ∙ alone (pos (o.m + o.n)) f.1.u f.0.u; on-v = o.on-v ∙ alone (pos (o.m + o.n)) f.1.v f.0.v }
    where
      alone : (w x y : ℤ) → w *ℤ x ≡ pos 0 *ℤ y +ℤ w *ℤ x
      alone = ring 3 (λ w x y. w ⊗ x ≔ k (pos 0) ⊗ y ⊕ w ⊗ x) tt

module _ (e f : Segment) (a₀ : side e.0 e.1 f.0 ≡ pos 0) (b₀ : side e.0 e.1 f.1 ≡ pos 0) (c₀ : side f.0 f.1 e.0 ≡ pos 0) (ov : overlap e.0.v e.1.v f.0.v f.1.v ≡ true) where
  -- all four ends stand together on the first axis
  upright : e.0.u ≡ f.0.u → f.0.u ≡ f.1.u → Meet e f
  upright h g = go (overlap_within e.0.v e.1.v f.0.v f.1.v ov)
    where
      go : Within f.0.v e.0.v e.1.v ⊎ (Within f.1.v e.0.v e.1.v ⊎ Within e.0.v f.0.v f.1.v) → Meet e f
      go (inl w) = first_on e f (inside_other f.0 e.0 e.1 h w a₀)
      go (inr (inl w)) = last_on e f (inside_other f.1 e.0 e.1 (h ∙ g) w b₀)
      go (inr (inr w)) = turned f e (first_on f e (inside_other e.0 f.0 f.1 (sym h) w c₀))

  pub line-meet : overlap e.0.u e.1.u f.0.u f.1.u ≡ true → Meet e f
  line-meet ou = go (overlap_within e.0.u e.1.u f.0.u f.1.u ou)
    where
      -- e's first end stands with f's first or last one
      from-e : Within e.0.u f.0.u f.1.u → Meet e f
      from-e w = pick (inside e.0 f.0 f.1 w c₀)
        where
          pick : OnSegment e.0 f.0 f.1 ⊎ ((f.0.u ≡ e.0.u) × (f.1.u ≡ e.0.u)) → Meet e f
          pick (inl o) = turned f e (first_on f e o)
          pick (inr h) = upright (sym h.0) (h.0 ∙ sym h.1)

      first-in : OnSegment f.0 e.0 e.1 ⊎ ((e.0.u ≡ f.0.u) × (e.1.u ≡ f.0.u)) → Meet e f
      first-in (inl o) = first_on e f o
      first-in (inr h) = from-e (at_end e.0.u f.0.u f.1.u h.0)

      flip-within : Within e.0.u f.1.u f.0.u → Within e.0.u f.0.u f.1.u
      flip-within (inl r) = inr r
      flip-within (inr r) = inl r

      last-in : OnSegment f.1 e.0 e.1 ⊎ ((e.0.u ≡ f.1.u) × (e.1.u ≡ f.1.u)) → Meet e f
      last-in (inl o) = last_on e f o
      last-in (inr h) = from-e (flip-within (at_end e.0.u f.1.u f.0.u h.0))

      go : Within f.0.u e.0.u e.1.u ⊎ (Within f.1.u e.0.u e.1.u ⊎ Within e.0.u f.0.u f.1.u) → Meet e f
      go (inl w) = first-in (inside f.0 e.0 e.1 w a₀)
      go (inr (inl w)) = last-in (inside f.1 e.0 e.1 w b₀)
      go (inr (inr w)) = from-e w
