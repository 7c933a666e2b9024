-- "share a point", in the words of a reader: whole numbers s, t and d with d > 0, 0 ≤ s ≤ d and 0 ≤ t ≤ d, such that s parts
-- of d on the way along the one segment are where t parts of d on the way along the other are. The test of Plane says just that.
use Rattle.std.specs.Prelude.{ℕ, zero, suc, ◌+◌, ◌≤◌, ◌<◌, ◌≡◌, true, ℤ, pos, nat_abs, ◌+ℤ◌, ◌-ℤ◌, ◌*ℤ◌, ◌≤ℤ◌, ◌<ℤ◌}
use Rattle.std.proofs.Common.{arith, sym, ap, ap₂, ◌∙◌, subst, le→leb, lt→ltb}
use Rattle.std.specs.Int.Signed.{le_z_yes, lt_z_yes, pos-nat_abs, yes_non_neg}
use Rattle.whole.specs.laws.Solve.{k, ◌⊕◌, ◌⊖◌, ◌⊗◌, ring, ◌≔◌}
use Rattle.whole.specs.laws.Linear.{◌≼◌, ◌⇒◌, lin}
use Rattle.plane.specs.Plane.{Segment, share}
use Rattle.plane.specs.laws.Meet.{Meet}
use Rattle.plane.specs.laws.Share.{share_exactly}

-- d times the number that is reached when s parts of d are gone on the way from p to q
abbrev pub along : ℤ → ℤ → ℤ → ℤ → ℤ
along d s p q = d *ℤ p +ℤ s *ℤ (q -ℤ p)

pub record CommonPoint (e f : Segment) : Type 0 where
  pub d : ℤ
  pub s : ℤ
  pub t : ℤ
  pub positive : pos 0 <ℤ d
  pub s-low : pos 0 ≤ℤ s
  pub s_top : s ≤ℤ d
  pub t_low : pos 0 ≤ℤ t
  pub t_top : t ≤ℤ d
  pub same_u : along d s e.0.u e.1.u ≡ along d t f.0.u f.1.u
  pub same-v : along d s e.0.v e.1.v ≡ along d t f.0.v f.1.v

-- ---- from the weights of Meet: s' + s is d
le_of : (m n : ℕ) → m ≤ n → pos m ≤ℤ pos n
le_of m n h = le_z_yes (le→leb m n h)

weights : (s' s p q : ℤ) → along (s' +ℤ s) s p q ≡ s' *ℤ p +ℤ s *ℤ q
weights = ring 4 (λ s' s p q. (s' ⊕ s) ⊗ p ⊕ s ⊗ (q ⊖ p) ≔ s' ⊗ p ⊕ s ⊗ q) tt

common : (e f : Segment) → Meet e f → CommonPoint e f
common e f m =
    record {
      d = pos (m.s' + m.s);
      s = pos m.s;
      t = pos m.t;
      positive = lt_z_yes (lt→ltb 0 (m.s' + m.s) m.some);
      s-low = le_of 0 m.s (omega arith);
      s_top = le_of m.s (m.s' + m.s) (omega arith);
      t_low = le_of 0 m.t (omega arith);
      t_top = le_of m.t (m.s' + m.s) (omega (arith, m.whole));
      same_u = on e.0.u e.1.u f.0.u f.1.u m.on_u;
      same-v = on e.0.v e.1.v f.0.v f.1.v m.on-v;
    }
  where
    on : (p q r z : ℤ) → pos m.s' *ℤ p +ℤ pos m.s *ℤ q ≡ pos m.t' *ℤ r +ℤ pos m.t *ℤ z → along (pos (m.s' + m.s)) (pos m.s) p q ≡ along (pos (m.s' + m.s)) (pos m.t) r z
    on p q r z h =
        weights (pos m.s') (pos m.s) p q ∙ h ∙ sym (weights (pos m.t') (pos m.t) r z)
        ∙ ap (λ (n : ℕ). along (pos n) (pos m.t) r z) (sym m.whole)

-- ---- and back: what is left of d is the other weight
module _ (e f : Segment) (c : CommonPoint e f) where
  natural : (z : ℤ) → pos 0 ≤ℤ z → pos (nat_abs z) ≡ z
  natural z h = pos-nat_abs z (yes_non_neg h)

  left : (d s : ℤ) → s ≤ℤ d → pos 0 ≤ℤ (d -ℤ s)
  left = lin 2 (λ d s. s ≼ d ⇒ k (pos 0) ≼ d ⊖ s) (λ d s h. omega arith)

  both : (d s : ℤ) → (d -ℤ s) +ℤ s ≡ d
  both = ring 2 (λ d s. (d ⊖ s) ⊕ s ≔ d) tt

  s_is : pos (nat_abs c.s) ≡ c.s
  s_is = natural c.s c.s-low

  t_is : pos (nat_abs c.t) ≡ c.t
  t_is = natural c.t c.t_low

  s'_is : pos (nat_abs (c.d -ℤ c.s)) ≡ c.d -ℤ c.s
  s'_is = natural (c.d -ℤ c.s) (left c.d c.s c.s_top)

  t'_is : pos (nat_abs (c.d -ℤ c.t)) ≡ c.d -ℤ c.t
  t'_is = natural (c.d -ℤ c.t) (left c.d c.t c.t_top)

  s-all : pos (nat_abs (c.d -ℤ c.s) + nat_abs c.s) ≡ c.d
  s-all = ap₂ ◌+ℤ◌ s'_is s_is ∙ both c.d c.s

  t_all : pos (nat_abs (c.d -ℤ c.t) + nat_abs c.t) ≡ c.d
  t_all = ap₂ ◌+ℤ◌ t'_is t_is ∙ both c.d c.t

  spread : (d s p q : ℤ) → (d -ℤ s) *ℤ p +ℤ s *ℤ q ≡ along d s p q
  spread = ring 4 (λ d s p q. (d ⊖ s) ⊗ p ⊕ s ⊗ q ≔ d ⊗ p ⊕ s ⊗ (q ⊖ p)) tt

  above_zero : (n : ℕ) → pos 0 <ℤ pos n → 0 < n
  above_zero zero h = absurd h.lt
  above_zero (suc n) h = omega arith

  weighed : (p q r z : ℤ) → along c.d c.s p q ≡ along c.d c.t r z
      → pos (nat_abs (c.d -ℤ c.s)) *ℤ p +ℤ pos (nat_abs c.s) *ℤ q ≡ pos (nat_abs (c.d -ℤ c.t)) *ℤ r +ℤ pos (nat_abs c.t) *ℤ z
  weighed p q r z h =
      ap₂ (λ (x y : ℤ). x *ℤ p +ℤ y *ℤ q) s'_is s_is ∙ spread c.d c.s p q ∙ h ∙ sym (spread c.d c.t r z) ∙ sym (ap₂ (λ (x y : ℤ). x *ℤ r +ℤ y *ℤ z) t'_is t_is)

  meet : Meet e f
  meet =
      record {
        s = nat_abs c.s;
        s' = nat_abs (c.d -ℤ c.s);
        t = nat_abs c.t;
        t' = nat_abs (c.d -ℤ c.t);
        some = above_zero (nat_abs (c.d -ℤ c.s) + nat_abs c.s) (subst (λ (z : ℤ). pos 0 <ℤ z) (sym s-all) c.positive);
        whole = ap nat_abs (s-all ∙ sym t_all);
        on_u = weighed e.0.u e.1.u f.0.u f.1.u c.same_u;
        on-v = weighed e.0.v e.1.v f.0.v f.1.v c.same-v;
      }

-- two segments share a point exactly when the test says so
pub share_is : (e f : Segment) → (share e f ≡ true → CommonPoint e f) × (CommonPoint e f → share e f ≡ true)
share_is e f = (λ h. common e f ((share_exactly e f).0 h), λ c. (share_exactly e f).1 (meet e f c))
