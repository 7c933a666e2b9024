-- The join of two linked nodes, and marks that grow by joins.
use Rattle.std.specs.Prelude.{ℕ, zero, suc, ◌≤◌, ◌<◌, ◌≡◌, refl, Bool, true, false, ◌⊎◌, ◌≢◌, List, eqb, length, get_or, set}
use Rattle.std.proofs.Common.{suc-ne-zero, arith, sym, ap, subst, ◌∙◌, inl, inr, ⊎_elim, length-set, get_or-set_other}
use Rattle.std.proofs.Math.Decide.{ℕ_discrete}
use Rattle.std.proofs.Math.Logic.{by_cases}
use Rattle.reach.specs.Reach.{Reach, start, step}
use Rattle.reach.specs.held.Marking.{Marked, Joint, Grown, Flooded}
use Rattle.reach.specs.laws.Marks.{at_set, set_as_is, marked_is, bare_is}

-- Reach is monotone in its starts and its steps
pub reach_map : {S S' : ℕ → Type 0} {R R' : ℕ → ℕ → Type 0} {p : ℕ} → ((q : ℕ) → S q → Reach S' R' q) → ((a b : ℕ) → R a b → R' a b) → Reach S R p → Reach S' R' p
reach_map f g (start s) = f _ s
reach_map f g (step r l) = step (reach_map f g r) (g _ _ l)

-- ---- two nodes, by their marks
module _ (m : List ℕ) (bits : (p : ℕ) → get_or m p 0 ≤ 1) where
  module _ (x y : ℕ) where
    pub joint-both : true ≡ eqb (get_or m x 0) 1 → true ≡ eqb (get_or m y 0) 1 → Joint x y m m false
    joint-both a b = record { same = λ _. (refl, refl); other = λ d. absurd (d (marked_is m x a ∙ sym (marked_is m y b))) }

    pub joint-none : false ≡ eqb (get_or m x 0) 1 → false ≡ eqb (get_or m y 0) 1 → Joint x y m m false
    joint-none a b = record { same = λ _. (refl, refl); other = λ d. absurd (d (bare_is m x bits a ∙ sym (bare_is m y bits b))) }

    pub joint-first : x < length m → true ≡ eqb (get_or m x 0) 1 → false ≡ eqb (get_or m y 0) 1 → Joint x y m (set m y 1) true
    joint-first h a b = record { same = λ e. absurd (differ e); other = λ _. (ap (λ (l : List ℕ). set l y 1) (sym (set_as_is m x 1 h (marked_is m x a))), refl) }
      where
        differ : get_or m x 0 ≡ get_or m y 0 → ⊥
        differ e = suc-ne-zero 0 (sym (marked_is m x a) ∙ (e ∙ bare_is m y bits b))

    pub joint-second : y < length m → false ≡ eqb (get_or m x 0) 1 → true ≡ eqb (get_or m y 0) 1 → Joint x y m (set m x 1) true
    joint-second h a b = record { same = λ e. absurd (differ e); other = λ _. (sym (set_as_is (set m x 1) y 1 (rw length-set h) (get_or-set_other m x y 1 0 apart ∙ marked_is m y b)), refl) }
      where
        differ : get_or m x 0 ≡ get_or m y 0 → ⊥
        differ e = suc-ne-zero 0 (sym (marked_is m y b) ∙ (sym e ∙ bare_is m x bits a))

        apart : y ≢ x
        apart e = differ (ap (λ (k : ℕ). get_or m k 0) (sym e))

-- ---- what a join leaves
module _ (x y : ℕ) (m m' : List ℕ) (r : Bool) (j : Joint x y m m' r) where
  -- no mark was made: the marks are as they were, and agree
  pub joint_still : r ≡ false → (m' ≡ m) × (get_or m x 0 ≡ get_or m y 0)
  joint_still z = by_cases (ℕ_discrete (get_or m x 0) (get_or m y 0)) (λ e. ((j.same e).0, e)) (λ n. absurd (cc ((j.other n).1, z)))

  pub joint_length : length m' ≡ length m
  joint_length = by_cases (ℕ_discrete (get_or m x 0) (get_or m y 0)) (λ e. ap length (j.same e).0) (λ n. ap length (j.other n).0 ∙ (length-set (set m x 1) y 1 ∙ length-set m x 1))

  module _ (bits : (p : ℕ) → get_or m p 0 ≤ 1) (in_x : x < length m) (in_y : y < length m) where
    -- where the marks differ one end is marked, and both are reached
    either : (get_or m x 0 ≡ get_or m y 0 → ⊥) → Marked m x ⊎ Marked m y
    either d = go (get_or m x 0) (get_or m y 0) (bits x) (bits y) d
      where
        go : (a b : ℕ) → a ≤ 1 → b ≤ 1 → (a ≡ b → ⊥) → (a ≡ 1) ⊎ (b ≡ 1)
        go zero b f g d = inr (omega arith)
        go (suc a) b f g d = inl (omega arith)

    long-y : y < length (set m x 1)
    long-y = rw length-set in_y

    -- the marks after it, at any node
    after : (p : ℕ) → (get_or m' p 0 ≡ get_or m p 0) ⊎ (Marked m' p × (((p ≡ x) ⊎ (p ≡ y)) × (Marked m x ⊎ Marked m y)))
    after p = by_cases (ℕ_discrete (get_or m x 0) (get_or m y 0)) (λ e. inl (ap (λ (l : List ℕ). get_or l p 0) (j.same e).0)) (λ n. two n (j.other n).0)
      where
        two : (get_or m x 0 ≡ get_or m y 0 → ⊥) → m' ≡ set (set m x 1) y 1 → (get_or m' p 0 ≡ get_or m p 0) ⊎ (Marked m' p × (((p ≡ x) ⊎ (p ≡ y)) × (Marked m x ⊎ Marked m y)))
        two n e =
            ⊎_elim
            (λ (w : (p ≡ y) × (get_or (set (set m x 1) y 1) p 0 ≡ 1)). inr (ap (λ (l : List ℕ). get_or l p 0) e ∙ w.1, (inr w.0, either n)))
            (λ (w : (p ≢ y) × (get_or (set (set m x 1) y 1) p 0 ≡ get_or (set m x 1) p 0)).
            ⊎_elim
            (λ (v : (p ≡ x) × (get_or (set m x 1) p 0 ≡ 1)). inr (ap (λ (l : List ℕ). get_or l p 0) e ∙ (w.1 ∙ v.1), (inl v.0, either n)))
            (λ (v : (p ≢ x) × (get_or (set m x 1) p 0 ≡ get_or m p 0)). inl (ap (λ (l : List ℕ). get_or l p 0) e ∙ (w.1 ∙ v.1)))
            (at_set m x 1 p in_x))
            (at_set (set m x 1) y 1 p long-y)

    pub joint-grows : (p : ℕ) → Marked m p → Marked m' p
    joint-grows p h = ⊎_elim (λ (e : get_or m' p 0 ≡ get_or m p 0). e ∙ h) (λ (w : Marked m' p × (((p ≡ x) ⊎ (p ≡ y)) × (Marked m x ⊎ Marked m y))). w.0) (after p)

    -- along links that go both ways between x and y the marks stay sound
    module _ (R : ℕ → ℕ → Type 0) (m₀ : List ℕ) (g : Grown R m₀ m) (there : R x y) (back : R y x) where
      from-x : Marked m x → (p : ℕ) → (p ≡ x) ⊎ (p ≡ y) → Reach (Marked m₀) R p
      from-x h p (inl e) = subst (λ (k : ℕ). Reach (Marked m₀) R k) (sym e) (g.sound x h)
      from-x h p (inr e) = subst (λ (k : ℕ). Reach (Marked m₀) R k) (sym e) (step (g.sound x h) there)

      from-y : Marked m y → (p : ℕ) → (p ≡ x) ⊎ (p ≡ y) → Reach (Marked m₀) R p
      from-y h p (inl e) = subst (λ (k : ℕ). Reach (Marked m₀) R k) (sym e) (step (g.sound y h) back)
      from-y h p (inr e) = subst (λ (k : ℕ). Reach (Marked m₀) R k) (sym e) (g.sound y h)

      pub joint-grown : Grown R m₀ m'
      joint-grown = record {
        grows = λ p h. joint-grows p (g.grows p h);
        sound = λ p h.
            ⊎_elim
            (λ (e : get_or m' p 0 ≡ get_or m p 0). g.sound p (sym e ∙ h))
            (λ (w : Marked m' p × (((p ≡ x) ⊎ (p ≡ y)) × (Marked m x ⊎ Marked m y))). ⊎_elim (λ (k : Marked m x). from-x k p w.1.0) (λ (k : Marked m y). from-y k p w.1.0) w.1.1)
            (after p);
      }

-- ---- growth
pub grown_none : (R : ℕ → ℕ → Type 0) (m : List ℕ) → Grown R m m
grown_none R m = record { grows = λ p h. h; sound = λ p h. start h }

pub grown_on : (R : ℕ → ℕ → Type 0) (m₀ m m' : List ℕ) → Grown R m₀ m → Grown R m m' → Grown R m₀ m'
grown_on R m₀ m m' a b = record { grows = λ p h. b.grows p (a.grows p h); sound = λ p h. reach_map a.sound (λ x y l. l) (b.sound p h) }

-- what flows from grown marks flows from those they began with
pub flood_on : (R : ℕ → ℕ → Type 0) (m₀ m m' : List ℕ) → Grown R m₀ m → Flooded R m m' → Flooded R m₀ m'
flood_on R m₀ m m' g f = record { sound = λ p h. reach_map g.sound (λ x y j. j) (f.sound p h); whole = λ p r. f.whole p (reach_map (λ q h. start (g.grows q h)) (λ x y j. j) r) }

-- marks out of which no link leads
pub grown_floods : (R : ℕ → ℕ → Type 0) (m₀ m : List ℕ) → Grown R m₀ m → ((p q : ℕ) → Marked m p → R p q → Marked m q) → Flooded R m₀ m
grown_floods R m₀ m g closed = record { sound = g.sound; whole = λ p. whole }
  where
    whole : {p : ℕ} → Reach (Marked m₀) R p → Marked m p
    whole (start h) = g.grows _ h
    whole (step {p = p} {q = q} r l) = closed p q (whole r) l
