-- Walks along two tables of links: what one turn keeps, and what walks both ways from every mark leave.
use Prim.Native.Nat.{ℕ, ◌+◌, ◌≤◌, ◌<◌, zero-le}
use native.Mathlib.Decide.{ℕ_discrete}
use native.Mathlib.Omega.{arith}
use mathlib.Core.Path.{◌≡◌, refl, sym, subst}
use mathlib.Core.Logic.{◌⊎◌, inl, inr, ⊎_elim, by_cases}
use mathlib.Core.List.{List}
use lib.ListN.{length, get_or, set, length-set}
use Rattle.reach.specs.Reach.{Reach, start, step}
use Rattle.words.specs.held.Words.{step_of, next_of}
use Rattle.reach.specs.held.Marking.{Marked, Marks, zeros, Flooded}
use Rattle.links.specs.held.Linking.{Nodes, Links, Even, Lone, Crossed, Onward, Walked, Traced, Joins}
use Rattle.reach.specs.laws.Marks.{zeros_lt, marked_small, mark_new, mark_stays, mark_either, mark-bits}
use Rattle.reach.specs.laws.Joins.{reach_map}
use Rattle.links.proofs.Corners.{joins_even}

-- before each turn of a walk: p has a mark, its link to c comes next, and no other link leads out of the new marks
pub record Walking (out inn m₀ : List ℕ) (to : ℕ) (m : List ℕ) (p c : ℕ) : Type 0 where
  pub marks : Marks 1024 m
  pub grows : (e : ℕ) → Marked m₀ e → Marked m e
  pub sound : (e : ℕ) → Marked m e → Reach (Marked m₀) (Links out inn) e
  pub here : Marked m p
  pub link : Links out inn p c
  pub small : c < 1024
  pub begun : Marked m to ⊎ (c ≡ to)
  pub closed : Even (Links out inn) → (e f : ℕ) → Marked m e → Links out inn e f → (Marked m f ⊎ Marked m₀ e) ⊎ ((e ≡ p) × (f ≡ c))

pub walk_none : (out inn m : List ℕ) (from to : ℕ) → Marks 1024 m → Marked m from → Links out inn from to → to < 1024 → Walking out inn m to m from to
walk_none out inn m from to b h j lt = record {
  marks = b;
  grows = λ e k. k;
  sound = λ e k. start k;
  here = h;
  link = j;
  small = lt;
  begun = inr refl;
  closed = λ even e f k i. inl (inr k);
}

module _ (out inn m₀ : List ℕ) (to : ℕ) (m : List ℕ) (p c : ℕ) (s : Walking out inn m₀ to m p c) where
  inside : c < length m
  inside = omega (arith, s.small, s.marks.size)

  pub walk_falls : (Marked m c → ⊥) → zeros (set m c 1) < zeros m
  walk_falls d = zeros_lt m c inside (omega (arith, s.marks.bits c))

  stays : (e : ℕ) → Marked m e → Marked (set m c 1) e
  stays = mark_stays m c inside

  fresh_at : (e : ℕ) → e ≡ c → Marked (set m c 1) e
  fresh_at e q = subst (λ (k : ℕ). Marked (set m c 1) k) (sym q) (mark_new m c inside)

  module _ (n : ℕ) (a : Nodes out) (b : Nodes inn) (o : Onward (get_or out c 0) (get_or inn c 0) p n) where
    -- the links of c lead back to p, or on to n
    onward : Even (Links out inn) → (f : ℕ) → Links out inn c f → Marked (set m c 1) f ⊎ (f ≡ n)
    onward even f j = ⊎_elim (λ (q : f ≡ p). inl (subst (λ (k : ℕ). Marked (set m c 1) k) (sym q) (stays p s.here))) (λ (q : f ≡ n). inr q) (o.other (even p c (marked_small 1024 m p s.marks.size s.here) s.link) f j)

    closed_on : Even (Links out inn) → (e f : ℕ) → Marked (set m c 1) e → Links out inn e f → (Marked (set m c 1) f ⊎ Marked m₀ e) ⊎ ((e ≡ c) × (f ≡ n))
    closed_on even e f h j = ⊎_elim (λ (q : e ≡ c). of_c q) (λ (k : Marked m e). of-old (s.closed even e f k j)) (mark_either m c inside e h)
      where
        of_c : e ≡ c → (Marked (set m c 1) f ⊎ Marked m₀ e) ⊎ ((e ≡ c) × (f ≡ n))
        of_c q = ⊎_elim (λ (k : Marked (set m c 1) f). inl (inl k)) (λ (k : f ≡ n). inr (q, k)) (onward even f (subst (λ (x : ℕ). Links out inn x f) q j))

        of-old : (Marked m f ⊎ Marked m₀ e) ⊎ ((e ≡ p) × (f ≡ c)) → (Marked (set m c 1) f ⊎ Marked m₀ e) ⊎ ((e ≡ c) × (f ≡ n))
        of-old (inl (inl k)) = inl (inl (stays f k))
        of-old (inl (inr k)) = inl (inr k)
        of-old (inr w) = inl (inl (fresh_at f w.1))

    pub walk_more : Walking out inn m₀ to (set m c 1) c n
    walk_more = record {
      marks = record { size = simp length-set s.marks.size; bits = mark-bits m c inside s.marks.bits };
      grows = λ e h. stays e (s.grows e h);
      sound = λ e h. ⊎_elim (λ (q : e ≡ c). subst (λ (k : ℕ). Reach (Marked m₀) (Links out inn) k) (sym q) (step (s.sound p s.here) s.link)) (λ (k : Marked m e). s.sound e k) (mark_either m c inside e h);
      here = mark_new m c inside;
      link = o.either;
      small = ⊎_elim (λ (q : get_or out c 0 ≡ n). subst (λ (k : ℕ). k < 1024) q (a.small c)) (λ (q : get_or inn c 0 ≡ n). subst (λ (k : ℕ). k < 1024) q (b.small c)) o.either;
      begun = inl (⊎_elim (λ (h : Marked m to). stays to h) (λ (q : c ≡ to). fresh_at to (sym q)) s.begun);
      closed = closed_on;
    }

-- ---- walks from every mark

-- what holds before the walks from e
pub record Tracing (L : ℕ → ℕ → Type 0) (m₀ m : List ℕ) (e : ℕ) : Type 0 where
  pub grows : (p : ℕ) → Marked m₀ p → Marked m p
  pub sound : (p : ℕ) → Marked m p → Reach (Marked m₀) L p
  pub closed : Even L → (p q : ℕ) → Marked m p → L p q → Marked m q ⊎ (e ≤ p)

pub trace-none : (L : ℕ → ℕ → Type 0) (m : List ℕ) → Tracing L m m 0
trace-none L m = record { grows = λ p h. h; sound = λ p h. start h; closed = λ even p q h j. inr zero-le }

pub trace_skip : (L : ℕ → ℕ → Type 0) (m₀ m : List ℕ) (e : ℕ) → Tracing L m₀ m e → (get_or m e 0 ≡ 1 → ⊥) → Tracing L m₀ m (e + 1)
trace_skip L m₀ m e s d = record { grows = s.grows; sound = s.sound; closed = λ even p q h j. ⊎_elim (λ (k : Marked m q). inl k) (λ (le : e ≤ p). inr (above p le h)) (s.closed even p q h j) }
  where
    above : (p : ℕ) → e ≤ p → Marked m p → e + 1 ≤ p
    above p le h = by_cases (ℕ_discrete p e) (λ q. absurd (d (subst (λ (k : ℕ). Marked m k) q h))) (λ n. omega arith)

module _ (out inn m₀ m m₁ m₂ : List ℕ) (e : ℕ) (s : Tracing (Links out inn) m₀ m e) (a : Walked (Links out inn) (get_or out e 0) m m₁) (b : Walked (Links out inn) (get_or inn e 0) m₁ m₂) where
  pub trace_more : Tracing (Links out inn) m₀ m₂ (e + 1)
  trace_more = record {
    grows = λ p h. b.grows p (a.grows p (s.grows p h));
    sound = λ p h. reach_map (λ q k. reach_map s.sound (λ x y j. j) (a.sound q k)) (λ x y j. j) (b.sound p h);
    closed = λ even p q h j. late even p q j (b.closed even p q h j);
  }
    where
      ends : (q : ℕ) → Links out inn e q → Marked m₂ q
      ends q (inl z) = b.grows q (subst (λ (k : ℕ). Marked m₁ k) z a.begun)
      ends q (inr z) = subst (λ (k : ℕ). Marked m₂ k) z b.begun

      old : (p q : ℕ) → Links out inn p q → Marked m q ⊎ (e ≤ p) → Marked m₂ q ⊎ (e + 1 ≤ p)
      old p q j (inl k) = inl (b.grows q (a.grows q k))
      old p q j (inr le) = by_cases (ℕ_discrete p e) (λ z. inl (ends q (subst (λ (k : ℕ). Links out inn k q) z j))) (λ n. inr (omega arith))

      soon : Even (Links out inn) → (p q : ℕ) → Links out inn p q → Marked m₁ q ⊎ Marked m p → Marked m₂ q ⊎ (e + 1 ≤ p)
      soon even p q j (inl k) = inl (b.grows q k)
      soon even p q j (inr k) = old p q j (s.closed even p q k j)

      late : Even (Links out inn) → (p q : ℕ) → Links out inn p q → Marked m₂ q ⊎ Marked m₁ p → Marked m₂ q ⊎ (e + 1 ≤ p)
      late even p q j (inl k) = inl k
      late even p q j (inr k) = soon even p q j (a.closed even p q k j)

pub trace_done : (L : ℕ → ℕ → Type 0) (m₀ m : List ℕ) (e : ℕ) → Tracing L m₀ m e → length m ≡ 1024 → 1024 ≤ e → Traced L m₀ m
trace_done L m₀ m e s z ge = record {
  grows = s.grows;
  sound = s.sound;
  closed = λ even p q h j. ⊎_elim (λ (k : Marked m q). k) (λ (le : e ≤ p). absurd (beyond p le h)) (s.closed even p q h j);
}
  where
    beyond : (p : ℕ) → e ≤ p → Marked m p → ⊥
    beyond p le h = omega (arith, marked_small 1024 m p z h)

-- ---- from the tables back to the pairs
module _ (l out inn m₀ m : List ℕ) (z : length m₀ ≡ 1024) (x : Crossed l out inn) (t : Traced (Links out inn) m₀ m) where
  link_small : (p q : ℕ) → Links out inn p q → q < 1024
  link_small p q (inl e) = subst (λ (k : ℕ). k < 1024) e (x.outs.small p)
  link_small p q (inr e) = subst (λ (k : ℕ). k < 1024) e (x.inns.small p)

  sound : {p : ℕ} → Reach (Marked m₀) (Links out inn) p → Reach (Marked m₀) (Joins 1 2 l) p × (p < 1024)
  sound (start {p = p} h) = (start h, marked_small 1024 m₀ p z h)
  sound (step {p = p} {q = q} r j) =
      let w = sound r in
      (⊎_elim (λ (e : p ≡ q). subst (λ (k : ℕ). Reach (Marked m₀) (Joins 1 2 l) k) e w.0) (λ (k : Joins 1 2 l p q). step w.0 k) (x.sound p q w.1 j), link_small p q j)

  module _ (f : Lone step_of l) (g : Lone next_of l) where
    links-even : Even (Links out inn)
    links-even p q h j = ⊎_elim (λ (e : p ≡ q). subst (λ (k : ℕ). Links out inn q k) (sym e) (subst (λ (k : ℕ). Links out inn k q) e j)) (λ (k : Joins 1 2 l p q). x.whole f g q p (joins_even l p q k)) (x.sound p q h j)

    whole : {p : ℕ} → Reach (Marked m₀) (Joins 1 2 l) p → Marked m p
    whole (start h) = t.grows _ h
    whole (step {p = p} {q = q} r j) = t.closed links-even p q (whole r) (x.whole f g p q j)

    pub trace-floods : Flooded (Joins 1 2 l) m₀ m
    trace-floods = record { sound = λ p h. (sound (t.sound p h)).0; whole = λ p. whole }
