-- The marked polygons in the order in which they are found: what one more of them leaves, and that all are reached when each was taken.
use Prim.Native.Nat.{ℕ, zero, suc, ◌+◌, ◌≤◌, ◌<◌, zero-le, suc-le-suc}
use native.Mathlib.Nat.{le_refl, not-suc-le-zero, suc-ne-zero}
use native.Mathlib.Decide.{ℕ_discrete, dec_lt}
use native.Mathlib.Omega.{arith}
use mathlib.Core.Path.{◌≡◌, sym, ap, subst, ◌∙◌}
use mathlib.Core.Logic.{◌⊎◌, inl, inr, ⊎_elim, ◌≢◌, by_cases}
use mathlib.Core.List.{List, [], ◌∷◌}
use lib.ListN.{length, get_or, set, length-set}
use lib.Seq.{get_or-set_same}
use Rattle.reach.specs.Reach.{Reach, start, step}
use Rattle.words.specs.held.Words.{poly_from}
use Rattle.reach.specs.held.Marking.{Marked, zeros, Joined, Flooded}
use Rattle.apart.specs.held.Reaching.{Seeded, Last, Queue, Widened}
use Rattle.words.specs.held.Words.{Mate}
use Rattle.reach.specs.laws.Marks.{at_set, zeros_lt, mark_new, mark_stays, mark_either, mark-bits}
use Rattle.words.specs.laws.Mates.{mate_one}
use Rattle.reach.specs.laws.Joined.{mate-joined}

-- ---- one node more
module _ (m f : List ℕ) (t q : ℕ) (s : Queue m f t) where
  module _ (low : q < 256) (z : get_or m q 0 ≡ 0) where
    inside : q < length m
    inside = omega (arith, s.marks.size)

    fell : zeros (set m q 1) < zeros m
    fell = zeros_lt m q inside z

    pub note-room : t < 256
    note-room = omega (arith, fell, s.room)

    within : t < length f
    within = omega (arith, note-room, s.size)

    -- the places before t are as they were, and q stands at t
    same : (k : ℕ) → k < t → get_or (set f t q) k 0 ≡ get_or f k 0
    same k lt = ⊎_elim (λ (w : (k ≡ t) × (get_or (set f t q) k 0 ≡ q)). absurd (differ w.0)) (λ (w : (k ≢ t) × (get_or (set f t q) k 0 ≡ get_or f k 0)). w.1) (at_set f t q k within)
      where
        differ : k ≡ t → ⊥
        differ e = omega arith

    placed : get_or (set f t q) t 0 ≡ q
    placed = get_or-set_same f t q 0 within

    held : (k : ℕ) → k < t + 1 → Marked (set m q 1) (get_or (set f t q) k 0) × (get_or (set f t q) k 0 < 256)
    held k lt = by_cases (ℕ_discrete k t) (λ e. subst (λ (x : ℕ). Marked (set m q 1) x × (x < 256)) (sym (ap (λ (y : ℕ). get_or (set f t q) y 0) e ∙ placed)) (mark_new m q inside, low)) (λ n. let w = s.held k (omega arith) in subst (λ (x : ℕ). Marked (set m q 1) x × (x < 256)) (sym (same k (omega arith))) (mark_stays m q inside (get_or f k 0) w.0, w.1))

    listed : (p : ℕ) → Marked (set m q 1) p → (k : ℕ) × (k < t + 1) × (get_or (set f t q) k 0 ≡ p)
    listed p h = ⊎_elim (λ (e : p ≡ q). (t, omega arith, placed ∙ sym e)) (λ (g : Marked m p). let k = s.listed p g in (k.0, omega (arith, k.1), same k.0 k.1 ∙ k.2)) (mark_either m q inside p h)

    -- q had no mark, and all that stand before it have one
    once : (j k : ℕ) → j < k → k < t + 1 → get_or (set f t q) j 0 ≡ get_or (set f t q) k 0 → ⊥
    once j k lt h e = by_cases (ℕ_discrete k t) (λ d. clash (get_or f j 0) (sym (same j (omega arith)) ∙ (e ∙ (ap (λ (y : ℕ). get_or (set f t q) y 0) d ∙ placed))) (s.held j (omega arith)).0) (λ n. s.once j k lt (omega arith) (sym (same j (omega arith)) ∙ (e ∙ same k (omega arith))))
      where
        clash : (x : ℕ) → x ≡ q → Marked m x → ⊥
        clash x d g = omega (arith, subst (λ (y : ℕ). Marked m y) d g)

    pub note-new : Widened (λ e. e ≡ q) m f t (set m q 1) (set f t q) (t + 1)
    note-new = record {
      queue = record {
        marks = record {
          size = simp length-set s.marks.size;
          bits = mark-bits m q inside s.marks.bits;
        };
        size = simp length-set s.size;
        room = omega (arith, fell, s.room);
        held = held;
        listed = listed;
        once = once;
      };
      grows = mark_stays m q inside;
      kept = same;
      longer = omega arith;
      sound = λ p h. ⊎_elim inr inl (mark_either m q inside p h);
      whole = λ p e. subst (λ (x : ℕ). Marked (set m q 1) x) (sym e) (mark_new m q inside);
    }

-- ---- the polygons across from one

-- what holds before the place under j of p's list
pub record Visiting (l : List ℕ) (p : ℕ) (m₀ f₀ : List ℕ) (t₀ : ℕ) (m f : List ℕ) (t j : ℕ) : Type 0 where
  pub queue : Queue m f t
  pub grows : (q : ℕ) → Marked m₀ q → Marked m q
  pub kept : (k : ℕ) → k < t₀ → get_or f k 0 ≡ get_or f₀ k 0
  pub longer : t₀ ≤ t
  pub sound : (q : ℕ) → Marked m q → Marked m₀ q ⊎ Joined l poly_from p q
  pub within : j ≤ length l
  pub own : (c : ℕ) → j ≡ c + 1 → poly_from (get_or l c 0) ≡ p
  pub done : (a b : ℕ) → j ≤ a → a < length l → poly_from (get_or l a 0) ≡ p → Mate (length l) a b → Marked m (poly_from (get_or l b 0))

module _ (l : List ℕ) (p : ℕ) (m₀ f₀ : List ℕ) (t₀ : ℕ) (m f : List ℕ) (t j : ℕ) (s : Visiting l p m₀ f₀ t₀ m f t j) where
  module _ (i k q : ℕ) (e : j ≡ i + 1) (here : Marked m₀ p) (mate : Mate (length l) i k) (eq : q ≡ poly_from (get_or l k 0)) (m' f' : List ℕ) (t' j' : ℕ) (w : Widened (λ x. x ≡ q) m f t m' f' t') (next : Last l (poly_from (get_or l i 0)) i j') where
    mine : poly_from (get_or l i 0) ≡ p
    mine = s.own i e

    here-below : i < length l
    here-below = omega (arith, s.within)

    across : (x : ℕ) → x ≡ q → Marked m₀ x ⊎ Joined l poly_from p x
    across x z = ⊎_elim (λ (v : i ≡ k). inl (subst (λ (y : ℕ). Marked m₀ y) (sym (z ∙ (eq ∙ (ap (λ (y : ℕ). poly_from (get_or l y 0)) (sym v) ∙ mine)))) here)) (λ (v : Joined l poly_from (poly_from (get_or l i 0)) (poly_from (get_or l k 0))). inr (subst (λ (y : ℕ). Joined l poly_from p y) (sym (z ∙ eq)) (subst (λ (y : ℕ). Joined l poly_from y (poly_from (get_or l k 0))) mine v))) (mate-joined l poly_from i k here-below mate)

    done : (a b : ℕ) → j' ≤ a → a < length l → poly_from (get_or l a 0) ≡ p → Mate (length l) a b → Marked m' (poly_from (get_or l b 0))
    done a b ge lt z y = by_cases (dec_lt a i) (λ below. absurd (next.none a ge below (z ∙ sym mine))) (λ above. by_cases (ℕ_discrete a i) (λ v. w.whole (poly_from (get_or l b 0)) (ap (λ (x : ℕ). poly_from (get_or l x 0)) (mate_one (length l) i b k (subst (λ (x : ℕ). Mate (length l) x b) v y) mate) ∙ sym eq)) (λ n. w.grows (poly_from (get_or l b 0)) (s.done a b (omega arith) lt z y)))

    pub visit-more : Visiting l p m₀ f₀ t₀ m' f' t' j'
    visit-more = record {
      queue = w.queue;
      grows = λ x h. w.grows x (s.grows x h);
      kept = λ x lt. w.kept x (omega (arith, s.longer)) ∙ s.kept x lt;
      longer = omega (arith, s.longer, w.longer);
      sound = λ x h. ⊎_elim (λ (v : Marked m x). s.sound x v) (λ (v : x ≡ q). across x v) (w.sound x h);
      within = omega (arith, next.within, here-below);
      own = λ c z. next.own c z ∙ mine;
      done = done;
    }

-- ---- each polygon once

zeros-all : (m : List ℕ) → zeros m ≤ length m
unfolding zeros
zeros-all [] = le_refl 0
zeros-all (zero ∷ m) = suc-le-suc (zeros-all m)
zeros-all (suc a ∷ m) = omega (arith, zeros-all m)

zeros-short : (m : List ℕ) (x : ℕ) → get_or m x 0 ≡ 1 → zeros m < length m
unfolding zeros
zeros-short [] x e = absurd (suc-ne-zero 0 (sym e))
zeros-short (zero ∷ m) zero e = absurd (suc-ne-zero 0 (sym e))
zeros-short (suc a ∷ m) zero e = suc-le-suc (zeros-all m)
zeros-short (zero ∷ m) (suc x) e = suc-le-suc (zeros-short m x e)
zeros-short (suc a ∷ m) (suc x) e = omega (arith, zeros-short m x e)

-- what holds before the polygon at `from` is taken
pub record Taking (R : ℕ → ℕ → Type 0) (m₀ m f : List ℕ) (from to : ℕ) : Type 0 where
  pub queue : Queue m f to
  pub grows : (p : ℕ) → Marked m₀ p → Marked m p
  pub sound : (p : ℕ) → Marked m p → Reach (Marked m₀) R p
  pub order : from ≤ to
  pub closed : (k q : ℕ) → k < from → R (get_or f k 0) q → Marked m q

pub take_none : (R : ℕ → ℕ → Type 0) (m f : List ℕ) → Seeded m → length f ≡ 256 → get_or f 0 0 ≡ 0 → Taking R m m f 0 1
take_none R m f s e z = record {
  queue = record {
    marks = s.marks;
    size = e;
    room = omega (arith, zeros-short m 0 s.first, s.marks.size);
    held = λ k lt. let q : get_or f k 0 ≡ 0 = ap (λ (x : ℕ). get_or f x 0) (first k lt) ∙ z in (subst (λ (x : ℕ). Marked m x) (sym q) s.first, omega arith);
    listed = λ p h. (0, le_refl 1, z ∙ sym (s.only p h));
    once = λ j k lt h. absurd (lone j k lt h);
  };
  grows = λ p h. h;
  sound = λ p h. start h;
  order = zero-le;
  closed = λ k q lt. absurd (not-suc-le-zero lt);
}
  where
    first : (k : ℕ) → k < 1 → k ≡ 0
    first k lt = omega arith

    lone : (j k : ℕ) → j < k → k < 1 → ⊥
    lone j k a b = omega arith

module _ (R : ℕ → ℕ → Type 0) (m₀ m f : List ℕ) (from to : ℕ) (s : Taking R m₀ m f from to) where
  module _ (h : from < to) (m' f' : List ℕ) (to' : ℕ) (w : Widened (R (get_or f from 0)) m f to m' f' to') where
    pub take_more : Taking R m₀ m' f' (from + 1) to'
    take_more = record {
      queue = w.queue;
      grows = λ p k. w.grows p (s.grows p k);
      sound = λ p k. ⊎_elim (λ (v : Marked m p). s.sound p v) (λ (v : R (get_or f from 0) p). step (s.sound (get_or f from 0) (s.queue.held from h).0) v) (w.sound p k);
      order = omega (arith, w.longer);
      closed = λ k q lt v. closed k q lt (subst (λ (x : ℕ). R x q) (w.kept k (omega arith)) v);
    }
      where
        closed : (k q : ℕ) → k < from + 1 → R (get_or f k 0) q → Marked m' q
        closed k q lt v = by_cases (ℕ_discrete k from) (λ e. w.whole q (subst (λ (x : ℕ). R (get_or f x 0) q) e v)) (λ n. w.grows q (s.closed k q (omega arith) v))

  pub take_done : to ≤ from → Flooded R m₀ m
  take_done ge = record { sound = s.sound; whole = λ p. whole }
    where
      whole : {p : ℕ} → Reach (Marked m₀) R p → Marked m p
      whole (start h) = s.grows _ h
      whole (step {p = p} {q = q} r j) = let k = s.queue.listed p (whole r) in s.closed k.0 q (omega (arith, k.1)) (subst (λ (x : ℕ). R x q) (sym k.2) j)
