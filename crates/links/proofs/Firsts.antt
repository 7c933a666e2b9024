-- One corner of each point with the marks that grow from these, and the lowest point with a corner that has no mark.
use Prim.Native.Nat.{ℕ, ◌+◌, ◌/◌, ◌%◌, ◌≤◌, ◌<◌}
use native.Mathlib.Nat.{le_refl}
use native.Mathlib.Decide.{ℕ_discrete, dec_lt}
use native.Mathlib.Omega.{arith}
use Rattle.std.specs.Prelude.{min, Option, None, Some, MatchOption, unwrap_or}
use mathlib.Core.Path.{◌≡◌, refl, sym, ap, subst, ◌∙◌}
use mathlib.Core.Logic.{◌⊎◌, inl, inr, ⊎_elim, by_cases}
use mathlib.Core.Bool.{Bool}
use mathlib.Core.List.{List}
use borrow.Author.Count.{below_more}
use lib.ListN.{length, get_or, set, length-set}
use Rattle.words.specs.held.Words.{key_from, step_of, node_of}
use Rattle.reach.specs.Reach.{start}
use Rattle.reach.specs.held.Marking.{Marked, Marks, Joint, Grown}
use Rattle.reach.specs.laws.Joins.{reach_map, joint-grown}
use Rattle.reach.specs.laws.Marks.{mark_new, mark_stays, mark_either, mark-bits}
use Rattle.links.specs.held.Linking.{Joins, Cornered, point_of, Met, Begun, Cut}
use Rattle.links.proofs.Ends.{End, step-node, out_end_lem, out_end}
use Rattle.links.proofs.Corners.{Starts, starts_small, node-starts, pair_joins, joins_even}

-- ---- one end of an edge

-- the points seen are those of the first corners, one corner each, and from these the marks have grown
pub record Seeding (es l s m : List ℕ) : Type 0 where
  pub from : List ℕ
  pub size : length from ≡ 1024
  pub node : (e : ℕ) → Marked from e → Starts l e
  pub shown : (v : ℕ) → Marked s v → (e : ℕ) × Marked from e × (get_or es e 0 ≡ v)
  pub hidden : (e : ℕ) → Marked from e → Marked s (get_or es e 0)
  pub lone : (e f : ℕ) → Marked from e → Marked from f → get_or es e 0 ≡ get_or es f 0 → e ≡ f
  pub grown : Grown (Joins 1 2 l) from m

-- after one end of an edge, at point v
pub record Seen (es l : List ℕ) (v : ℕ) (s s' m' : List ℕ) : Type 0 where
  pub seeding : Seeding es l s' m'
  pub grows : (p : ℕ) → Marked s p → Marked s' p
  pub sees : Marked s' v

module _ (es l s m : List ℕ) (v x y : ℕ) (m' : List ℕ) (size : length s ≡ 1024) (marks : Marks 1024 m) (b : Seeding es l s m) (start-x : Starts l x) (start-y : Starts l y) (point : get_or es x 0 ≡ v) (in-v : v < 1024) (there : Joins 1 2 l x y) where
  in_x : x < 1024
  in_x = starts_small l x start-x

  in_y : y < 1024
  in_y = starts_small l y start-y

  seen_old : (r : Bool) → Marked s v → Joint x y m m' r → Seen es l v s s m'
  seen_old r k j = record {
    seeding = record {
      from = b.from;
      size = b.size;
      node = b.node;
      shown = b.shown;
      hidden = b.hidden;
      lone = b.lone;
      grown = joint-grown x y m m' r j marks.bits (omega (arith, marks.size)) (omega (arith, marks.size)) (Joins 1 2 l) b.from b.grown there (joins_even l x y there);
    };
    grows = λ p h. h;
    sees = k;
  }

  -- x is the first corner at v
  module _ (r : Bool) (d : Marked s v → ⊥) (j : Joint x y (set m x 1) m' r) where
    long-s : v < length s
    long-s = omega arith

    long-m : x < length m
    long-m = omega (arith, marks.size)

    long-f : x < length b.from
    long-f = omega (arith, b.size)

    -- no old corner has the new point
    fresh : (e : ℕ) → Marked b.from e → get_or es e 0 ≡ v → ⊥
    fresh e h q = d (subst (λ (k : ℕ). Marked s k) q (b.hidden e h))

    lone : (e f : ℕ) → (e ≡ x) ⊎ Marked b.from e → (f ≡ x) ⊎ Marked b.from f → get_or es e 0 ≡ get_or es f 0 → e ≡ f
    lone e f (inl a) (inl c) q = a ∙ sym c
    lone e f (inl a) (inr c) q = absurd (fresh f c (sym q ∙ (ap (λ (k : ℕ). get_or es k 0) a ∙ point)))
    lone e f (inr a) (inl c) q = absurd (fresh e a (q ∙ (ap (λ (k : ℕ). get_or es k 0) c ∙ point)))
    lone e f (inr a) (inr c) q = b.lone e f a c q

    begins : Grown (Joins 1 2 l) (set b.from x 1) (set m x 1)
    begins = record {
      grows = λ p h. ⊎_elim (λ (q : p ≡ x). subst (λ (k : ℕ). Marked (set m x 1) k) (sym q) (mark_new m x long-m)) (λ (k : Marked b.from p). mark_stays m x long-m p (b.grown.grows p k)) (mark_either b.from x long-f p h);
      sound = λ p h. ⊎_elim (λ (q : p ≡ x). start (subst (λ (k : ℕ). Marked (set b.from x 1) k) (sym q) (mark_new b.from x long-f))) (λ (k : Marked m p). reach_map (λ q g. start (mark_stays b.from x long-f q g)) (λ _ _ g. g) (b.grown.sound p k)) (mark_either m x long-m p h);
    }

    seen-new : Seen es l v s (set s v 1) m'
    seen-new = record {
      seeding = record {
        from = set b.from x 1;
        size = simp length-set b.size;
        node = λ e h. ⊎_elim (λ (q : e ≡ x). subst (Starts l) (sym q) start-x) (λ (k : Marked b.from e). b.node e k) (mark_either b.from x long-f e h);
        shown = λ u h. ⊎_elim (λ (q : u ≡ v). (x, mark_new b.from x long-f, point ∙ sym q)) (λ (k : Marked s u). let w = b.shown u k in (w.0, mark_stays b.from x long-f w.0 w.1, w.2)) (mark_either s v long-s u h);
        hidden = λ e h. ⊎_elim (λ (q : e ≡ x). subst (λ (k : ℕ). Marked (set s v 1) k) (sym (ap (λ (k : ℕ). get_or es k 0) q ∙ point)) (mark_new s v long-s)) (λ (k : Marked b.from e). mark_stays s v long-s (get_or es e 0) (b.hidden e k)) (mark_either b.from x long-f e h);
        lone = λ e f h k. lone e f (mark_either b.from x long-f e h) (mark_either b.from x long-f f k);
        grown = joint-grown x y (set m x 1) m' r j (mark-bits m x long-m marks.bits) (simp length-set long-m) (simp length-set (omega (arith, marks.size))) (Joins 1 2 l) (set b.from x 1) begins there (joins_even l x y there);
      };
      grows = mark_stays s v long-s;
      sees = mark_new s v long-s;
    }

  meets : (s' : List ℕ) → Met v x y s m s' m' → Seen es l v s s' m'
  meets s' t = by_cases (ℕ_discrete (get_or s v 0) 1) (λ k. subst (λ (z : List ℕ). Seen es l v s z m') (sym (t.old k).0) (seen_old t.to k (t.old k).1)) (λ d. subst (λ (z : List ℕ). Seen es l v s z m') (sym (t.new d).0) (seen-new t.to d (t.new d).1))

-- ---- pair by pair

-- what holds after the first i words
pub record Beginning (es l s m : List ℕ) (i : ℕ) : Type 0 where
  pub seeding : Seeding es l s m
  pub first : (j : ℕ) → j < i → j < length l → Marked s (point_of es (get_or l j 0))

module _ (es l : List ℕ) (i : ℕ) (c : Cornered es l) (even : i % 2 ≡ 0) (lt : i + 1 < length l) where
  here : i < length l
  here = omega arith

  -- one end of the pair's edge
  end_met : (h v : ℕ) (s m s' m' : List ℕ) → End h → v < 1024 → get_or es (node_of h (get_or l i 0)) 0 ≡ v → length s ≡ 1024 → Marks 1024 m → Seeding es l s m → Met v (node_of h (get_or l i 0)) (node_of h (get_or l (i + 1) 0)) s m s' m' → Seen es l v s s' m'
  end_met h v s m s' m' z in-v e size marks b t = meets es l s m v (node_of h (get_or l i 0)) (node_of h (get_or l (i + 1) 0)) m' size marks b (node-starts l es c h i z here) (node-starts l es c h (i + 1) z lt) e in-v (pair_joins l h i z even lt) s' t

  -- a word of the pair's edge starts at one of its ends
  start_seen : (s : List ℕ) (j : ℕ) → j < length l → key_from (get_or l i 0) ≡ key_from (get_or l j 0) → Marked s (key_from (get_or l i 0) / 65536 % 1024) → Marked s (key_from (get_or l i 0) % 1024) → Marked s (point_of es (get_or l j 0))
  start_seen s j h e a b = go (out_end_lem (get_or l j 0))
    where
      corner : (k : ℕ) → out_end (get_or l j 0) ≡ k → point_of es (get_or l j 0) ≡ get_or es (node_of k (get_or l j 0)) 0
      corner k q = ap (λ (x : ℕ). get_or es x 0) (step-node (get_or l j 0) ∙ ap (λ (x : ℕ). node_of x (get_or l j 0)) q)

      go : End (out_end (get_or l j 0)) → Marked s (point_of es (get_or l j 0))
      go (inl q) = subst (λ (p : ℕ). Marked s p) (sym (corner 1 q ∙ (c.low j h ∙ ap (λ (k : ℕ). k / 65536 % 1024) (sym e)))) a
      go (inr q) = subst (λ (p : ℕ). Marked s p) (sym (corner 2 q ∙ (c.high j h ∙ ap (λ (k : ℕ). k % 1024) (sym e)))) b

  pub begin_more : (s m s₁ m₁ s₂ m₂ : List ℕ) → length s ≡ 1024 → Marks 1024 m → length s₁ ≡ 1024 → Marks 1024 m₁ → Beginning es l s m i → Met (key_from (get_or l i 0) / 65536 % 1024) (node_of 1 (get_or l i 0)) (node_of 1 (get_or l (i + 1) 0)) s m s₁ m₁ → Met (key_from (get_or l i 0) % 1024) (node_of 2 (get_or l i 0)) (node_of 2 (get_or l (i + 1) 0)) s₁ m₁ s₂ m₂ → Beginning es l s₂ m₂ (i + 2)
  begin_more s m s₁ m₁ s₂ m₂ size marks size₁ marks₁ b t u = record { seeding = w₂.seeding; first = first }
    where
      w₁ : Seen es l (key_from (get_or l i 0) / 65536 % 1024) s s₁ m₁
      w₁ = end_met 1 (key_from (get_or l i 0) / 65536 % 1024) s m s₁ m₁ (inl refl) (omega arith) (c.low i here) size marks b.seeding t

      w₂ : Seen es l (key_from (get_or l i 0) % 1024) s₁ s₂ m₂
      w₂ = end_met 2 (key_from (get_or l i 0) % 1024) s₁ m₁ s₂ m₂ (inr refl) (omega arith) (c.high i here) size₁ marks₁ w₁.seeding u

      seen : (j : ℕ) → j < length l → key_from (get_or l i 0) ≡ key_from (get_or l j 0) → Marked s₂ (point_of es (get_or l j 0))
      seen j h e = start_seen s₂ j h e (w₂.grows (key_from (get_or l i 0) / 65536 % 1024) w₁.sees) w₂.sees

      second : (j : ℕ) → (j < i → ⊥) → (j ≡ i → ⊥) → j < i + 2 → j ≡ i + 1
      second j a d h = omega arith

      first : (j : ℕ) → j < i + 2 → j < length l → Marked s₂ (point_of es (get_or l j 0))
      first j h k = by_cases (dec_lt j i) (λ g. w₂.grows (point_of es (get_or l j 0)) (w₁.grows (point_of es (get_or l j 0)) (b.first j g k))) (λ g. by_cases (ℕ_discrete j i) (λ q. seen j k (ap (λ (x : ℕ). key_from (get_or l x 0)) (sym q))) (λ d. seen j k ((c.pairs i even here).1 ∙ ap (λ (x : ℕ). key_from (get_or l x 0)) (sym (second j g d h)))))

-- no word is left after the last pair
pub begin_done : (es l s m : List ℕ) (i : ℕ) → Cornered es l → i % 2 ≡ 0 → length l ≤ i + 1 → Beginning es l s m i → Begun es l m
begin_done es l s m i c even ge b = record {
  from = b.seeding.from;
  seeds = record { node = b.seeding.node; first = λ j h. b.seeding.shown (point_of es (get_or l j 0)) (b.first j (past j h) h); lone = b.seeding.lone };
  grown = b.seeding.grown;
}
  where
    past : (j : ℕ) → j < length l → j < i
    past j h = by_cases (dec_lt j i) (λ lt. lt) (λ g. absurd (alone (c.pairs i even (omega arith)).0))
      where
        alone : i + 1 < length l → ⊥
        alone k = omega arith

-- what holds after i turns of `lowest_cut`
pub record Cutting (es l m : List ℕ) (best i : ℕ) : Type 0 where
  pub within : best ≤ 65536
  pub found : best < 65536 → Cut es l m best
  pub below : (j : ℕ) → j < i → get_or m (step_of (get_or l j 0)) 0 ≡ 0 → best ≤ get_or es (step_of (get_or l j 0)) 0

module _ (es l m : List ℕ) (best i : ℕ) (s : Cutting es l m best i) (h : i < length l) where
  pub cut_skip : (get_or m (step_of (get_or l i 0)) 0 ≡ 0 → best ≤ get_or es (step_of (get_or l i 0)) 0) → Cutting es l m best (i + 1)
  cut_skip d = record {
    within = s.within;
    found = s.found;
    below = below_more (λ (j : ℕ). get_or m (step_of (get_or l j 0)) 0 ≡ 0 → best ≤ get_or es (step_of (get_or l j 0)) 0) i s.below d;
  }

  pub cut-take : get_or m (step_of (get_or l i 0)) 0 ≡ 0 → get_or es (step_of (get_or l i 0)) 0 < best → Cutting es l m (get_or es (step_of (get_or l i 0)) 0) (i + 1)
  cut-take z lt = record {
    within = omega (arith, s.within);
    found = λ _. record { at = i; within = h; bare = z; point = refl };
    below = below_more (λ (j : ℕ). get_or m (step_of (get_or l j 0)) 0 ≡ 0 → get_or es (step_of (get_or l i 0)) 0 ≤ get_or es (step_of (get_or l j 0)) 0) i (λ j jl g. omega (arith, s.below j jl g)) (λ _. le_refl _);
  }

-- the same with the step's corner and its point under names of their own
module _ (es l m : List ℕ) (best i x v : ℕ) (q : x ≡ step_of (get_or l i 0)) (z : v ≡ get_or es x 0) (s : Cutting es l m best i) (h : i < length l) where
  pub cut_skip_at : (get_or m x 0 ≡ 0 → best ≤ v) → Cutting es l m best (i + 1)
  cut_skip_at d = cut_skip es l m best i s h (rw (z, q) at d)

  pub cut-take_at : get_or m x 0 ≡ 0 → v < best → Cutting es l m v (i + 1)
  cut-take_at e lt = rw (z, q) (cut-take es l m best i s h (rw q at e) (rw (z, q) at lt))

  -- the lower of the best and the point is the next best
  pub cut_lower_at : get_or m x 0 ≡ 0 → (r : ℕ) → r ≡ min best v → Cutting es l m r (i + 1)
  cut_lower_at e r f =
      by_cases
      (dec_lt v best)
      (λ lt. subst (λ (k : ℕ). Cutting es l m k (i + 1)) (omega arith) (cut-take_at e lt))
      (λ ge. subst (λ (k : ℕ). Cutting es l m k (i + 1)) (omega arith) (cut_skip_at (λ _. omega arith)))

-- the lower of what was found, if anything was, and one number more
pub lower : (o : Option ℕ) (v r : ℕ) → MatchOption o (r ≡ v) (λ b. r ≡ min b v) → v < 65536 → r ≡ min (unwrap_or o 65536) v
lower None v r e h = omega arith
lower (Some b) v r e h = e
