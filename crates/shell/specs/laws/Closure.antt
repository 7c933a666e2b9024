-- The rounds of Reach reach exactly what the relation `Reach` says.
use Rattle.std.specs.Prelude.{ℕ, suc, ◌+◌, ◌≤◌, ◌≡◌, Bool, ◌⊎◌, eqb}
use Rattle.std.proofs.Common.{suc-le-suc, le_refl, le_of_suc-le-suc, sym, ◌∙◌}
use Rattle.std.proofs.Math.Decide.{dec_lt}
use native.Mathlib.Omega.{arith}
use Rattle.std.proofs.Math.Path.{refl, ap, subst}
use Rattle.std.proofs.Math.Bool.{true, false, not, true≢false}
use Rattle.std.proofs.Math.Logic.{inl, inr, ⊎_elim, by_cases}
use mathlib.Core.List.{List, [], ◌∷◌}
use borrow.Author.Tests.{eqb-true, eq-eqb, not-true}
use Rattle.std.proofs.Math.ListN.{length}
use Rattle.whole.specs.Lists.{any, keep, lists}
use Rattle.edges.specs.held.Ascending.{In}
use Rattle.reach.specs.Reach.{Reach, start, step, grow, rounds, unreached}

-- a test that holds of an element is found, and the other way round
pub any_in : (t : ℕ → Bool) (l : List ℕ) → any t l ≡ true → (x : ℕ) × In x l × (t x ≡ true)
unfolding any
any_in t [] h = absurd (true≢false (sym h))
any_in t (y ∷ l) h = go (t y) refl h (any_in t l)
  where
    go : (b : Bool) → t y ≡ b → elim b as (λ _. Bool) [ true ↦ true | false ↦ any t l ] ≡ true → (any t l ≡ true → (x : ℕ) × In x l × (t x ≡ true)) → (x : ℕ) × In x (y ∷ l) × (t x ≡ true)
    go true e h ih = (y, inl refl, e)
    go false e h ih = let r = ih h in (r.0, inr r.1, r.2)

pub in_any : (t : ℕ → Bool) (x : ℕ) (l : List ℕ) → In x l → t x ≡ true → any t l ≡ true
unfolding any
in_any t x [] i e = absurd i
in_any t x (y ∷ l) (inl q) e = rw (ap t (sym q) ∙ e, any)
in_any t x (y ∷ l) (inr i) e = go (t y) (in_any t x l i e)
  where
    go : (b : Bool) → any t l ≡ true → elim b as (λ _. Bool) [ true ↦ true | false ↦ any t l ] ≡ true
    go true h = refl
    go false h = h

keep_nil : (t : ℕ → Bool) → keep t [] ≡ []
unfolding keep
keep_nil t = refl

keep-true : (t : ℕ → Bool) (x : ℕ) (l : List ℕ) → t x ≡ true → keep t (x ∷ l) ≡ x ∷ keep t l
unfolding keep
keep-true t x l e = rw (e, keep)

keep-false : (t : ℕ → Bool) (x : ℕ) (l : List ℕ) → t x ≡ false → keep t (x ∷ l) ≡ keep t l
unfolding keep
keep-false t x l e = rw (e, keep)

pub keep_in : (t : ℕ → Bool) (x : ℕ) (l : List ℕ) → In x (keep t l) → In x l × (t x ≡ true)
keep_in t x [] i = absurd (rw keep_nil at i)
keep_in t x (y ∷ l) i = go (t y) refl (keep_in t x l)
  where
    go : (b : Bool) → t y ≡ b → (In x (keep t l) → In x l × (t x ≡ true)) → In x (y ∷ l) × (t x ≡ true)
    go true e ih = ⊎_elim (λ (q : x ≡ y). (inl q, ap t q ∙ e)) (λ (j : In x (keep t l)). (inr (ih j).0, (ih j).1)) (rw (keep-true t y l e) at i)
    go false e ih = let j = ih (rw (keep-false t y l e) at i) in (inr j.0, j.1)

pub in_keep : (t : ℕ → Bool) (x : ℕ) (l : List ℕ) → In x l → t x ≡ true → In x (keep t l)
in_keep t x [] i e = absurd i
in_keep t x (y ∷ l) (inl q) e = rw (keep-true t y l (ap t (sym q) ∙ e)) (inl q)
in_keep t x (y ∷ l) (inr i) e = go (t y) refl (in_keep t x l i e)
  where
    go : (b : Bool) → t y ≡ b → In x (keep t l) → In x (keep t (y ∷ l))
    go true f h = rw (keep-true t y l f) (inr h)
    go false f h = rw (keep-false t y l f) h

-- a wider test keeps as many, and where it keeps no more it is no wider
pub keep_le : (t t' : ℕ → Bool) (l : List ℕ) → ((x : ℕ) → In x l → t x ≡ true → t' x ≡ true) → length (keep t l) ≤ length (keep t' l)
keep_le t t' [] w = rw (keep_nil t, keep_nil t') (le_refl 0)
keep_le t t' (y ∷ l) w = go (t y) refl (t' y) refl (keep_le t t' l (λ x i. w x (inr i)))
  where
    go : (a : Bool) → t y ≡ a → (b : Bool) → t' y ≡ b → length (keep t l) ≤ length (keep t' l) → length (keep t (y ∷ l)) ≤ length (keep t' (y ∷ l))
    go true e true f ih = rw (keep-true t y l e, keep-true t' y l f) (suc-le-suc ih)
    go true e false f ih = absurd (true≢false (sym (w y (inl refl) e) ∙ f))
    go false e true f ih = rw (keep-false t y l e, keep-true t' y l f) (omega (arith, ih))
    go false e false f ih = rw (keep-false t y l e, keep-false t' y l f) ih

pub keep_same : (t t' : ℕ → Bool) (l : List ℕ) → ((x : ℕ) → In x l → t x ≡ true → t' x ≡ true) → length (keep t' l) ≤ length (keep t l) → (x : ℕ) → In x l → t' x ≡ true → t x ≡ true
keep_same t t' [] w h x i q = absurd i
keep_same t t' (y ∷ l) w h x i q = go (t y) refl (t' y) refl i (λ h' j. keep_same t t' l (λ x i. w x (inr i)) h' x j q)
  where
    too_long : suc (length (keep t' l)) ≤ length (keep t l) → ⊥
    too_long z = omega (arith, keep_le t t' l (λ x i. w x (inr i)))

    go : (a : Bool) → t y ≡ a → (b : Bool) → t' y ≡ b → (x ≡ y) ⊎ In x l → (length (keep t' l) ≤ length (keep t l) → In x l → t x ≡ true) → t x ≡ true
    go true e b f (inl p) ih = ap t p ∙ e
    go true e true f (inr j) ih = ih (le_of_suc-le-suc (rw (keep-true t y l e, keep-true t' y l f) at h)) j
    go true e false f (inr j) ih = absurd (true≢false (sym (w y (inl refl) e) ∙ f))
    go false e true f i ih = absurd (too_long (rw (keep-false t y l e, keep-true t' y l f) at h))
    go false e false f (inl p) ih = absurd (true≢false (sym q ∙ (ap t' p ∙ f)))
    go false e false f (inr j) ih = ih (rw (keep-false t y l e, keep-false t' y l f) at h) j

-- the rounds, over nodes ns and steps r
module _ (r : ℕ → ℕ → Bool) (ns : List ℕ) where
  abbrev reaches : List ℕ → ℕ → Bool
  reaches seen q = any (λ p. elim (eqb p q) [ true ↦ true | false ↦ r p q ]) seen

  grow_is : (seen : List ℕ) → grow r ns seen ≡ keep (reaches seen) ns
  unfolding grow
  grow_is seen = refl

  abbrev Steps : ℕ → ℕ → Type 0
  Steps p q = In q ns × (r p q ≡ true)

  hit : (p q : ℕ) → p ≡ q → elim (eqb p q) as (λ _. Bool) [ true ↦ true | false ↦ r p q ] ≡ true
  hit p q e = rw (eq-eqb p q e)

  via : (p q : ℕ) → r p q ≡ true → elim (eqb p q) as (λ _. Bool) [ true ↦ true | false ↦ r p q ] ≡ true
  via p q e = go (eqb p q)
    where
      go : (b : Bool) → elim b as (λ _. Bool) [ true ↦ true | false ↦ r p q ] ≡ true
      go true = refl
      go false = e

  which : (p q : ℕ) → elim (eqb p q) as (λ _. Bool) [ true ↦ true | false ↦ r p q ] ≡ true → (p ≡ q) ⊎ (r p q ≡ true)
  which p q h = go (eqb p q) refl h
    where
      go : (b : Bool) → eqb p q ≡ b → elim b as (λ _. Bool) [ true ↦ true | false ↦ r p q ] ≡ true → (p ≡ q) ⊎ (r p q ≡ true)
      go true e h = inl (eqb-true p q e)
      go false e h = inr h

  -- no step leaves s
  abbrev Closed : List ℕ → Type 0
  Closed s = (p q : ℕ) → In p s → In q ns → r p q ≡ true → In q s

  grows : (s : List ℕ) (q : ℕ) → In q ns → In q s → In q (grow r ns s)
  grows s q n i = rw (grow_is s) (in_keep (reaches s) q ns n (in_any _ q s i (hit q q refl)))

  takes : (s : List ℕ) (p q : ℕ) → In p s → In q ns → r p q ≡ true → In q (grow r ns s)
  takes s p q i n e = rw (grow_is s) (in_keep (reaches s) q ns n (in_any _ p s i (via p q e)))

  -- soundness
  pub sound : {S : ℕ → Type 0} (ks s : List ℕ) → ((q : ℕ) → In q s → Reach S Steps q) → (q : ℕ) → In q (rounds r ns ks s) → Reach S Steps q
  unfolding rounds
  sound [] s h q i = h q i
  sound {S} (k ∷ ks) s h q i = sound ks (grow r ns s) more q i
    where
      more : (x : ℕ) → In x (grow r ns s) → Reach S Steps x
      more x j =
          let a = keep_in (reaches s) x ns (rw (grow_is s) at j) in
          let b = any_in _ s a.1 in
          ⊎_elim (λ (e : b.0 ≡ x). subst (λ (y : ℕ). Reach S Steps y) e (h b.0 b.1)) (λ (e : r b.0 x ≡ true). step (h b.0 b.1) (a.0, e)) (which b.0 x b.2)

  -- completeness: a round that adds nothing is closed, and each other round adds a node
  wider : (t : ℕ → Bool) (x : ℕ) → In x ns → t x ≡ true → reaches (keep t ns) x ≡ true
  wider t x n e = in_any _ x (keep t ns) (in_keep t x ns n e) (hit x x refl)

  still : (t : ℕ → Bool) → length (keep (reaches (keep t ns)) ns) ≤ length (keep t ns) → Closed (keep t ns)
  still t h p q i n e = in_keep t q ns n (keep_same t (reaches (keep t ns)) ns (wider t) h q n (in_any _ p (keep t ns) i (via p q e)))

  keeps_closed : (s : List ℕ) → Closed s → Closed (keep (reaches s) ns)
  keeps_closed s c p q i n e =
      let a = keep_in (reaches s) p ns i in
      let b = any_in _ s a.1 in
      let j : In p s = ⊎_elim (λ (z : b.0 ≡ p). subst (λ (y : ℕ). In y s) z b.1) (λ (z : r b.0 p ≡ true). c b.0 p b.1 a.0 z) (which b.0 p b.2) in
      in_keep (reaches s) q ns n (in_any _ q s (c p q j n e) (hit q q refl))

  short : (t : ℕ → Bool) → length (keep t ns) ≤ length ns
  short t = subst (λ (l : List ℕ). length (keep t ns) ≤ length l) (keep_all ns) (keep_le t (λ _. true) ns (λ x i e. refl))
    where
      keep_all : (l : List ℕ) → keep (λ _. true) l ≡ l
      keep_all [] = keep_nil (λ _. true)
      keep_all (x ∷ l) = keep-true (λ _. true) x l refl ∙ ap (λ (z : List ℕ). x ∷ z) (keep_all l)

  -- all kept is closed
  all_closed : (t : ℕ → Bool) → length ns ≤ length (keep t ns) → Closed (keep t ns)
  all_closed t h p q i n e = in_keep t q ns n (keep_same t (λ _. true) ns (λ x j z. refl) (subst (λ (m : List ℕ). length m ≤ length (keep t ns)) (sym (keep_all ns)) h) q n refl)
    where
      keep_all : (l : List ℕ) → keep (λ _. true) l ≡ l
      keep_all [] = keep_nil (λ _. true)
      keep_all (x ∷ l) = keep-true (λ _. true) x l refl ∙ ap (λ (z : List ℕ). x ∷ z) (keep_all l)

  closes : (ks : List ℕ) (m : ℕ) (t : ℕ → Bool) → Closed (keep t ns) ⊎ (m ≤ length (keep t ns)) → length ns ≤ m + length ks → Closed (rounds r ns ks (keep t ns))
  unfolding rounds grow
  closes [] m t (inl c) h = c
  closes [] m t (inr l) h = all_closed t (omega arith)
  closes (k ∷ ks) m t (inl c) h = closes ks (suc m) (reaches (keep t ns)) (inl (keeps_closed (keep t ns) c)) (omega arith)
  closes (k ∷ ks) m t (inr l) h =
      closes ks (suc m) (reaches (keep t ns)) (by_cases (dec_lt (length (keep t ns)) (length (keep (reaches (keep t ns)) ns))) (λ lt. inr (omega arith)) (λ ge. inl (keeps_closed (keep t ns) (still t (omega arith))))) (omega arith)

  lasts : (ks s : List ℕ) (q : ℕ) → In q ns → In q s → In q (rounds r ns ks s)
  unfolding rounds
  lasts [] s q n i = i
  lasts (k ∷ ks) s q n i = lasts ks (grow r ns s) q n (grows s q n i)

  some_kept : (t : ℕ → Bool) (x : ℕ) (l : List ℕ) → In x (keep t l) → 1 ≤ length (keep t l)
  some_kept t x l i = go (keep t l) i
    where
      go : (m : List ℕ) → In x m → 1 ≤ length m
      go [] i = absurd i
      go (y ∷ m) i = omega arith

  -- as many rounds as nodes are enough, from one of the nodes
  whole : (x : ℕ) → In x ns → (ks : List ℕ) → length ns ≤ length ks → {q : ℕ} → Reach (λ y. y ≡ x) Steps q → In q (rounds r ns ks (x ∷ []))
  unfolding rounds
  whole x i ks h (start {p = p} e) = lasts ks (x ∷ []) p (subst (λ (y : ℕ). In y ns) (sym e) i) (inl e)
  whole x i [] h (step {q = q} t l) = absurd (none_in ns l.0 (omega arith))
    where
      none_in : (m : List ℕ) → In q m → length m ≤ 0 → ⊥
      none_in [] j z = j
      none_in (y ∷ m) j z = omega arith
  whole x i (k ∷ ks) h (step {p = p} {q = q} t l) =
      let first : In x (keep (reaches (x ∷ [])) ns) = in_keep (reaches (x ∷ [])) x ns i (in_any _ x (x ∷ []) (inl refl) (hit x x refl)) in
      let c : Closed (rounds r ns ks (keep (reaches (x ∷ [])) ns)) = closes ks 1 (reaches (x ∷ [])) (inr (some_kept (reaches (x ∷ [])) x ns first)) (omega arith) in
      let g : rounds r ns ks (grow r ns (x ∷ [])) ≡ rounds r ns ks (keep (reaches (x ∷ [])) ns) = ap (rounds r ns ks) (grow_is (x ∷ [])) in
      rw g (c p q (rw g at (whole x i (k ∷ ks) h t)) l.0 l.1)

  -- a node is among those not reached exactly when no path leads to it
  pub unreached-cut : (x q : ℕ) → In x ns → In q (unreached r ns x) → In q ns × (Reach (λ y. y ≡ x) Steps q → ⊥)
  unfolding unreached lists
  unreached-cut x q i j =
      let a = keep_in (λ p. not (lists p (rounds r ns ns (x ∷ [])))) q ns j in
      (a.0, λ t. true≢false (sym (in_any (eqb q) q (rounds r ns ns (x ∷ [])) (whole x i ns (le_refl (length ns)) t) (eq-eqb q q refl)) ∙ not-true (lists q (rounds r ns ns (x ∷ []))) a.1))

  pub cut-unreached : (x q : ℕ) → In q ns → (Reach (λ y. y ≡ x) Steps q → ⊥) → In q (unreached r ns x)
  unfolding unreached lists
  cut-unreached x q n c = in_keep (λ p. not (lists p (rounds r ns ns (x ∷ [])))) q ns n (go (lists q (rounds r ns ns (x ∷ []))) refl)
    where
      go : (b : Bool) → lists q (rounds r ns ns (x ∷ [])) ≡ b → not (lists q (rounds r ns ns (x ∷ []))) ≡ true
      go true e =
          let a = any_in (eqb q) (rounds r ns ns (x ∷ [])) e in
          absurd (c (subst (λ (y : ℕ). Reach (λ y. y ≡ x) Steps y) (sym (eqb-true q a.0 a.2)) (sound ns (x ∷ []) (λ p i. ⊎_elim (λ (z : p ≡ x). start z) (λ (z : ⊥). absurd z) i) a.0 a.1)))
      go false e = rw e
