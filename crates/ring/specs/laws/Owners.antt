-- Which ring an entry belongs to, and which polygon a ring.
use Prim.Native.Nat.{ℕ, zero, suc, ◌+◌, ◌-◌, ◌≤◌, ◌<◌}
use Rattle.std.proofs.Common.{le_refl, add-one, sym, ap₂, subst, ◌∙◌, leb-true, leb-false}
use Rattle.std.proofs.Math.Decide.{ℕ_discrete, dec_lt}
use native.Mathlib.Omega.{arith}
use Rattle.std.specs.Prelude.{◌≡◌, refl, Bool, true, false, leb}
use Rattle.std.proofs.Math.Path.{ap}
use Rattle.std.proofs.Math.Logic.{by_cases}
use mathlib.Core.List.{List, [], ◌∷◌, ◌++◌, append-nil, append_assoc}
use Rattle.std.proofs.Math.ListN.{get_or}
use Rattle.whole.specs.held.Spans.{span}
use Rattle.whole.specs.Lists.{tab}
use Rattle.ring.specs.Polygon.{Polygon, rings_of, all_rings}
use Rattle.ring.specs.held.Rings.{Layout, ring_at, polygon_of, polygon_at, polygons, owner_of}

pub owner_is : (st : List ℕ) (n p i : ℕ) → p ≤ n → get_or st p 0 ≤ i → ((q : ℕ) → p < q → q ≤ n → i < get_or st q 0) → owner_of st n i ≡ p
unfolding owner_of
owner_is st zero p i h k f = omega arith
owner_is st (suc n) p i h k f = go (leb (get_or st (suc n) 0) i) refl (λ g. owner_is st n p i g k (λ q a b. f q a (omega arith)))
  where
    last : leb (get_or st (suc n) 0) i ≡ true → suc n ≡ p
    last e = by_cases (dec_lt p (suc n)) (λ lt. absurd (clash (f (suc n) lt (le_refl (suc n))) (leb-true (get_or st (suc n) 0) i e))) (λ ge. omega arith)
      where
        clash : i < get_or st (suc n) 0 → get_or st (suc n) 0 ≤ i → ⊥
        clash a b = omega arith

    before : leb (get_or st (suc n) 0) i ≡ false → p ≤ n
    before e = by_cases (ℕ_discrete p (suc n)) (λ q. absurd (clash (subst (λ (x : ℕ). get_or st x 0 ≤ i) q k) (leb-false (get_or st (suc n) 0) i e))) (λ d. omega arith)
      where
        clash : get_or st (suc n) 0 ≤ i → i < get_or st (suc n) 0 → ⊥
        clash a b = omega arith

    go : (b : Bool) → leb (get_or st (suc n) 0) i ≡ b → (p ≤ n → owner_of st n i ≡ p) → elim b as (λ _. ℕ) [ true ↦ suc n | false ↦ owner_of st n i ] ≡ p
    go true e ih = last e
    go false e ih = ih (before e)

-- the owner of i, where the first starts at i or before and the last ends after i
pub record Owner (st : List ℕ) (n i p : ℕ) : Type 0 where
  pub below : p < n
  pub from : get_or st p 0 ≤ i
  pub to : i < get_or st (p + 1) 0

pub owner_found : (st : List ℕ) (n i : ℕ) → get_or st 0 0 ≤ i → i < get_or st n 0 → Owner st n i (owner_of st n i)
unfolding owner_of
owner_found st zero i a b = absurd (clash a b)
  where
    clash : get_or st 0 0 ≤ i → i < get_or st 0 0 → ⊥
    clash a b = omega arith
owner_found st (suc n) i a b = go (leb (get_or st (suc n) 0) i) refl (leb (get_or st n 0) i) refl (owner_found st n i a)
  where
    here : leb (get_or st n 0) i ≡ true → owner_of st n i ≡ n
    here e = owner_is st n n i (le_refl n) (leb-true (get_or st n 0) i e) (λ q a b. absurd (none q a b))
      where
        none : (q : ℕ) → n < q → q ≤ n → ⊥
        none q a b = omega arith

    go : (b : Bool) → leb (get_or st (suc n) 0) i ≡ b → (c : Bool) → leb (get_or st n 0) i ≡ c → (i < get_or st n 0 → Owner st n i (owner_of st n i)) → Owner st (suc n) i (elim b as (λ _. ℕ) [ true ↦ suc n | false ↦ owner_of st n i ])
    go true e c f ih = absurd (clash (leb-true (get_or st (suc n) 0) i e))
      where
        clash : get_or st (suc n) 0 ≤ i → ⊥
        clash h = omega arith
    go false e true f ih = subst (Owner st (suc n) i) (sym (here f)) (record { below = le_refl (suc n); from = leb-true (get_or st n 0) i f; to = subst (λ (k : ℕ). i < get_or st k 0) (sym (add-one n)) b })
    go false e false f ih = let o = ih (leb-false (get_or st n 0) i f) in record { below = omega (arith, o.below); from = o.from; to = o.to }

-- the rings of a polygon, one after the other
pub rings_are : (es st : List ℕ) (from to : ℕ) → from < to → rings_of (polygon_of es st from to) ≡ span (ring_at es st) from (to - from)
unfolding rings_of span
rings_are es st from to h =
    let e : suc (to - from - 1) ≡ to - from = omega arith in
    ap (λ (k : ℕ). span (ring_at es st) from k) e

-- rings one after the other, told by their numbers
tab-span : {A : Type 0} (f : ℕ → A) (a k : ℕ) → tab f a ++ span f a k ≡ tab f (a + k)
unfolding tab span
tab-span f a zero = append-nil (tab f a) ∙ ap (tab f) (sym (nothing a))
  where
    nothing : (a : ℕ) → a + 0 ≡ a
    nothing a = omega arith
tab-span f a (suc k) =
    ap (λ (j : ℕ). tab f a ++ (f a ∷ span f j k)) (add-one a)
    ∙ (sym (append_assoc (tab f a) (f a ∷ []) (span f (suc a) k)) ∙ (tab-span f (suc a) k ∙ ap (tab f) (more a k)))
  where
    more : (a k : ℕ) → suc a + k ≡ a + suc k
    more a k = omega arith

rings_append : (ps : List Polygon) (p : Polygon) → all_rings (ps ++ (p ∷ [])) ≡ all_rings ps ++ rings_of p
unfolding all_rings
rings_append [] p = append-nil (rings_of p)
rings_append (q ∷ ps) p = ap (λ (l : List (List ℕ)). rings_of q ++ l) (rings_append ps p) ∙ sym (append_assoc (rings_of q) (all_rings ps) (rings_of p))

module _ (es st ft : List ℕ) (n : ℕ) (l : Layout es st ft n) where
  pub firsts_ordered : (p q : ℕ) → p ≤ q → q ≤ n → get_or ft p 0 ≤ get_or ft q 0
  firsts_ordered p q a b = by_cases (dec_lt p q) (λ lt. omega (arith, l.rising p q lt b)) (λ ge. subst (λ (k : ℕ). get_or ft p 0 ≤ get_or ft k 0) (same ge) (le_refl (get_or ft p 0)))
    where
      same : (p < q → ⊥) → p ≡ q
      same ge = omega arith

  -- ring r is polygon p's
  pub owned : (p r : ℕ) → p < n → get_or ft p 0 ≤ r → r < get_or ft (p + 1) 0 → owner_of ft n r ≡ p
  owned p r h f t = owner_is ft n p r (omega arith) f (λ q a b. above (get_or ft (p + 1) 0) (get_or ft q 0) t (firsts_ordered (p + 1) q (omega arith) b))
    where
      above : (x y : ℕ) → r < x → x ≤ y → r < y
      above x y a b = omega arith

  -- each ring is some polygon's
  pub owner : (r : ℕ) → r < get_or ft n 0 → Owner ft n r (owner_of ft n r)
  owner r h = owner_found ft n r (omega (arith, l.begin)) h

  pub owner_few : (r : ℕ) → r < get_or ft n 0 → owner_of ft n r < 256
  owner_few r h = omega (arith, (owner r h).below, l.few)

  -- where the rings of each polygon are those that h tells, from its first up to the next one's, all rings are those that h tells
  module _ (g : ℕ → Polygon) (h : ℕ → List ℕ) (each : (p : ℕ) → p < n → rings_of (g p) ≡ span h (get_or ft p 0) (get_or ft (p + 1) 0 - get_or ft p 0)) where
    rings-to : (m : ℕ) → m ≤ n → all_rings (tab g m) ≡ tab h (get_or ft m 0)
    unfolding tab all_rings
    rings-to zero k = ap (tab h) (sym l.begin)
    rings-to (suc m) k =
        rings_append (tab g m) (g m)
        ∙ (ap₂ (λ (a b : List (List ℕ)). a ++ b) (rings-to m (omega arith)) (each m k)
        ∙ (tab-span h (get_or ft m 0) (get_or ft (m + 1) 0 - get_or ft m 0) ∙ ap (tab h) (sum (get_or ft m 0) (get_or ft (m + 1) 0) (l.rising m (m + 1) (omega arith) (omega arith)) ∙ ap (λ (k : ℕ). get_or ft k 0) (add-one m))))
      where
        sum : (a b : ℕ) → a < b → a + (b - a) ≡ b
        sum a b h = omega arith

    pub rings-told : all_rings (tab g n) ≡ tab h (get_or ft n 0)
    rings-told = rings-to n (le_refl n)

  pub rings-at : (p : ℕ) → p < n → rings_of (polygon_at es st ft p) ≡ span (ring_at es st) (get_or ft p 0) (get_or ft (p + 1) 0 - get_or ft p 0)
  rings-at p h = rings_are es st (get_or ft p 0) (get_or ft (p + 1) 0) (l.rising p (p + 1) (omega arith) (omega arith))

  pub rings-all : all_rings (polygons es st ft n) ≡ tab (ring_at es st) (get_or ft n 0)
  unfolding polygons
  rings-all = rings-told (polygon_at es st ft) (ring_at es st) rings-at
