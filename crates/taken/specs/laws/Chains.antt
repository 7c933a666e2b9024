-- The chains of the points: one point more, and looking for a place along its chain.
use Prim.Native.Nat.{ℕ, zero, suc, ◌+◌, ◌≤◌, ◌<◌}
use native.Mathlib.Omega.{arith}
use Rattle.std.proofs.Common.{add-one, ◌∙◌, length-set, get_or-set_same, get_or-set_other, length-take-le, take-suc}
use Rattle.std.specs.Prelude.{◌≡◌, Bool, true, false, ◌||◌, List, [], ◌∷◌, ◌++◌, eqb, ltb, length, get_or, take, set, ℤ}
use Rattle.std.proofs.Math.Path.{refl, sym, ap}
use Rattle.std.proofs.Math.Bool.{cond, or-true}
use borrow.Author.Tests.{eq-eqb, ne_eqb, eqb-true, eqb-false, ltb-true, ltb-false}
use Rattle.whole.specs.Lists.{any}
use Rattle.whole.specs.laws.Stores.{cases, zeroed-length, upto_done}
use Rattle.whole.specs.held.Stored.{zeroed}
use Rattle.space.specs.Space.{Point, origin, same_place_of}
use Rattle.space.specs.held.Points.{points_of, place_at}
use Rattle.space.specs.laws.Points.{points_of-at, points_of-length}
use Rattle.places.specs.Points.{stands, stands_else_of}
use Rattle.places.specs.held.Places.{placed}
use Rattle.places.specs.laws.Near.{placed_other, placed-own}
use Rattle.taken.specs.held.Buckets.{bucket_of}
use Rattle.taken.specs.held.Chains.{last_below, Chained, linked}
use Rattle.taken.specs.laws.Else.{same_place, stands-all}
use Rattle.taken.specs.laws.Buckets.{bucket_below}

-- the table with one point more, where a call tells the bucket
pub linked_in : (table : List ℕ) (n : ℕ) (p : Point) (b : ℕ) → b ≡ bucket_of p → set (set table (512 + n) (get_or table b 0)) b (n + 1) ≡ linked table n p
linked_in table n p b e = ap (λ (j : ℕ). set (set table (512 + n) (get_or table j 0)) j (n + 1)) e

-- ---- the last of a bucket
module _ (points : List ℤ) (b : ℕ) where
  last-here : (n : ℕ) → bucket_of (place_at points n) ≡ b → last_below points b (suc n) ≡ suc n
  unfolding last_below
  last-here n e = ap (λ (t : Bool). cond t (suc n) (last_below points b n)) (eq-eqb (bucket_of (place_at points n)) b e)

  last_past : (n : ℕ) → (bucket_of (place_at points n) ≡ b → ⊥) → last_below points b (suc n) ≡ last_below points b n
  unfolding last_below
  last_past n e = ap (λ (t : Bool). cond t (suc n) (last_below points b n)) (ne_eqb (bucket_of (place_at points n)) b e)

  pub last_few : (n : ℕ) → last_below points b n ≤ n
  unfolding last_below
  last_few zero = omega arith
  last_few (suc n) =
      let ih : last_below points b n ≤ n = last_few n in
      cases (eqb (bucket_of (place_at points n)) b)
      (λ t. omega (arith, last-here n (eqb-true (bucket_of (place_at points n)) b t)))
      (λ t. omega (arith, last_past n (eqb-false (bucket_of (place_at points n)) b t)))

  -- it is of that bucket
  pub last-own : (n i : ℕ) → last_below points b n ≡ suc i → bucket_of (place_at points i) ≡ b
  unfolding last_below
  last-own zero i e = absurd (omega arith)
  last-own (suc n) i e =
      cases (eqb (bucket_of (place_at points n)) b)
      (λ t. let h : bucket_of (place_at points n) ≡ b = eqb-true (bucket_of (place_at points n)) b t in
      let k : n ≡ i = omega (arith, last-here n h) in
      ap (λ (j : ℕ). bucket_of (place_at points j)) (sym k) ∙ h)
      (λ t. last-own n i (sym (last_past n (eqb-false (bucket_of (place_at points n)) b t)) ∙ e))

-- only the points below n tell it
last-same : (points others : List ℤ) (b n : ℕ) → ((i : ℕ) → i < n → place_at points i ≡ place_at others i) → last_below points b n ≡ last_below others b n
unfolding last_below
last-same points others b zero h = refl
last-same points others b (suc n) h =
    let e : place_at points n ≡ place_at others n = h n (omega arith) in
    let r : last_below points b n ≡ last_below others b n = last-same points others b n (λ i l. h i (omega arith)) in
    λ k. cond (eqb (bucket_of (e k)) b) (suc n) (r k)

-- ---- heads that are 0 are the chains of no point
pub chained-none : (points : List ℤ) (table : List ℕ) → length table ≡ 1024 → Chained points (zeroed table 512) 0
unfolding last_below
chained-none points table h =
    record {
      size = zeroed-length table 512 refl ∙ h;
      heads = λ b l. upto_done (λ p old. 0) 0 table 512 b l (omega arith);
      links = λ i l. absurd (omega arith);
    }

-- and so are those of a table that has never been used
pub chained_fresh : (points : List ℤ) (table : List ℕ) → length table ≡ 1024 → ((b : ℕ) → get_or table b 0 ≡ 0) → Chained points table 0
unfolding last_below
chained_fresh points table h z = record { size = h; heads = λ b l. z b; links = λ i l. absurd (omega arith) }

-- ---- one point more
module _ (points : List ℤ) (table : List ℕ) (n : ℕ) (p : Point) (room : length points ≡ 1536) (few : n < 512) (c : Chained points table n) where
  abbrev new_points : List ℤ
  new_points = placed points n p

  own-place : place_at new_points n ≡ p
  own-place = placed-own points n p (omega arith)

  below_same : (m : ℕ) → m ≤ n → (b : ℕ) → last_below points b m ≡ last_below new_points b m
  below_same m h b = last-same points new_points b m (λ i l. sym (placed_other points n p i (λ e. omega arith)))

  size₁ : length (set table (512 + n) (get_or table (bucket_of p) 0)) ≡ 1024
  size₁ = length-set table (512 + n) (get_or table (bucket_of p) 0) ∙ c.size

  own_head : get_or (linked table n p) (bucket_of p) 0 ≡ n + 1
  own_head = get_or-set_same (set table (512 + n) (get_or table (bucket_of p) 0)) (bucket_of p) (n + 1) 0 (omega (arith, size₁, bucket_below p))

  other_word : (j : ℕ) → (j ≡ bucket_of p → ⊥) → (j ≡ 512 + n → ⊥) → get_or (linked table n p) j 0 ≡ get_or table j 0
  other_word j e f =
      get_or-set_other (set table (512 + n) (get_or table (bucket_of p) 0)) (bucket_of p) j (n + 1) 0 e
      ∙ get_or-set_other table (512 + n) j (get_or table (bucket_of p) 0) 0 f

  own-link : get_or (linked table n p) (512 + n) 0 ≡ get_or table (bucket_of p) 0
  own-link =
      let b : bucket_of p < 512 = bucket_below p in
      get_or-set_other (set table (512 + n) (get_or table (bucket_of p) 0)) (bucket_of p) (512 + n) (n + 1) 0 (λ e. omega arith)
      ∙ get_or-set_same table (512 + n) (get_or table (bucket_of p) 0) 0 (omega (arith, c.size))

  head_is : (b : ℕ) → b < 512 → get_or (linked table n p) b 0 ≡ last_below new_points b (n + 1)
  head_is b h =
      cases (eqb b (bucket_of p))
      (λ t. let e : b ≡ bucket_of p = eqb-true b (bucket_of p) t in
      ap (λ (j : ℕ). get_or (linked table n p) j 0) e ∙ own_head ∙ add-one n
      ∙ sym (ap (last_below new_points b) (add-one n) ∙ last-here new_points b n (ap bucket_of own-place ∙ sym e)))
      (λ t. let d : b ≡ bucket_of p → ⊥ = eqb-false b (bucket_of p) t in
      other_word b d (λ e. omega arith) ∙ c.heads b h ∙ below_same n (omega arith) b
      ∙ sym (ap (last_below new_points b) (add-one n) ∙ last_past new_points b n (λ e. d (sym e ∙ ap bucket_of own-place))))

  link_is : (i : ℕ) → i < n + 1 → get_or (linked table n p) (512 + i) 0 ≡ last_below new_points (bucket_of (place_at new_points i)) i
  link_is i h =
      cases (ltb i n)
      (λ t. let l : i < n = ltb-true i n t in
      let b : bucket_of p < 512 = bucket_below p in
      other_word (512 + i) (λ e. omega arith) (λ e. omega arith) ∙ c.links i l
      ∙ below_same i (omega arith) (bucket_of (place_at points i))
      ∙ ap (λ (q : Point). last_below new_points (bucket_of q) i) (sym (placed_other points n p i (λ e. omega arith))))
      (λ t. let e : i ≡ n = omega (arith, ltb-false i n t) in
      ap (λ (j : ℕ). get_or (linked table n p) (512 + j) 0) e ∙ own-link ∙ c.heads (bucket_of p) (bucket_below p) ∙ below_same n (omega arith) (bucket_of p)
      ∙ ap (λ (q : Point). last_below new_points (bucket_of q) n) (sym own-place)
      ∙ ap (λ (j : ℕ). last_below new_points (bucket_of (place_at new_points j)) j) (sym e))

  pub chained_more : Chained new_points (linked table n p) (n + 1)
  chained_more =
      record {
        size = length-set (set table (512 + n) (get_or table (bucket_of p) 0)) (bucket_of p) (n + 1) ∙ size₁;
        heads = head_is;
        links = link_is;
      }

-- ---- looking for a place along its chain
any_last : {A : Type 0} (t : A → Bool) (l : List A) (x : A) → any t (l ++ (x ∷ [])) ≡ (t x || any t l)
unfolding any
any_last t [] x = go (t x)
  where
    go : (b : Bool) → ◌≡◌ {A = Bool} (elim b [ true ↦ true | false ↦ false ]) (b || false)
    go true = refl
    go false = refl
any_last {A} t (y ∷ l) x = go (t y) (any_last t l x)
  where
    go : (b : Bool) → any t (l ++ (x ∷ [])) ≡ (t x || any t l) → ◌≡◌ {A = Bool} (elim b [ true ↦ true | false ↦ any t (l ++ (x ∷ [])) ]) (t x || elim b [ true ↦ true | false ↦ any t l ])
    go true e = sym (or-true (t x))
    go false e = e

-- whether p is the place of one of the first k points
abbrev pub among : List ℤ → Point → ℕ → Bool
among points p k = stands p (take k (points_of points))

module _ (points : List ℤ) (p : Point) (room : length points ≡ 1536) where
  among_more : (k : ℕ) → k < 512 → among points p (suc k) ≡ (same_place_of p (place_at points k) || among points p k)
  unfolding stands
  among_more k h =
      ap (any (same_place_of p)) (take-suc (points_of points) k origin (omega (arith, points_of-length points 512 room)))
      ∙ any_last (same_place_of p) (take k (points_of points)) (get_or (points_of points) k origin)
      ∙ ap (λ (q : Point). same_place_of p q || among points p k) (points_of-at points k (omega arith))

  among-here : (k : ℕ) → k < 512 → same_place_of p (place_at points k) ≡ true → among points p (suc k) ≡ true
  among-here k h e = among_more k h ∙ ap (λ (t : Bool). t || among points p k) e

  among_past : (k : ℕ) → k < 512 → same_place_of p (place_at points k) ≡ false → among points p (suc k) ≡ among points p k
  among_past k h e = among_more k h ∙ ap (λ (t : Bool). t || among points p k) e

  -- a point of another bucket is not at the place
  other_bucket : (q : Point) → (bucket_of q ≡ bucket_of p → ⊥) → same_place_of p q ≡ false
  other_bucket q d = cases (same_place_of p q) (λ t. absurd (d (ap bucket_of (sym (same_place p q t))))) (λ t. t)

  -- so that those after the last of the bucket need not be looked at
  among-last : (k : ℕ) → k ≤ 512 → among points p (last_below points (bucket_of p) k) ≡ among points p k
  unfolding last_below
  among-last zero h = refl
  among-last (suc k) h =
      let b : ℕ = bucket_of p in
      cases (eqb (bucket_of (place_at points k)) b)
      (λ t. ap (among points p) (last-here points b k (eqb-true (bucket_of (place_at points k)) b t)))
      (λ t. let d : bucket_of (place_at points k) ≡ bucket_of p → ⊥ = eqb-false (bucket_of (place_at points k)) b t in
      ap (among points p) (last_past points b k d) ∙ among-last k (omega arith) ∙ sym (among_past k (omega arith) (other_bucket (place_at points k) d)))

  -- number n is none of the first n
  pub among_else : (n : ℕ) → n ≤ 512 → stands_else_of n p (take n (points_of points)) ≡ among points p n
  among_else n h =
      let l : length (take n (points_of points)) ≡ n = length-take-le n (points_of points) (omega (arith, points_of-length points 512 room)) in
      stands-all p n (take n (points_of points)) (omega arith)

-- the loop along a chain: what is still to be looked at, the first k points, tells of the first n
pub record Walking (points : List ℤ) (n : ℕ) (p : Point) (k : ℕ) : Type 0 where
  pub few : k ≤ n
  pub own : (i : ℕ) → k ≡ suc i → bucket_of (place_at points i) ≡ bucket_of p
  pub rest : among points p k ≡ among points p n

module _ (points : List ℤ) (table : List ℕ) (n : ℕ) (p : Point) (room : length points ≡ 1536) (few : n ≤ 512) (c : Chained points table n) where
  -- from the head of its bucket
  pub walk_start : (b : ℕ) → b ≡ bucket_of p → Walking points n p (get_or table b 0)
  walk_start b f =
      let e : get_or table b 0 ≡ last_below points (bucket_of p) n = ap (λ (j : ℕ). get_or table j 0) f ∙ c.heads (bucket_of p) (bucket_below p) in
      record {
        few = omega (arith, last_few points (bucket_of p) n);
        own = λ i h. last-own points (bucket_of p) n i (sym e ∙ h);
        rest = ap (among points p) e ∙ among-last points p room n few;
      }

  pub walk_end : (k : ℕ) → k ≡ 0 → Walking points n p k → stands_else_of n p (take n (points_of points)) ≡ false
  unfolding stands any
  walk_end k e w = among_else points p room n few ∙ sym w.rest ∙ ap (among points p) e

  -- point i is looked at
  module _ (k i : ℕ) (w : Walking points n p k) (e : k ≡ suc i) where
    link-last : get_or table (512 + i) 0 ≡ last_below points (bucket_of p) i
    link-last = c.links i (omega (arith, w.few)) ∙ ap (λ (b : ℕ). last_below points b i) (w.own i e)

    pub link-few : get_or table (512 + i) 0 ≤ i
    link-few = omega (arith, link-last, last_few points (bucket_of p) i)

    pub walk-found : same_place_of p (place_at points i) ≡ true → stands_else_of n p (take n (points_of points)) ≡ true
    walk-found f = among_else points p room n few ∙ sym w.rest ∙ ap (among points p) e ∙ among-here points p room i (omega (arith, w.few)) f

    pub walk_more : same_place_of p (place_at points i) ≡ false → Walking points n p (get_or table (512 + i) 0)
    walk_more f =
        let l : i < n = omega (arith, w.few) in
        record {
          few = omega (arith, link-few);
          own = λ j h. last-own points (bucket_of p) i j (sym link-last ∙ h);
          rest = ap (among points p) link-last ∙ among-last points p room i (omega arith) ∙ sym (among_past points p room i (omega arith) f) ∙ ap (among points p) (sym e) ∙ w.rest;
        }
