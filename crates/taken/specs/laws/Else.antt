-- Looking for a place among the points of the flat table.
use Prim.Native.Nat.{ℕ, zero, suc, ◌+◌, ◌≤◌, ◌<◌}
use native.Mathlib.Omega.{arith}
use Rattle.std.proofs.Common.{add-one, zero-add, ◌∙◌, eq-eqb, ne_eqb, eqb-true, get_or-take, length-take-le, SFits, of_z, to_z, to_z-of_z}
use Rattle.std.specs.Prelude.{◌≡◌, Bool, ◌&&◌, eqb, length, get_or, take, drop, ℤ, pos, negsuc}
use Rattle.std.proofs.Math.Path.{refl, sym, ap}
use Rattle.std.proofs.Math.Bool.{true, false, cond}
use Rattle.std.proofs.lemmas.Bool.{false≢true}
use mathlib.Core.List.{List, [], ◌∷◌}
use Rattle.std.specs.Int.{w32, w64}
use Rattle.whole.specs.Lists.{any, same_z}
use Rattle.whole.specs.laws.Search.{drop-next, drop_end}
use Rattle.space.specs.Space.{Point, origin, same_place_of}
use Rattle.space.specs.held.Points.{points_of, place_at}
use Rattle.space.specs.laws.Points.{points_of-at, points_of-length}
use Rattle.places.specs.Points.{stands, stands_else_of}
use Rattle.places.specs.held.Places.{point3}
use Rattle.taken.specs.held.Else.{else_at_of}

-- ---- tests of the machine

same_self : (a : ℤ) → same_z a a ≡ true
unfolding same_z
same_self (pos n) = eq-eqb n n refl
same_self (negsuc n) = eq-eqb n n refl

same_is : (a b : ℤ) → same_z a b ≡ true → a ≡ b
unfolding same_z
same_is (pos a) (pos b) e = ap pos (eqb-true a b e)
same_is (pos a) (negsuc b) e = absurd (false≢true e)
same_is (negsuc a) (pos b) e = absurd (false≢true e)
same_is (negsuc a) (negsuc b) e = ap negsuc (eqb-true a b e)

pub same_place : (p q : Point) → same_place_of p q ≡ true → p ≡ q
unfolding same_place_of
same_place p q e =
    let s = all_of (same_z p.x q.x) (same_z p.y q.y) (same_z p.z q.z) e in
    let x = same_is p.x q.x s.0 in
    let y = same_is p.y q.y s.1 in
    let z = same_is p.z q.z s.2 in
    λ i. point3 (x i) (y i) (z i)
  where
    all_of : (s u r : Bool) → (s && u && r) ≡ true → (s ≡ true) × (u ≡ true) × (r ≡ true)
    all_of true true true e = (refl, refl, refl)
    all_of true true false e = absurd (false≢true e)
    all_of true false r e = absurd (false≢true e)
    all_of false u r e = absurd (false≢true e)

-- `==` is of the bits
pub same_bits : {a b : ℤ} → SFits w64 a → SFits w64 b → eqb (of_z w64 a) (of_z w64 b) ≡ same_z a b
same_bits {a} {b} f g = go (eqb (of_z w64 a) (of_z w64 b)) refl (same_z a b) refl
  where
    go : (s : Bool) → eqb (of_z w64 a) (of_z w64 b) ≡ s → (t : Bool) → same_z a b ≡ t → s ≡ t
    go true e true h = refl
    go true e false h = sym (same_self a) ∙ ap (same_z a) (sym (to_z-of_z f) ∙ ap (to_z w64) (eqb-true (of_z w64 a) (of_z w64 b) e) ∙ to_z-of_z g) ∙ h
    go false e true h = sym e ∙ eq-eqb (of_z w64 a) (of_z w64 b) (ap (of_z w64) (same_is a b h))
    go false e false h = refl

-- a coordinate as it is held, read as it is reckoned with
held_is : {z a : ℤ} → SFits w32 z → a ≡ to_z w32 (of_z w32 z) → a ≡ z
held_is h e = e ∙ to_z-of_z h

pub place_is : {x y z a b c : ℤ} (q : Point) → SFits w64 x → SFits w64 y → SFits w64 z → SFits w64 a → SFits w64 b → SFits w64 c
    → SFits w32 q.x → SFits w32 q.y → SFits w32 q.z → a ≡ to_z w32 (of_z w32 q.x) → b ≡ to_z w32 (of_z w32 q.y) → c ≡ to_z w32 (of_z w32 q.z)
    → (eqb (of_z w64 x) (of_z w64 a) && eqb (of_z w64 y) (of_z w64 b) && eqb (of_z w64 z) (of_z w64 c)) ≡ same_place_of (point3 x y z) q
unfolding same_place_of
place_is {x} {y} {z} {a} {b} {c} q fx fy fz fa fb fc hx hy hz ea eb ec =
    (λ i. same_bits fx fa i && same_bits fy fb i && same_bits fz fc i)
    ∙ ap (same_place_of (point3 x y z)) (λ i. point3 (held_is hx ea i) (held_is hy eb i) (held_is hz ec i))

-- ---- another point's place

-- whether a place is that of one of a list's points, of which the first is number k, unless that is number n
unfoldable pub else_from : ℕ → ℕ → Point → List Point → Bool
else_from k n p [] = false
else_from k n p (q ∷ ps) = elim (else_at_of k n p q) [ true ↦ true | false ↦ else_from (suc k) n p ps ]

-- the first test, or else the rest
at_once : (a b : Bool) (x y : Bool) → a ≡ b → x ≡ y → ◌≡◌ {A = Bool} (elim a [ true ↦ true | false ↦ x ]) (elim b [ true ↦ true | false ↦ y ])
at_once a b x y e f i = elim (e i) [ true ↦ true | false ↦ f i ]

module _ (p : Point) where
  pub own : (k n : ℕ) (q : Point) → k ≡ n → else_at_of k n p q ≡ false
  unfolding else_at_of
  own k n q e = ap (λ (b : Bool). cond b false (same_place_of p q)) (eq-eqb k n e)

  pub other : (k n : ℕ) (q : Point) → (k ≡ n → ⊥) → else_at_of k n p q ≡ same_place_of p q
  unfolding else_at_of
  other k n q e = ap (λ (b : Bool). cond b false (same_place_of p q)) (ne_eqb k n e)

  -- past number n any of them counts
  past : (k n : ℕ) (ps : List Point) → n < k → else_from k n p ps ≡ stands p ps
  unfolding else_from else_at_of stands any
  past k n [] h = refl
  past k n (q ∷ ps) h =
      at_once (else_at_of k n p q) (same_place_of p q) (else_from (suc k) n p ps) (stands p ps) (other k n q (λ z. omega arith)) (past (suc k) n ps (omega arith))

  pub from_else : (k m : ℕ) (ps : List Point) → else_from k (k + m) p ps ≡ stands_else_of m p ps
  unfolding else_from else_at_of stands_else_of
  from_else k m [] = refl
  from_else k zero (q ∷ ps) =
      at_once (else_at_of k (k + 0) p q) false (else_from (suc k) (k + 0) p ps) (stands p ps) (own k (k + 0) q (omega arith)) (past (suc k) (k + 0) ps (omega arith))
  from_else k (suc m) (q ∷ ps) =
      let s : suc k + m ≡ k + suc m = omega arith in
      at_once (else_at_of k (k + suc m) p q) (same_place_of p q) (else_from (suc k) (k + suc m) p ps) (stands_else_of m p ps)
      (other k (k + suc m) q (λ z. omega arith))
      (ap (λ (n : ℕ). else_from (suc k) n p ps) (sym s) ∙ from_else (suc k) m ps)

  -- "the place is that of another point" of all points, where number n is none of them
  pub stands-all : (n : ℕ) (ps : List Point) → length ps ≤ n → stands_else_of n p ps ≡ stands p ps
  unfolding stands_else_of stands any
  stands-all n [] h = refl
  stands-all zero (q ∷ ps) h = absurd (omega arith)
  stands-all (suc n) (q ∷ ps) h = at_once (same_place_of p q) (same_place_of p q) (stands_else_of n p ps) (stands p ps) refl (stands-all n ps (omega arith))

-- the loop that looks through the first count points
module _ (points : List ℤ) (count n : ℕ) (p : Point) (room : length points ≡ 1536) (few : count ≤ 512) where
  abbrev seen : List Point
  seen = take count (points_of points)

  seen-length : length seen ≡ count
  seen-length = length-take-le count (points_of points) (omega (arith, points_of-length points 512 room))

  seen_at : (i : ℕ) → i < count → get_or seen i origin ≡ place_at points i
  seen_at i h = get_or-take count (points_of points) i origin h ∙ points_of-at points i (omega arith)

  pub else_start : else_from 0 n p (drop 0 seen) ≡ stands_else_of n p seen
  else_start = rw (zero-add n) at (from_else p 0 n seen)

  pub else_here : (i : ℕ) → i < count → else_at_of i n p (place_at points i) ≡ true → else_from i n p (drop i seen) ≡ true
  unfolding else_from
  else_here i h e =
      ap (else_from i n p) (drop-next seen i origin (rw seen-length h))
      ∙ ap (λ (b : Bool). elim b [ true ↦ true | false ↦ else_from (suc i) n p (drop (i + 1) seen) ]) (ap (else_at_of i n p) (seen_at i h) ∙ e)

  pub else_next : (i : ℕ) → i < count → else_at_of i n p (place_at points i) ≡ false → else_from i n p (drop i seen) ≡ else_from (i + 1) n p (drop (i + 1) seen)
  unfolding else_from
  else_next i h e =
      ap (else_from i n p) (drop-next seen i origin (rw seen-length h))
      ∙ ap (λ (b : Bool). elim b [ true ↦ true | false ↦ else_from (suc i) n p (drop (i + 1) seen) ]) (ap (else_at_of i n p) (seen_at i h) ∙ e)
      ∙ ap (λ (k : ℕ). else_from k n p (drop (i + 1) seen)) (sym (add-one i))

  pub else_end : (i : ℕ) → i ≡ count → else_from i n p (drop i seen) ≡ false
  unfolding else_from
  else_end i e = ap (else_from i n p) (drop_end seen i (e ∙ sym seen-length))
