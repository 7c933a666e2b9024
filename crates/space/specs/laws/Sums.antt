-- The loops over consecutive entries: how far they have come, and what they have summed.
use Rattle.std.specs.Prelude.{ℕ, zero, suc, ◌+◌, ◌-◌, ◌*◌, ◌≤◌, ◌<◌, ◌^◌, ◌≡◌, refl, List, [], ◌∷◌, map, true, ◌&&◌, T, ltb, length, take, drop, get_or, ℤ, ◌+ℤ◌}
use Rattle.std.proofs.Common.{arith, sym, ap, subst, length-drop}
use Rattle.std.proofs.lemmas.List.{take_rest}
use Rattle.std.proofs.lemmas.Grind.{get_or_after_one}
use Rattle.std.specs.Int.{w64}
use mir.Val.{to_z, of_z, hbits}
use Rattle.whole.specs.Lists.{steps_from, sum_of}
use Rattle.whole.specs.held.Small.{Small}
use Rattle.whole.specs.laws.Solve.{v, ◌⊕◌}
use Rattle.whole.specs.laws.Mach.{Leaf, whole, bits_of, yields}
use Rattle.whole.specs.laws.Sum.{next, Acc, acc_step, acc_small}
use Rattle.space.specs.held.Points.{Known}

-- ---- the entries after the first, as a slice takes them
abbrev pub rest : List ℕ → List ℕ
rest ring = take (length ring - 1) (drop 1 ring)

pub rest_is : (ring : List ℕ) → rest ring ≡ drop 1 ring
rest_is ring = take_rest ring 1

-- a ring of known points has some after its first
pub rest_known : {ring : List ℕ} → Known ring → Known (rest ring)
rest_known {ring} k =
    subst Known (sym (rest_is ring))
    (record {
      few = omega (arith, length-drop 1 ring, k.few);
      each = λ i h. subst (λ (p : ℕ). p < 512) (sym (get_or_after_one ring i 0)) (k.each (1 + i) (omega (arith, length-drop 1 ring)));
    })

-- ---- how far a loop by index has come: entry i of n is next, and last was before it
pub record Going (ring : List ℕ) (n first last i : ℕ) : Type 0 where
  pub all : n ≡ length ring
  pub upto : i ≤ n
  pub head_known : first < 512
  pub last_known : last < 512

pub going_start : {ring : List ℕ} {n : ℕ} → Known ring → n ≡ length ring → (n ≡ 0 → ⊥) → Going ring n (get_or ring 0 0) (get_or ring 0 0) 1
going_start {ring} {n} k e f =
    let l : 1 ≤ n = positive n f in
    let h : get_or ring 0 0 < 512 = k.each 0 (omega arith) in
    record { all = e; upto = l; head_known = h; last_known = h }
  where
    positive : (n : ℕ) → (n ≡ 0 → ⊥) → 1 ≤ n
    positive zero f = absurd (f refl)
    positive (suc n) f = omega arith

pub going_next : {ring : List ℕ} {n first last i : ℕ} → Known ring → Going ring n first last i → i < n → Going ring n first (get_or ring i 0) (i + 1)
going_next {ring} {n} {first} {last} {i} k g h =
    record {
      all = g.all;
      upto = omega arith;
      head_known = g.head_known;
      last_known = k.each i (omega (arith, g.all));
    }

-- it is within the ring, and few have been passed
pub going_few : {ring : List ℕ} {n first last i : ℕ} → Known ring → Going ring n first last i → i ≤ 128
going_few k g = omega (arith, k.few, g.all, g.upto)

pub going_in : {ring : List ℕ} {n first last i : ℕ} → Going ring n first last i → i < n → i < length ring
going_in g l = omega (arith, g.all)

-- ---- one sum: what is summed so far and what is next, as the machine sees them
abbrev pub two : {f : ℕ → ℕ → ℤ} {total : ℤ} {l : List ℕ} {p i m : ℕ} (b : ℕ) → T (ltb m (2 ^ hbits w64)) → Acc f m total l p i (to_z w64 b) → i ≤ 128 → {r : ℤ} → Small m r → List Leaf
two b t a le s = bits_of w64 b refl (acc_small 128 a le) ∷ whole w64 t s ∷ []

-- one turn of the loop
pub turn : {f : ℕ → ℕ → ℤ} {total : ℤ} {l : List ℕ} {p i m : ℕ} (b : ℕ) → T (ltb m (2 ^ hbits w64)) → T (ltb (m * 128 + m) (2 ^ hbits w64) && (true && true))
    → Acc f m total l p i (to_z w64 b) → i < length l → length l ≤ 128 → (r : ℤ) → r ≡ f p (get_or l i 0) → Small m r
    → Acc f m total l (get_or l i 0) (i + 1) (to_z w64 (of_z w64 (to_z w64 b +ℤ to_z w64 (of_z w64 r))))
turn {f} {total} {l} {p} {i} {m} b t t' a lt few r e s =
    subst (λ (z : ℤ). Acc f m total l (get_or l i 0) (i + 1) z)
    (sym (yields w64 (two b t a (omega arith) s) (v 0 ⊕ v 1) t'))
    (acc_step a lt r e (subst (λ (z : ℤ). Small m z) e s))

-- a sum over the steps of places is one over the entries
pub steps_next : {A : Type 0} (g : ℕ → A) (f : A → A → ℤ) (p : ℕ) (l : List ℕ) → sum_of (λ s. f s.0 s.1) (steps_from (g p) (map g l)) ≡ next (λ a b. f (g a) (g b)) p l
unfolding sum_of steps_from next
steps_next g f p [] = refl
steps_next g f p (q ∷ l) = ap (λ (z : ℤ). f (g p) (g q) +ℤ z) (steps_next g f q l)
