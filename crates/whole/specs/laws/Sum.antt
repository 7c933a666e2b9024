-- Sums over the neighbours in a list, and the loop that makes one.
use Rattle.std.specs.Prelude.{◌≡◌, refl, List, [], ◌∷◌, ℕ, suc, ◌+◌, ◌*◌, ◌-◌, ◌≤◌, ◌<◌, get_or, drop, length, ℤ, pos, ◌+ℤ◌}
use Rattle.std.proofs.Common.{sym, ◌∙◌, ap, subst, arith, add-one, mul-suc, le_of_eq, mul-le-mul_left, drop-cons}
use Rattle.std.proofs.Math.Seq.{drop-length}
use Rattle.std.proofs.Math.IntN.{+ℤ_idl, +ℤ_idr, +ℤ_assoc}
use Rattle.whole.specs.held.Small.{Small}
use Rattle.whole.specs.laws.Size.{small_zero, small_add, small_more}

-- f of p and the first, of the first and the second, …
unfoldable pub next : (ℕ → ℕ → ℤ) → ℕ → List ℕ → ℤ
next f p [] = pos 0
next f p (c ∷ r) = f p c +ℤ next f c r

-- the same, closed: from the last to the first, from the first to the second, …
unfoldable pub around : (ℕ → ℕ → ℤ) → List ℕ → ℤ
around f ring = next f (get_or ring (length ring - 1) 0) ring

-- what a loop that has passed i of the list, the last of them p, holds in z
pub record Acc (f : ℕ → ℕ → ℤ) (b : ℕ) (total : ℤ) (l : List ℕ) (p i : ℕ) (z : ℤ) : Type 0 where
  pub is : z +ℤ next f p (drop i l) ≡ total
  pub size : Small (b * i) z

pub acc_start : (f : ℕ → ℕ → ℤ) (b p : ℕ) (l : List ℕ) → Acc f b (next f p l) l p 0 (pos 0)
acc_start f b p l = record { is = +ℤ_idl (next f p l); size = small_zero }

unroll : (f : ℕ → ℕ → ℤ) (p : ℕ) (l : List ℕ) (i : ℕ) → i < length l → next f p (drop i l) ≡ f p (get_or l i 0) +ℤ next f (get_or l i 0) (drop (i + 1) l)
unfolding next
unroll f p l i h = rw (add-one, drop-cons l i 0 h)

pub acc_step : {f : ℕ → ℕ → ℤ} {b : ℕ} {total : ℤ} {l : List ℕ} {p i : ℕ} {z : ℤ} → Acc f b total l p i z → i < length l → (r : ℤ) → r ≡ f p (get_or l i 0) → Small b (f p (get_or l i 0))
    → Acc f b total l (get_or l i 0) (i + 1) (z +ℤ r)
acc_step {f} {b} {total} {l} {p} {i} {z} h lt r e s =
    record {
      is =
          ap (λ (y : ℤ). z +ℤ y +ℤ next f (get_or l i 0) (drop (i + 1) l)) e
          ∙ +ℤ_assoc z (f p (get_or l i 0)) (next f (get_or l i 0) (drop (i + 1) l))
          ∙ ap (λ (y : ℤ). z +ℤ y) (sym (unroll f p l i lt))
          ∙ h.is;
      size = small_more (grow b i) (small_add h.size (subst (λ (y : ℤ). Small b y) (sym e) s));
    }
  where
    grow : (b i : ℕ) → b * i + b ≤ b * (i + 1)
    grow b i = le_of_eq (rw (add-one, mul-suc))

pub acc_end : {f : ℕ → ℕ → ℤ} {b : ℕ} {total : ℤ} {l : List ℕ} {p i : ℕ} {z : ℤ} → Acc f b total l p i z → i ≡ length l → z ≡ total
unfolding next
acc_end {f} {b} {total} {l} {p} {i} {z} h e =
    sym (+ℤ_idr z) ∙ ap (λ (r : List ℕ). z +ℤ next f p r) (sym (ap (λ (n : ℕ). drop n l) e ∙ drop-length l)) ∙ h.is

-- where the list has at most m, a sum is at most b * m
pub acc_small : {f : ℕ → ℕ → ℤ} {b : ℕ} {total : ℤ} {l : List ℕ} {p i : ℕ} {z : ℤ} (m : ℕ) → Acc f b total l p i z → i ≤ m → Small (b * m) z
acc_small {b = b} m h le = small_more (mul-le-mul_left b le) h.size

pub around-none : (f : ℕ → ℕ → ℤ) (l : List ℕ) → length l ≡ 0 → pos 0 ≡ around f l
unfolding around next
around-none f [] e = refl
around-none f (x ∷ xs) e = absurd (never (length xs) e)
  where
    never : (n : ℕ) → suc n ≡ 0 → ⊥
    never n e = omega arith
