-- What a machine expression over signed numbers asks and yields. The machine reads each operand from its bits,
-- `to_z w (of_z w z)`, at each operation anew. `mach` is that nest over a quoted expression. From a bound of each leaf
-- a computed test says that no operation wraps, and then the nest is the plain value.
use Rattle.std.specs.Prelude.{◌≡◌, refl, Bool, true, false, ◌&&◌, List, [], ◌∷◌, ℕ, zero, suc, ◌+◌, ◌*◌, ◌<◌, ◌^◌, T, ltb, leb, get_or, ℤ, pos, neg_ℤ, nat_abs, ◌+ℤ◌, ◌-ℤ◌, ◌*ℤ◌}
use Rattle.std.proofs.Common.{sym, ◌∙◌, ap, ap₂, subst, le_refl, leb→le, to_z-of_z}
use Rattle.std.specs.Int.Signed.{mag}
use Rattle.std.specs.Int.{Width}
use mir.Val.{SFits, hbits, of_z, to_z}
use Rattle.whole.specs.laws.Solve.{E, v, k, ◌⊕◌, ◌⊖◌, ◌⊗◌, ⊝◌, eval}
use Rattle.whole.specs.held.Small.{Small}
use Rattle.whole.specs.laws.Size.{small_zero, small_add, small_sub, small_mul, small_neg, small_fits, small_back, small_more, call_is}

-- a leaf: the number as the goal shows it, the number that it is, and a bound of its size
pub record Leaf : Type 0 where
  pub seen : ℤ
  pub is : ℤ
  pub size : ℕ
  pub same : seen ≡ is
  pub small : Small size is

abbrev none : Leaf
none = record { seen = pos 0; is = pos 0; size = 0; same = refl; small = small_zero }

-- a parameter, an element, a call's result: a whole number z that the machine reads back from its bits
abbrev pub whole : (w : Width) {n : ℕ} {z : ℤ} → T (ltb n (2 ^ hbits w)) → Small n z → Leaf
whole w {n} {z} t h = record { seen = to_z w (of_z w z); is = z; size = n; same = small_back w t h; small = h }

-- a loop's variable, of which only the bits are at hand, with what the invariant says of it
abbrev pub bits_of : (w : Width) (b : ℕ) {z : ℤ} {n : ℕ} → to_z w b ≡ z → Small n z → Leaf
bits_of w b {z} {n} e h = record { seen = to_z w b; is = z; size = n; same = e; small = h }

-- a call's result r, of which the callee ensures that it is z: `called w64 c.f.ok c.f.ensures small`
abbrev pub called : (w : Width) {r z : ℤ} {n : ℕ} → mag r < 2 ^ hbits w → r ≡ z → Small n z → Leaf
called w {r} {z} {n} h e s = record { seen = to_z w (of_z w r); is = z; size = n; same = call_is w h e; small = s }

abbrev pub values : List Leaf → List ℤ
values [] = []
values (l ∷ ls) = l.is ∷ values ls

abbrev pub leaf : List Leaf → ℕ → Leaf
leaf ls i = get_or ls i none

abbrev pub mach : Width → List Leaf → E → ℤ
mach w ls (v i) = (leaf ls i).seen
mach w ls (k z) = z
mach w ls (a ⊕ b) = to_z w (of_z w (mach w ls a +ℤ mach w ls b))
mach w ls (a ⊖ b) = to_z w (of_z w (mach w ls a -ℤ mach w ls b))
mach w ls (a ⊗ b) = to_z w (of_z w (mach w ls a *ℤ mach w ls b))
mach w ls (⊝ a) = to_z w (of_z w (neg_ℤ (mach w ls a)))

-- an operation's result, before it is made bits
abbrev pub raw : Width → List Leaf → E → ℤ
raw w ls (v i) = (leaf ls i).seen
raw w ls (k z) = z
raw w ls (a ⊕ b) = mach w ls a +ℤ mach w ls b
raw w ls (a ⊖ b) = mach w ls a -ℤ mach w ls b
raw w ls (a ⊗ b) = mach w ls a *ℤ mach w ls b
raw w ls (⊝ a) = neg_ℤ (mach w ls a)

-- the bound of an expression, from those of the leaves
abbrev pub bound : List Leaf → E → ℕ
bound ls (v i) = (leaf ls i).size
bound ls (k z) = nat_abs z
bound ls (a ⊕ b) = bound ls a + bound ls b
bound ls (a ⊖ b) = bound ls a + bound ls b
bound ls (a ⊗ b) = bound ls a * bound ls b
bound ls (⊝ a) = bound ls a

-- every operation below the top fits; and the top too
abbrev pub inner : Width → List Leaf → E → Bool
inner w ls (v i) = true
inner w ls (k z) = true
inner w ls (a ⊕ b) = ltb (bound ls a + bound ls b) (2 ^ hbits w) && (inner w ls a && inner w ls b)
inner w ls (a ⊖ b) = ltb (bound ls a + bound ls b) (2 ^ hbits w) && (inner w ls a && inner w ls b)
inner w ls (a ⊗ b) = ltb (bound ls a * bound ls b) (2 ^ hbits w) && (inner w ls a && inner w ls b)
inner w ls (⊝ a) = ltb (bound ls a) (2 ^ hbits w) && inner w ls a

and_0 : (a b : Bool) → T (a && b) → T a
and_0 true b t = tt
and_0 false b t = t

and_1 : (a b : Bool) → T (a && b) → T b
and_1 true b t = t
and_1 false b t = absurd t

values-at : (ls : List Leaf) (i : ℕ) → get_or (values ls) i (pos 0) ≡ (leaf ls i).is
values-at [] i = refl
values-at (l ∷ ls) zero = refl
values-at (l ∷ ls) (suc i) = values-at ls i

pub bound_is : (ls : List Leaf) (e : E) → Small (bound ls e) (eval (values ls) e)
bound_is ls (v i) = subst (λ (z : ℤ). Small (leaf ls i).size z) (sym (values-at ls i)) (leaf ls i).small
bound_is ls (k z) = record { small = le_refl (nat_abs z) }
bound_is ls (a ⊕ b) = small_add (bound_is ls a) (bound_is ls b)
bound_is ls (a ⊖ b) = small_sub (bound_is ls a) (bound_is ls b)
bound_is ls (a ⊗ b) = small_mul (bound_is ls a) (bound_is ls b)
bound_is ls (⊝ a) = small_neg (bound_is ls a)

module _ (w : Width) (ls : List Leaf) where
  -- the value fits where its bound is below half the width's power
  val_fits : (e : E) → T (ltb (bound ls e) (2 ^ hbits w)) → SFits w (eval (values ls) e)
  val_fits e t = small_fits t (bound_is ls e)

  step : (x y : ℤ) → x ≡ y → SFits w y → to_z w (of_z w x) ≡ y
  step x y e h = ap (λ (z : ℤ). to_z w (of_z w z)) e ∙ to_z-of_z h

  mach_is : (e : E) → T (inner w ls e) → mach w ls e ≡ eval (values ls) e
  mach_is (v i) t = (leaf ls i).same ∙ sym (values-at ls i)
  mach_is (k z) t = refl
  mach_is (a ⊕ b) t = step (mach w ls a +ℤ mach w ls b) (eval (values ls) (a ⊕ b)) (ap₂ (λ (x y : ℤ). x +ℤ y) (mach_is a (and_0 (inner w ls a) (inner w ls b) (and_1 (ltb (bound ls a + bound ls b) (2 ^ hbits w)) (inner w ls a && inner w ls b) t))) (mach_is b (and_1 (inner w ls a) (inner w ls b) (and_1 (ltb (bound ls a + bound ls b) (2 ^ hbits w)) (inner w ls a && inner w ls b) t)))) (val_fits (a ⊕ b) (and_0 (ltb (bound ls a + bound ls b) (2 ^ hbits w)) (inner w ls a && inner w ls b) t))
  mach_is (a ⊖ b) t = step (mach w ls a -ℤ mach w ls b) (eval (values ls) (a ⊖ b)) (ap₂ (λ (x y : ℤ). x -ℤ y) (mach_is a (and_0 (inner w ls a) (inner w ls b) (and_1 (ltb (bound ls a + bound ls b) (2 ^ hbits w)) (inner w ls a && inner w ls b) t))) (mach_is b (and_1 (inner w ls a) (inner w ls b) (and_1 (ltb (bound ls a + bound ls b) (2 ^ hbits w)) (inner w ls a && inner w ls b) t)))) (val_fits (a ⊖ b) (and_0 (ltb (bound ls a + bound ls b) (2 ^ hbits w)) (inner w ls a && inner w ls b) t))
  mach_is (a ⊗ b) t = step (mach w ls a *ℤ mach w ls b) (eval (values ls) (a ⊗ b)) (ap₂ (λ (x y : ℤ). x *ℤ y) (mach_is a (and_0 (inner w ls a) (inner w ls b) (and_1 (ltb (bound ls a * bound ls b) (2 ^ hbits w)) (inner w ls a && inner w ls b) t))) (mach_is b (and_1 (inner w ls a) (inner w ls b) (and_1 (ltb (bound ls a * bound ls b) (2 ^ hbits w)) (inner w ls a && inner w ls b) t)))) (val_fits (a ⊗ b) (and_0 (ltb (bound ls a * bound ls b) (2 ^ hbits w)) (inner w ls a && inner w ls b) t))
  mach_is (⊝ a) t = step (neg_ℤ (mach w ls a)) (eval (values ls) (⊝ a)) (ap neg_ℤ (mach_is a (and_1 (ltb (bound ls a) (2 ^ hbits w)) (inner w ls a) t))) (val_fits (⊝ a) (and_0 (ltb (bound ls a) (2 ^ hbits w)) (inner w ls a) t))

  raw_is : (e : E) → T (inner w ls e) → raw w ls e ≡ eval (values ls) e
  raw_is (v i) t = mach_is (v i) t
  raw_is (k z) t = refl
  raw_is (a ⊕ b) t = ap₂ (λ (x y : ℤ). x +ℤ y) (mach_is a (and_0 (inner w ls a) (inner w ls b) (and_1 (ltb (bound ls a + bound ls b) (2 ^ hbits w)) (inner w ls a && inner w ls b) t))) (mach_is b (and_1 (inner w ls a) (inner w ls b) (and_1 (ltb (bound ls a + bound ls b) (2 ^ hbits w)) (inner w ls a && inner w ls b) t)))
  raw_is (a ⊖ b) t = ap₂ (λ (x y : ℤ). x -ℤ y) (mach_is a (and_0 (inner w ls a) (inner w ls b) (and_1 (ltb (bound ls a + bound ls b) (2 ^ hbits w)) (inner w ls a && inner w ls b) t))) (mach_is b (and_1 (inner w ls a) (inner w ls b) (and_1 (ltb (bound ls a + bound ls b) (2 ^ hbits w)) (inner w ls a && inner w ls b) t)))
  raw_is (a ⊗ b) t = ap₂ (λ (x y : ℤ). x *ℤ y) (mach_is a (and_0 (inner w ls a) (inner w ls b) (and_1 (ltb (bound ls a * bound ls b) (2 ^ hbits w)) (inner w ls a && inner w ls b) t))) (mach_is b (and_1 (inner w ls a) (inner w ls b) (and_1 (ltb (bound ls a * bound ls b) (2 ^ hbits w)) (inner w ls a && inner w ls b) t)))
  raw_is (⊝ a) t = ap neg_ℤ (mach_is a (and_1 (ltb (bound ls a) (2 ^ hbits w)) (inner w ls a) t))

  -- what an operation asks: its result fits
  pub asks : (e : E) → T (inner w ls e && ltb (bound ls e) (2 ^ hbits w)) → SFits w (raw w ls e)
  asks e t = subst (λ (z : ℤ). SFits w z) (sym (raw_is e (and_0 (inner w ls e) (ltb (bound ls e) (2 ^ hbits w)) t))) (val_fits e (and_1 (inner w ls e) (ltb (bound ls e) (2 ^ hbits w)) t))

  -- what it yields: the plain value
  pub yields : (e : E) → T (inner w ls e) → mach w ls e ≡ eval (values ls) e
  yields e t = mach_is e t

-- ---- the numbers as they are seen and as they are
abbrev pub seens : List Leaf → List ℤ
seens [] = []
seens (l ∷ ls) = l.seen ∷ seens ls

pub seens_are : (ls : List Leaf) → seens ls ≡ values ls
seens_are [] = refl
seens_are (l ∷ ls) = ap₂ ◌∷◌ l.same (seens_are ls)

-- an expression of the numbers as a callee was handed them is that of the numbers
pub plain : (ls : List Leaf) (e : E) → eval (seens ls) e ≡ eval (values ls) e
plain ls e = ap (λ (ρ : List ℤ). eval ρ e) (seens_are ls)

-- an expression of leaves is a leaf again, for what is handed on: an argument, an entry of an array
abbrev pub node : (w : Width) (ls : List Leaf) (e : E) → T (inner w ls e) → Leaf
node w ls e t = record { seen = mach w ls e; is = eval (values ls) e; size = bound ls e; same = yields w ls e t; small = bound_is ls e }

-- a leaf as it is seen is small
pub seen_small : {n : ℕ} (l : Leaf) → T (leb l.size n) → Small n l.seen
seen_small {n} l t = subst (λ (z : ℤ). Small n z) (sym l.same) (small_more (leb→le l.size n t) l.small)
