-- A ring solver by reflection. An expression over variables is normalised to a sum of monomials by computation, and two
-- expressions whose difference normalises to 0 have equal values at every ℤ.
use Rattle.std.specs.Prelude.{◌≡◌, Bool, T, leb, eqb, ℤ, negsuc, ◌+ℤ◌, ◌-ℤ◌, ◌*ℤ◌}
use Rattle.std.proofs.Math.Path.{refl, sym, ap, ap₂}
use Rattle.std.proofs.Common.{◌∙◌, eqb→eq}
use Rattle.std.proofs.Math.Bool.{true, false}
use mathlib.Core.List.{List, [], ◌∷◌}
use Prim.Native.Nat.{ℕ, zero, suc, compare, Ordering}
use Rattle.std.proofs.Math.Dec.{compare_is_eq}
use Rattle.std.proofs.Math.ListN.{get_or}
use Rattle.std.proofs.Math.IntN.{pos, neg_ℤ, +ℤ_assoc, +ℤ_comm, +ℤ_idl, +ℤ_idr, zero-*ℤ, *ℤ-zero, *ℤ_comm, neg_ℤ-+ℤ}
use Rattle.whole.specs.laws.Ring.{+ℤ-swap-l, *ℤ-dist-r, *ℤ-dist-l, neg-*ℤ, *ℤ-assoc, *ℤ-swap-l, *ℤ-four, one-*ℤ, sub_zero_eq}

-- ---- expressions
infixl 6 ◌⊕◌ ◌⊖◌
infixl 7 ◌⊗◌
infixl 8 ⊝◌
pub data E : Type 0 where
  v : ℕ → E
  k : ℤ → E
  ◌⊕◌ ◌⊖◌ ◌⊗◌ : E → E → E
  ⊝◌ : E → E

abbrev pub eval : List ℤ → E → ℤ
eval ρ (v i) = get_or ρ i (pos 0)
eval ρ (k z) = z
eval ρ (a ⊕ b) = eval ρ a +ℤ eval ρ b
eval ρ (a ⊖ b) = eval ρ a -ℤ eval ρ b
eval ρ (a ⊗ b) = eval ρ a *ℤ eval ρ b
eval ρ (⊝ a) = neg_ℤ (eval ρ a)

-- ---- monomials: the variables, sorted
abbrev Mono : Type 0
Mono = List ℕ

eval_m : List ℤ → Mono → ℤ
eval_m ρ [] = pos 1
eval_m ρ (i ∷ m) = get_or ρ i (pos 0) *ℤ eval_m ρ m

abbrev ins_m : ℕ → Mono → Mono
ins_m i [] = i ∷ []
ins_m i (j ∷ m) = elim (leb i j) [ true ↦ i ∷ (j ∷ m) | false ↦ j ∷ ins_m i m ]

abbrev mul_m : Mono → Mono → Mono
mul_m [] n = n
mul_m (i ∷ m) n = ins_m i (mul_m m n)

module _ (ρ : List ℤ) where
  ins_pick : (t : Bool) (i j : ℕ) (m : Mono) (n : Mono) → eval_m ρ n ≡ get_or ρ i (pos 0) *ℤ eval_m ρ m
      → eval_m ρ (elim t [ true ↦ i ∷ (j ∷ m) | false ↦ j ∷ n ]) ≡ get_or ρ i (pos 0) *ℤ eval_m ρ (j ∷ m)
  unfolding eval_m
  ins_pick true i j m n h = refl
  ins_pick false i j m n h = ap (λ (x : ℤ). get_or ρ j (pos 0) *ℤ x) h ∙ *ℤ-swap-l (get_or ρ j (pos 0)) (get_or ρ i (pos 0)) (eval_m ρ m)

  ins_m_is : (i : ℕ) (m : Mono) → eval_m ρ (ins_m i m) ≡ get_or ρ i (pos 0) *ℤ eval_m ρ m
  unfolding eval_m
  ins_m_is i [] = refl
  ins_m_is i (j ∷ m) = ins_pick (leb i j) i j m (ins_m i m) (ins_m_is i m)

  mul_m_is : (m n : Mono) → eval_m ρ (mul_m m n) ≡ eval_m ρ m *ℤ eval_m ρ n
  unfolding eval_m
  mul_m_is [] n = sym (one-*ℤ (eval_m ρ n))
  mul_m_is (i ∷ m) n = ins_m_is i (mul_m m n) ∙ ap (λ (x : ℤ). get_or ρ i (pos 0) *ℤ x) (mul_m_is m n) ∙ sym (*ℤ-assoc (get_or ρ i (pos 0)) (eval_m ρ m) (eval_m ρ n))

-- ---- the order of monomials
abbrev cmp_m : Mono → Mono → Ordering
cmp_m [] [] = Ordering.eq
cmp_m [] (j ∷ n) = Ordering.lt
cmp_m (i ∷ m) [] = Ordering.gt
cmp_m (i ∷ m) (j ∷ n) = elim (compare i j) [ Ordering.lt ↦ Ordering.lt | Ordering.eq ↦ cmp_m m n | Ordering.gt ↦ Ordering.gt ]

abbrev IsEqO : Ordering → Type 0
IsEqO o = T (compare_is_eq o)

cmp_head : (o : Ordering) (i j : ℕ) (m n : Mono) (p : Ordering) → (IsEqO o → i ≡ j) → (IsEqO p → m ≡ n) → IsEqO (elim o [ Ordering.lt ↦ Ordering.lt | Ordering.eq ↦ p | Ordering.gt ↦ Ordering.gt ]) → i ∷ m ≡ j ∷ n
cmp_head Ordering.lt i j m n p f g t = absurd t
cmp_head Ordering.eq i j m n p f g t = ap₂ ◌∷◌ (f tt) (g t)
cmp_head Ordering.gt i j m n p f g t = absurd t

cmp_m_eq : (m n : Mono) → IsEqO (cmp_m m n) → m ≡ n
cmp_m_eq [] [] t = refl
cmp_m_eq [] (j ∷ n) t = absurd t
cmp_m_eq (i ∷ m) [] t = absurd t
cmp_m_eq (i ∷ m) (j ∷ n) t = cmp_head (compare i j) i j m n (cmp_m m n) (eqb→eq i j) (cmp_m_eq m n) t

-- ---- polynomials: coefficients with monomials, sorted by the monomials
pub data Term : Type 0 where
  term : ℤ → Mono → Term

abbrev Poly : Type 0
Poly = List Term

eval_t : List ℤ → Term → ℤ
eval_t ρ (term c m) = c *ℤ eval_m ρ m

eval_p : List ℤ → Poly → ℤ
eval_p ρ [] = pos 0
eval_p ρ (t ∷ p) = eval_t ρ t +ℤ eval_p ρ p

-- one term more
abbrev add_t : ℤ → Mono → Poly → Poly
add_t c m [] = term c m ∷ []
add_t c m (term d n ∷ p) = elim (cmp_m m n) [ Ordering.lt ↦ term c m ∷ (term d n ∷ p) | Ordering.eq ↦ term (c +ℤ d) n ∷ p | Ordering.gt ↦ term d n ∷ add_t c m p ]

abbrev add_p : Poly → Poly → Poly
add_p [] q = q
add_p (term c m ∷ p) q = add_t c m (add_p p q)

-- q and the product of a term with p
abbrev mul_t : ℤ → Mono → Poly → Poly → Poly
mul_t c m [] q = q
mul_t c m (term d n ∷ p) q = add_t (c *ℤ d) (mul_m m n) (mul_t c m p q)

abbrev mul_p : Poly → Poly → Poly
mul_p [] q = []
mul_p (term c m ∷ p) q = mul_t c m q (mul_p p q)

abbrev neg_p : Poly → Poly
neg_p [] = []
neg_p (term c m ∷ p) = term (neg_ℤ c) m ∷ neg_p p

abbrev nf : E → Poly
nf (v i) = term (pos 1) (i ∷ []) ∷ []
nf (k z) = term z [] ∷ []
nf (a ⊕ b) = add_p (nf a) (nf b)
nf (a ⊖ b) = add_p (neg_p (nf b)) (nf a)
nf (a ⊗ b) = mul_p (nf a) (nf b)
nf (⊝ a) = neg_p (nf a)

abbrev is_zero_of : ℤ → Bool
is_zero_of (pos n) = eqb n 0
is_zero_of (negsuc n) = false

abbrev zero_p : Poly → Bool
zero_p [] = true
zero_p (term c m ∷ p) = elim (is_zero_of c) [ true ↦ zero_p p | false ↦ false ]

is_zero_is : (z : ℤ) → T (is_zero_of z) → z ≡ pos 0
is_zero_is (pos n) t = ap pos (eqb→eq n 0 t)
is_zero_is (negsuc n) t = absurd t

module _ (ρ : List ℤ) where
  add_pick : (o : Ordering) (c : ℤ) (m : Mono) (d : ℤ) (n : Mono) (p q : Poly) → (IsEqO o → m ≡ n) → eval_p ρ q ≡ c *ℤ eval_m ρ m +ℤ eval_p ρ p
      → eval_p ρ (elim o [ Ordering.lt ↦ term c m ∷ (term d n ∷ p) | Ordering.eq ↦ term (c +ℤ d) n ∷ p | Ordering.gt ↦ term d n ∷ q ]) ≡ c *ℤ eval_m ρ m +ℤ eval_p ρ (term d n ∷ p)
  unfolding eval_p eval_t
  add_pick Ordering.lt c m d n p q e h = refl
  add_pick Ordering.eq c m d n p q e h =
      ap (λ (x : ℤ). x +ℤ eval_p ρ p) (*ℤ-dist-r c d (eval_m ρ n)) ∙ +ℤ_assoc (c *ℤ eval_m ρ n) (d *ℤ eval_m ρ n) (eval_p ρ p)
      ∙ ap (λ (l : Mono). c *ℤ eval_m ρ l +ℤ (d *ℤ eval_m ρ n +ℤ eval_p ρ p)) (sym (e tt))
  add_pick Ordering.gt c m d n p q e h =
      ap (λ (x : ℤ). d *ℤ eval_m ρ n +ℤ x) h ∙ +ℤ-swap-l (d *ℤ eval_m ρ n) (c *ℤ eval_m ρ m) (eval_p ρ p)

  add_t_is : (c : ℤ) (m : Mono) (p : Poly) → eval_p ρ (add_t c m p) ≡ c *ℤ eval_m ρ m +ℤ eval_p ρ p
  unfolding eval_p eval_t
  add_t_is c m [] = refl
  add_t_is c m (term d n ∷ p) = add_pick (cmp_m m n) c m d n p (add_t c m p) (cmp_m_eq m n) (add_t_is c m p)

  add_p_is : (p q : Poly) → eval_p ρ (add_p p q) ≡ eval_p ρ p +ℤ eval_p ρ q
  unfolding eval_p eval_t
  add_p_is [] q = sym (+ℤ_idl (eval_p ρ q))
  add_p_is (term c m ∷ p) q = add_t_is c m (add_p p q) ∙ ap (λ (x : ℤ). c *ℤ eval_m ρ m +ℤ x) (add_p_is p q) ∙ sym (+ℤ_assoc (c *ℤ eval_m ρ m) (eval_p ρ p) (eval_p ρ q))

  mul_t_is : (c : ℤ) (m : Mono) (p q : Poly) → eval_p ρ (mul_t c m p q) ≡ (c *ℤ eval_m ρ m) *ℤ eval_p ρ p +ℤ eval_p ρ q
  unfolding eval_p eval_t
  mul_t_is c m [] q = sym (ap (λ (x : ℤ). x +ℤ eval_p ρ q) (*ℤ-zero (c *ℤ eval_m ρ m)) ∙ +ℤ_idl (eval_p ρ q))
  mul_t_is c m (term d n ∷ p) q =
      add_t_is (c *ℤ d) (mul_m m n) (mul_t c m p q)
      ∙ ap₂ (λ (x y : ℤ). x +ℤ y)
      (ap (λ (x : ℤ). (c *ℤ d) *ℤ x) (mul_m_is ρ m n) ∙ *ℤ-four c d (eval_m ρ m) (eval_m ρ n))
      (mul_t_is c m p q)
      ∙ sym (+ℤ_assoc ((c *ℤ eval_m ρ m) *ℤ (d *ℤ eval_m ρ n)) ((c *ℤ eval_m ρ m) *ℤ eval_p ρ p) (eval_p ρ q))
      ∙ ap (λ (x : ℤ). x +ℤ eval_p ρ q) (sym (*ℤ-dist-l (c *ℤ eval_m ρ m) (d *ℤ eval_m ρ n) (eval_p ρ p)))

  mul_p_is : (p q : Poly) → eval_p ρ (mul_p p q) ≡ eval_p ρ p *ℤ eval_p ρ q
  unfolding eval_p eval_t
  mul_p_is [] q = sym (zero-*ℤ (eval_p ρ q))
  mul_p_is (term c m ∷ p) q =
      mul_t_is c m q (mul_p p q) ∙ ap (λ (x : ℤ). (c *ℤ eval_m ρ m) *ℤ eval_p ρ q +ℤ x) (mul_p_is p q)
      ∙ sym (*ℤ-dist-r (c *ℤ eval_m ρ m) (eval_p ρ p) (eval_p ρ q))

  neg_p_is : (p : Poly) → eval_p ρ (neg_p p) ≡ neg_ℤ (eval_p ρ p)
  unfolding eval_p eval_t
  neg_p_is [] = refl
  neg_p_is (term c m ∷ p) =
      ap₂ (λ (x y : ℤ). x +ℤ y) (neg-*ℤ c (eval_m ρ m)) (neg_p_is p) ∙ sym (neg_ℤ-+ℤ (c *ℤ eval_m ρ m) (eval_p ρ p))

  zero-pick : (z : Bool) (c : ℤ) (m : Mono) (p : Poly) (r : Bool) → (T z → c ≡ pos 0) → (T r → eval_p ρ p ≡ pos 0) → T (elim z [ true ↦ r | false ↦ false ]) → eval_p ρ (term c m ∷ p) ≡ pos 0
  unfolding eval_p eval_t
  zero-pick true c m p r f g t =
      ap₂ (λ (x y : ℤ). x *ℤ eval_m ρ m +ℤ y) (f tt) (g t) ∙ +ℤ_idr (pos 0 *ℤ eval_m ρ m) ∙ zero-*ℤ (eval_m ρ m)
  zero-pick false c m p r f g t = absurd t

  zero_p_is : (p : Poly) → T (zero_p p) → eval_p ρ p ≡ pos 0
  unfolding eval_p
  zero_p_is [] t = refl
  zero_p_is (term c m ∷ p) t = zero-pick (is_zero_of c) c m p (zero_p p) (is_zero_is c) (zero_p_is p) t

  nf_is : (e : E) → eval_p ρ (nf e) ≡ eval ρ e
  unfolding eval_p eval_t eval_m
  nf_is (v i) = +ℤ_idr (pos 1 *ℤ (get_or ρ i (pos 0) *ℤ pos 1)) ∙ one-*ℤ (get_or ρ i (pos 0) *ℤ pos 1) ∙ *ℤ_comm (get_or ρ i (pos 0)) (pos 1) ∙ one-*ℤ (get_or ρ i (pos 0))
  nf_is (k z) = +ℤ_idr (z *ℤ pos 1) ∙ *ℤ_comm z (pos 1) ∙ one-*ℤ z
  nf_is (a ⊕ b) = add_p_is (nf a) (nf b) ∙ ap₂ (λ (x y : ℤ). x +ℤ y) (nf_is a) (nf_is b)
  nf_is (a ⊖ b) = add_p_is (neg_p (nf b)) (nf a) ∙ ap₂ (λ (x y : ℤ). x +ℤ y) (neg_p_is (nf b) ∙ ap neg_ℤ (nf_is b)) (nf_is a) ∙ +ℤ_comm (neg_ℤ (eval ρ b)) (eval ρ a)
  nf_is (a ⊗ b) = mul_p_is (nf a) (nf b) ∙ ap₂ (λ (x y : ℤ). x *ℤ y) (nf_is a) (nf_is b)
  nf_is (⊝ a) = neg_p_is (nf a) ∙ ap neg_ℤ (nf_is a)

-- whether two expressions are the same polynomial, by computation
abbrev pub same : E → E → Bool
same a b = zero_p (nf (a ⊖ b))

pub solve : (ρ : List ℤ) (a b : E) → T (same a b) → eval ρ a ≡ eval ρ b
solve ρ a b t = sub_zero_eq (eval ρ a) (eval ρ b) (sym (nf_is ρ (a ⊖ b)) ∙ zero_p_is ρ (nf (a ⊖ b)) t)

-- ---- the call: `ring n (λ a b c. (l, r)) tt a b c`, with n the number of variables
pub record Eqn : Type 0 where
  pub left : E
  pub right : E

infix 4 ◌≔◌
abbrev pub ◌≔◌ : E → E → Eqn
a ≔ b = record { left = a; right = b }

-- a function of n expressions
abbrev pub Quoted : ℕ → Type 0
Quoted zero = Eqn
Quoted (suc n) = E → Quoted n

-- it at the variables i, i + 1, …
abbrev pub open_at : (n : ℕ) → ℕ → Quoted n → Eqn
open_at zero i q = q
open_at (suc n) i q = open_at n (suc i) (q (v i))

abbrev pub snoc : List ℤ → ℤ → List ℤ
snoc [] z = z ∷ []
snoc (x ∷ xs) z = x ∷ snoc xs z

-- at each n numbers the two sides are equal
abbrev pub Holds : ℕ → List ℤ → Eqn → Type 0
Holds zero ρ q = eval ρ q.left ≡ eval ρ q.right
Holds (suc n) ρ q = (z : ℤ) → Holds n (snoc ρ z) q

holds : (n : ℕ) (ρ : List ℤ) (q : Eqn) → T (same q.left q.right) → Holds n ρ q
holds zero ρ q t = solve ρ q.left q.right t
holds (suc n) ρ q t = λ z. holds n (snoc ρ z) q t

pub ring : (n : ℕ) (q : Quoted n) → T (same (open_at n 0 q).left (open_at n 0 q).right) → Holds n [] (open_at n 0 q)
ring n q t = holds n [] (open_at n 0 q) t
