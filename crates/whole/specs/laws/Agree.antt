-- A statement that is an equation allows one result only.
use Rattle.std.specs.Prelude.{ℕ, ◌<◌, ◌≡◌, refl, Option, None, Some, IfSome, unwrap_or}
use Rattle.std.proofs.Common.{arith, sym, ap, ◌∙◌}

-- two results equal to one definition
pub agree : {A : Type 0} {x y z : A} → x ≡ z → y ≡ z → x ≡ y
agree p q = p ∙ sym q

-- two results that are a number below m, or none in place of m
pub agree_below : (m : ℕ) {t : ℕ} (o₁ o₂ : Option ℕ) → IfSome o₁ (λ i. i < m) × (unwrap_or o₁ m ≡ t) → IfSome o₂ (λ i. i < m) × (unwrap_or o₂ m ≡ t) → o₁ ≡ o₂
agree_below m None None p q = refl
agree_below m None (Some j) p q = absurd (omega (arith, p.1, q.0, q.1))
agree_below m (Some i) None p q = absurd (omega (arith, p.0, p.1, q.1))
agree_below m (Some i) (Some j) p q = ap Some (p.1 ∙ sym q.1)
