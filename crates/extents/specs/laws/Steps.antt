-- Steps keep the order of coordinates.
use Rattle.std.specs.Prelude.{ℕ, ◌<◌, ◌≡◌, true, ℤ, pos, nat_abs, ◌+ℤ◌, ◌≤ℤ◌, ◌<ℤ◌}
use Rattle.std.proofs.Common.{arith, lt→ltb}
use Rattle.std.specs.Int.Signed.{lt_z, lt_z_yes}
use Rattle.whole.specs.laws.Solve.{k, ◌⊕◌}
use Rattle.whole.specs.laws.Linear.{lin, ◌≼◌, ◌≺◌, ◌≈◌, ◌⇒◌, fits}
use Rattle.whole.specs.held.Small.{Small}
use Rattle.whole.specs.laws.Tests.{lt_test}
use Rattle.extents.specs.held.Extents.{step}
use Rattle.extents.specs.laws.Sizing.{size_above}

pub lifted-not_below : (z : ℤ) → Small 100000 z → pos 0 ≤ℤ (z +ℤ pos 100000)
lifted-not_below = lin 1 (λ z. fits 100000 z ⇒ k (pos 0) ≼ z ⊕ k (pos 100000)) (λ z h. omega arith)

pub lifted_is : {z : ℤ} → Small 100000 z → z +ℤ pos 100000 ≡ pos (nat_abs (z +ℤ pos 100000))
lifted_is {z} h = size_above (z +ℤ pos 100000) (lifted-not_below z h)

lifted_order : (a b p q : ℤ) → a +ℤ pos 100000 ≡ p → b +ℤ pos 100000 ≡ q → p <ℤ q → a <ℤ b
lifted_order = lin 4 (λ a b p q. a ⊕ k (pos 100000) ≈ p ⇒ b ⊕ k (pos 100000) ≈ q ⇒ p ≺ q ⇒ a ≺ b) (λ a b p q h l e. omega arith)

pub step_order : {a b : ℤ} → Small 100000 a → Small 100000 b → step a < step b → lt_z a b ≡ true
step_order {a} {b} h l e = lt_test (lifted_order a b (pos m) (pos n) (lifted_is h) (lifted_is l) (lt_z_yes (lt→ltb m n (omega arith))))
  where
    m : ℕ
    m = nat_abs (a +ℤ pos 100000)

    n : ℕ
    n = nat_abs (b +ℤ pos 100000)
