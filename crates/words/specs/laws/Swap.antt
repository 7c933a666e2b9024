-- A word's two corners, swapped by arithmetic.
use Rattle.std.specs.Prelude.{ℕ, zero, suc, ◌+◌, ◌*◌, ◌/◌, ◌%◌, ◌<◌, ◌≡◌, refl}
use Rattle.std.proofs.Common.{mul-one, mul-zero, div-add-mod', arith, ap, ap₂, ◌∙◌}
use Rattle.std.proofs.Math.Arith.{bin_ind}
use Rattle.std.specs.Int.Bits.{bit_xor, differ, xor_step, xor_zero_r}
use Rattle.std.proofs.lemmas.Nat.{xor_comm, xor_lt}
use Rattle.words.specs.held.Words.{step_of, next_of, dir_of, pick, low_of, high_of}

-- one digit: what differs, told again, gives the other back
differ_back : (x y : ℕ) → x < 2 → y < 2 → (differ x (differ x y) ≡ y) × (differ x y < 2)
differ_back zero y h g = (refl, g)
differ_back (suc zero) zero h g = (refl, omega arith)
differ_back (suc zero) (suc zero) h g = (refl, omega arith)
differ_back (suc zero) (suc (suc y)) h g = omega (arith, g)
differ_back (suc (suc x)) y h g = omega (arith, h)

-- what tells one number from another leads from the one to the other
back_step : (n b : ℕ) → (differ (n % 2) (differ (n % 2) (b % 2)) ≡ b % 2) × (differ (n % 2) (b % 2) < 2) → bit_xor (n / 2) (bit_xor (n / 2) (b / 2)) ≡ b / 2 → bit_xor n (bit_xor n b) ≡ b
back_step n b d ih =
    xor_step n (bit_xor n b)
    ∙ ap₂ (λ (x y : ℕ). bit_xor (n / 2) x * 2 + differ (n % 2) y) (omega (arith, xor_step n b, d.1)) (omega (arith, xor_step n b, d.1))
    ∙ ap₂ (λ (x y : ℕ). x * 2 + y) ih d.0
    ∙ div-add-mod' b 2

xor-back : (a b : ℕ) → bit_xor a (bit_xor a b) ≡ b
xor-back =
    bin_ind (λ (n : ℕ). (b : ℕ) → bit_xor n (bit_xor n b) ≡ b) (λ b. refl)
    (λ n ih b. back_step n b (differ_back (n % 2) (b % 2) (omega arith) (omega arith)) (ih (b / 2)))

-- the one number or the other, by a digit
swap-pick : (d a b : ℕ) → d < 2 → bit_xor a (bit_xor a b * d) ≡ pick d a b
swap-pick zero a b h = ap (bit_xor a) (mul-zero (bit_xor a b)) ∙ xor_zero_r a
swap-pick (suc zero) a b h = ap (bit_xor a) (mul-one (bit_xor a b)) ∙ xor-back a b
swap-pick (suc (suc d)) a b h = omega (arith, h)

swap_less : (d x : ℕ) → d < 2 → x < 1024 → x * d < 1024
swap_less zero x h k = omega (arith, mul-zero x)
swap_less (suc zero) x h k = omega (arith, mul-one x, k)
swap_less (suc (suc d)) x h k = omega (arith, h)

-- what tells a word's two corners from each other, where its step starts at the larger end
abbrev pub swap_of : ℕ → ℕ
swap_of w = bit_xor (step_of w) (next_of w) * dir_of w

pub swap_small : (w : ℕ) → swap_of w < 1024
swap_small w = swap_less (dir_of w) _ (omega arith) (xor_lt 10 (step_of w) (next_of w) (omega arith) (omega arith))

pub swap-low : (w : ℕ) → bit_xor (step_of w) (swap_of w) ≡ low_of w
swap-low w = swap-pick (dir_of w) (step_of w) (next_of w) (omega arith)

pub swap-high : (w : ℕ) → bit_xor (next_of w) (swap_of w) ≡ high_of w
swap-high w = ap (λ (x : ℕ). bit_xor (next_of w) (x * dir_of w)) (xor_comm (step_of w) (next_of w)) ∙ swap-pick (dir_of w) (next_of w) (step_of w) (omega arith)
