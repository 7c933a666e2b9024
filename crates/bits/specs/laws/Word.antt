-- One word of any width: a bit read, a bit set, the trailing ones, how many are set.
use Rattle.std.specs.Prelude.{ℕ, zero, suc, ◌+◌, ◌-◌, ◌*◌, ◌/◌, ◌%◌, ◌^◌, ◌≤◌, ◌<◌, max, ◌≡◌, refl, List, ◌∷◌, length, get_or, set}
use Rattle.std.proofs.Common.{zero-le, pow-suc, le_refl, mod-lt, zero-lt-suc, mul_comm, div-one, one-mul, arith, sym, ap, ap₂, ◌∙◌, subst, shl_exact}
use Rattle.std.proofs.Math.Nat.{div-div-eq-div-mul}
use Rattle.std.proofs.Math.Arith.{digits_div, digits_mod}
use Rattle.std.specs.Int.Bits.{bit_or, or_step, or_zero_r}
use Rattle.std.specs.Int.Count.{ones, ones_step, count_trailing_zeros, under}
use Rattle.std.proofs.lemmas.Nat.{trailing_le}
use Rattle.whole.specs.Lists.{least_index}
use Rattle.bits.specs.Lowest.{lowest_bare_of}
use Rattle.bits.specs.held.Bits.{bits_of, sum_of}

pub length-bits : (n w : ℕ) → length (bits_of n w) ≡ n
unfolding bits_of
length-bits zero w = refl
length-bits (suc n) w = ap suc (length-bits n (w / 2))

pub bit_small : (n w k : ℕ) → get_or (bits_of n w) k 0 ≤ 1
unfolding bits_of
bit_small zero w k = zero-le
bit_small (suc n) w zero = omega arith
bit_small (suc n) w (suc k) = bit_small n (w / 2) k

pub bits_none : (n k : ℕ) → get_or (bits_of n 0) k 0 ≡ 0
unfolding bits_of
bits_none zero k = refl
bits_none (suc n) zero = refl
bits_none (suc n) (suc k) = bits_none n k

-- bit k is the word's k-th digit
pub bit_is : (n w k : ℕ) → k < n → get_or (bits_of n w) k 0 ≡ w / 2 ^ k % 2
unfolding bits_of
bit_is zero w k h = absurd (omega arith)
bit_is (suc n) w zero h = sym (ap (λ (x : ℕ). x % 2) (div-one w))
bit_is (suc n) w (suc k) h =
    bit_is n (w / 2) k (omega arith)
    ∙ ap (λ (x : ℕ). x % 2) (div-div-eq-div-mul w 2 (2 ^ k) ∙ ap (λ (x : ℕ). w / x) (mul_comm 2 (2 ^ k) ∙ sym (pow-suc 2 k)))

-- the lowest digit of two words' `or`, and the rest
small_max : (a b : ℕ) → max (a % 2) (b % 2) < 2
small_max a b = omega arith

or_low : (a b : ℕ) → bit_or a b % 2 ≡ max (a % 2) (b % 2)
or_low a b = ap (λ (x : ℕ). x % 2) (or_step a b) ∙ digits_mod (bit_or (a / 2) (b / 2)) (small_max a b)

or_rest : (a b : ℕ) → bit_or a b / 2 ≡ bit_or (a / 2) (b / 2)
or_rest a b = ap (λ (x : ℕ). x / 2) (or_step a b) ∙ digits_div (bit_or (a / 2) (b / 2)) (small_max a b)

bit_set : (n w k : ℕ) → bits_of n (bit_or w (2 ^ k)) ≡ set (bits_of n w) k 1
unfolding bits_of
bit_set zero w k = refl
bit_set (suc n) w zero = ap₂ (λ (x y : ℕ). x ∷ bits_of n y) (or_low w 1 ∙ omega arith) (or_rest w 1 ∙ or_zero_r (w / 2))
bit_set (suc n) w (suc k) = ap₂ (λ (x : ℕ) (l : List ℕ). x ∷ l) low (ap (bits_of n) rest ∙ bit_set n (w / 2) k)
  where
    low : bit_or w (2 ^ suc k) % 2 ≡ w % 2
    low = or_low w (2 ^ suc k) ∙ rw (pow-suc 2 k) (omega arith)

    rest : bit_or w (2 ^ suc k) / 2 ≡ bit_or (w / 2) (2 ^ k)
    rest = or_rest w (2 ^ suc k) ∙ ap (bit_or (w / 2)) (ap (λ (x : ℕ). x / 2) (pow-suc 2 k) ∙ omega arith)

-- a word with its bit k set: the code's `w | (1 << k)`
pub bit_put : (n w k : ℕ) → k < n → bits_of n (bit_or w (1 * 2 ^ k % 2 ^ n)) ≡ set (bits_of n w) k 1
bit_put n w k h = ap (λ (x : ℕ). bits_of n (bit_or w x)) (shl_exact 1 k n (le_refl 2) (omega arith) ∙ one-mul (2 ^ k)) ∙ bit_set n w k

-- half of a word of n + 1 digits has n
half_small : (n w : ℕ) → w < 2 ^ suc n → w / 2 < 2 ^ n
half_small n w h = let m : w < 2 ^ n * 2 = subst (λ (t : ℕ). w < t) (pow-suc 2 n) h in omega arith

-- ---- the trailing ones are the trailing zeros of the complement: the lowest bit that is not set
-- the lowest digit of a complement, and the rest
not_low : (t w : ℕ) → w < t * 2 → (t * 2 - 1 - w) % 2 ≡ 1 - w % 2
not_low t w h = omega arith

not-rest : (t w : ℕ) → w < t * 2 → (t * 2 - 1 - w) / 2 ≡ t - 1 - w / 2
not-rest t w h = omega arith

pub trailing_ones : (n w : ℕ) → w < 2 ^ n → count_trailing_zeros n (2 ^ n - 1 - w) ≡ lowest_bare_of (bits_of n w)
unfolding bits_of count_trailing_zeros lowest_bare_of least_index
trailing_ones zero w h = refl
trailing_ones (suc n) w h =
    ap (λ (x : ℕ). under ((x - 1 - w) % 2) (count_trailing_zeros n ((x - 1 - w) / 2))) (pow-suc 2 n)
    ∙ ap₂ (λ (x y : ℕ). under x (count_trailing_zeros n y)) (not_low (2 ^ n) w small) (not-rest (2 ^ n) w small)
    ∙ ap (under (1 - w % 2)) (trailing_ones n (w / 2) (half_small n w h))
    ∙ go (w % 2) (mod-lt w (zero-lt-suc 1))
  where
    small : w < 2 ^ n * 2
    small = subst (λ (x : ℕ). w < x) (pow-suc 2 n) h

    go : (b : ℕ) → b < 2 → under (1 - b) (lowest_bare_of (bits_of n (w / 2))) ≡ lowest_bare_of (b ∷ bits_of n (w / 2))
    go zero l = refl
    go (suc zero) l = refl
    go (suc (suc b)) l = absurd (omega arith)

-- a count of a machine word's bits is small
pub count_small : (w : ℕ) → count_trailing_zeros 64 w < 2 ^ 64
count_small w = omega (arith, trailing_le 64 w)

-- ---- how many bits are set
pub bits-sum : (n w : ℕ) → w < 2 ^ n → ones w ≡ sum_of (bits_of n w)
unfolding bits_of sum_of ones
bits-sum zero w h = ap ones (none w h)
  where
    none : (w : ℕ) → w < 1 → w ≡ 0
    none w h = omega arith
bits-sum (suc n) w h = ones_step w ∙ ap (λ (x : ℕ). w % 2 + x) (bits-sum n (w / 2) (half_small n w h))
