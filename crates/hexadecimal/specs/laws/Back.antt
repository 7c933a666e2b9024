-- Reading back what was written: digits and coordinates.
use Rattle.std.specs.Prelude.{ℕ, zero, suc, ◌+◌, ◌*◌, ◌-◌, ◌/◌, ◌%◌, ◌^◌, ◌≤◌, ◌<◌, ◌≡◌, refl, Bool, true, false, cond, List, [], ◌∷◌, ◌++◌, ltb, length, ℤ, pos, negsuc}
use Rattle.std.proofs.Common.{arith, pow-suc, ◌∙◌, length-append}
use borrow.Author.Tests.{lt-ltb, le-ltb, le-leb}
use Rattle.hexadecimal.specs.Hex.{is_hex_of, all_hex_of, digit_value_of, number_from, number, signed32, digit, digits, bits32}

-- ---- one digit

is_hex-low : (b : ℕ) → 48 ≤ b → b < 58 → is_hex_of b ≡ true
unfolding is_hex_of
is_hex-low b h g = rw (le-leb 48 b h, lt-ltb b 58 g)

is_hex-high : (b : ℕ) → 65 ≤ b → b < 71 → is_hex_of b ≡ true
unfolding is_hex_of
is_hex-high b h g =
    let a : 48 ≤ b = omega arith in
    let d : 58 ≤ b = omega arith in
    rw (le-leb 48 b a, le-ltb b 58 d, le-leb 65 b h, lt-ltb b 71 g)

pub is_hex-digit : (n : ℕ) → n < 16 → is_hex_of (digit n) ≡ true
unfolding digit
is_hex-digit n h = go (ltb n 10) refl
  where
    go : (b : Bool) → ltb n 10 ≡ b → is_hex_of (cond b (n + 48) (n + 55)) ≡ true
    go true e = is_hex-low (n + 48) (omega arith) (omega (arith, borrow.Author.Tests.ltb-true n 10 e))
    go false e = is_hex-high (n + 55) (omega (arith, borrow.Author.Tests.ltb-false n 10 e)) (omega arith)

pub digit_value-digit : (n : ℕ) → n < 16 → digit_value_of (digit n) ≡ n
unfolding digit digit_value_of
digit_value-digit n h = go (ltb n 10) refl
  where
    go : (b : Bool) → ltb n 10 ≡ b → digit_value_of (cond b (n + 48) (n + 55)) ≡ n
    go true e =
        let a : n + 48 < 58 = omega (arith, borrow.Author.Tests.ltb-true n 10 e) in
        rw (lt-ltb (n + 48) 58 a) (omega arith)
    go false e =
        let a : 58 ≤ n + 55 = omega (arith, borrow.Author.Tests.ltb-false n 10 e) in
        rw (le-ltb (n + 55) 58 a) (omega arith)

-- ---- digits

pub all_hex_append : (s t : List ℕ) → all_hex_of s ≡ true → all_hex_of t ≡ true → all_hex_of (s ++ t) ≡ true
unfolding all_hex_of
all_hex_append [] t h g = g
all_hex_append (b ∷ s) t h g = go (is_hex_of b) refl h (λ q. all_hex_append s t q g)
  where
    go : (c : Bool) → is_hex_of b ≡ c → all_hex_of (b ∷ s) ≡ true → (all_hex_of s ≡ true → all_hex_of (s ++ t) ≡ true) → all_hex_of (b ∷ s ++ t) ≡ true
    go true e h ih = rw (e, all_hex_of) (ih (rw (e, all_hex_of) at h))
    go false e h ih = rw (e, all_hex_of) (rw (e, all_hex_of) at h)

all_hex-one : (n : ℕ) → n < 16 → all_hex_of (digit n ∷ []) ≡ true
unfolding all_hex_of
all_hex-one n h = rw (is_hex-digit n h, all_hex_of)

pub all_hex-digits : (k v : ℕ) → all_hex_of (digits k v) ≡ true
unfolding digits all_hex_of
all_hex-digits zero v = refl
all_hex-digits (suc k) v = all_hex_append (digits k (v / 16)) (digit (v % 16) ∷ []) (all_hex-digits k (v / 16)) (all_hex-one (v % 16) (omega arith))

pub length_digits : (k v : ℕ) → length (digits k v) ≡ k
unfolding digits
length_digits zero v = refl
length_digits (suc k) v =
    let h : length (digits k (v / 16)) ≡ k = length_digits k (v / 16) in
    length-append (digits k (v / 16)) (digit (v % 16) ∷ []) ∙ (rw h (omega arith))

pub number_from_append : (n : ℕ) (s t : List ℕ) → number_from n (s ++ t) ≡ number_from (number_from n s) t
unfolding number_from
number_from_append n [] t = refl
number_from_append n (b ∷ s) t = number_from_append (n * 16 + digit_value_of b) s t

pub number_digits : (k v : ℕ) → v < 16 ^ k → number (digits k v) ≡ v
unfolding number number_from digits
number_digits zero v h = omega arith
number_digits (suc k) v h =
    let a : v < 16 ^ k * 16 = rw pow-suc at h in
    let ih : number_from 0 (digits k (v / 16)) ≡ v / 16 = number_digits k (v / 16) (omega arith) in
    number_from_append 0 (digits k (v / 16)) (digit (v % 16) ∷ [])
    ∙ rw (ih, digit_value-digit (v % 16) (omega arith)) (omega arith)

-- ---- coordinates

-- a whole number that 32 bits hold
pub data Fits32 : ℤ → Type 0 where
  above : {n : ℕ} → n < 2 ^ 31 → Fits32 (pos n)
  below : {n : ℕ} → n < 2 ^ 31 → Fits32 (negsuc n)

pub bits32_small : (z : ℤ) → Fits32 z → bits32 z < 16 ^ 8
unfolding bits32
bits32_small (pos n) (above h) = omega arith
bits32_small (negsuc n) (below h) = omega arith

pub signed32-bits32 : (z : ℤ) → Fits32 z → signed32 (bits32 z) ≡ z
unfolding bits32 signed32
signed32-bits32 (pos n) (above h) = rw (lt-ltb n 2147483648 h)
signed32-bits32 (negsuc n) (below h) =
    let a : 2147483648 ≤ 4294967295 - n = omega arith in
    let b : 4294967295 - (4294967295 - n) ≡ n = omega arith in
    rw (le-ltb (4294967295 - n) 2147483648 a, b)
