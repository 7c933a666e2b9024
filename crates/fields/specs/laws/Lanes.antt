-- Digits side by side in one word: the bytes of a field, the first lowest, become the field's number in a few steps for all of them.
use Rattle.std.specs.Prelude.{ℕ, suc, ◌+◌, ◌*◌, ◌/◌, ◌%◌, ◌^◌, ◌≤◌, ◌<◌, ◌≡◌, refl, true, List, [], ◌∷◌, map, length, take, drop, get_or}
use native.Mathlib.Omega.{arith}
use Rattle.std.proofs.Common.{add_comm, sym, ap₂, ◌∙◌, drop-cons}
use Rattle.std.proofs.Math.Path.{ap}
use Rattle.std.proofs.Math.Pow.{high, low}
use Rattle.std.specs.Int.Bits.{bit_and, and_zero_r}
use Rattle.std.proofs.lemmas.Nat.{and_block, and_mask}
use Rattle.std.proofs.lemmas.Nat.Bits.{and_high}
use Rattle.whole.specs.All.{All, none, more}
use Rattle.hexadecimal.specs.Hex.{is_hex_of, all_hex_of, digit_value_of, number_from, number}
use Rattle.hexadecimal.specs.laws.Digits.{digit_is, value_below, hex_below, all_hex-at}
use Rattle.fields.specs.held.Fields.{Hex4}

-- a word of bytes, the first lowest
unfoldable pub word : List ℕ → ℕ
word [] = 0
word (b ∷ s) = b + word s * 256

-- the same mask for each byte
unfoldable pub masks : ℕ → List ℕ → ℕ
masks m [] = 0
masks m (b ∷ s) = m + masks m s * 256

-- ---- a word masked byte by byte

and_cons : (a m x y : ℕ) → a < 256 → m < 256 → bit_and (a + x * 256) (m + y * 256) ≡ bit_and a m + bit_and x y * 256
and_cons a m x y h g =
    let e : a + x * 256 ≡ x * 256 + a = omega arith in
    let f : m + y * 256 ≡ y * 256 + m = omega arith in
    let k : bit_and x y * 256 + bit_and a m ≡ bit_and a m + bit_and x y * 256 = omega arith in
    ap₂ bit_and e f ∙ and_block 8 x y a m h g ∙ k

-- the low four bits of each byte
lows : (s : List ℕ) → All (λ (b : ℕ). b < 256) s → bit_and (word s) (masks 15 s) ≡ word (map (λ (b : ℕ). b % 16) s)
unfolding word masks
lows [] none = refl
lows (b ∷ s) (more h a) =
    and_cons b 15 (word s) (masks 15 s) h (omega arith)
    ∙ ap₂ (λ (x y : ℕ). x + y * 256) (and_mask b 4) (lows s a)

-- the bit that a letter has, of each byte
highs : (s : List ℕ) → All (λ (b : ℕ). b < 256) s → bit_and (word s) (masks 64 s) ≡ word (map (λ (b : ℕ). b / 64 % 2) s) * 64
unfolding word masks
highs [] none = refl
highs (b ∷ s) (more h a) =
    let e : (b / 64 % 2) * 64 + word (map (λ (b : ℕ). b / 64 % 2) s) * 64 * 256 ≡ (b / 64 % 2 + word (map (λ (b : ℕ). b / 64 % 2) s) * 256) * 64 = omega arith in
    and_cons b 64 (word s) (masks 64 s) h (omega arith)
    ∙ ap₂ (λ (x y : ℕ). x + y * 256) (and_high b 1 6) (highs s a)
    ∙ e

-- ---- the number of each digit

-- the low four bits, and 9 more for a letter
abbrev pub valued : ℕ → ℕ → ℕ → ℕ
valued m n w = bit_and w m + 9 * (bit_and w n / 64)

sums : (s : List ℕ) → All (λ (b : ℕ). is_hex_of b ≡ true) s
    → word (map (λ (b : ℕ). b % 16) s) + 9 * word (map (λ (b : ℕ). b / 64 % 2) s) ≡ word (map digit_value_of s)
unfolding word
sums [] none = refl
sums (b ∷ s) (more h a) =
    let d = digit_is b h in
    let l = hex_below b h in
    let i = sums s a in
    omega arith

bytes : (s : List ℕ) → All (λ (b : ℕ). is_hex_of b ≡ true) s → All (λ (b : ℕ). b < 256) s
bytes [] none = none
bytes (b ∷ s) (more h a) = let l : b < 256 = omega (arith, hex_below b h) in more l (bytes s a)

pub valued_is : (s : List ℕ) → All (λ (b : ℕ). is_hex_of b ≡ true) s → valued (masks 15 s) (masks 64 s) (word s) ≡ word (map digit_value_of s)
valued_is s a =
    let e : word (map (λ (b : ℕ). b / 64 % 2) s) * 64 / 64 ≡ word (map (λ (b : ℕ). b / 64 % 2) s) = omega arith in
    ap₂ (λ (x y : ℕ). x + 9 * (y / 64)) (lows s (bytes s a)) (highs s (bytes s a))
    ∙ ap (λ (y : ℕ). word (map (λ (b : ℕ). b % 16) s) + 9 * y) e
    ∙ sums s a

-- ---- digits by twos

-- a digit sixteen times, and the next digit, in each byte; every other byte is masked away
abbrev pub paired : ℕ → ℕ → ℕ
paired m x = bit_and (x * 16 + x / 256) m

pair_turn : (a b x y : ℕ) → a < 16 → b < 16 → x % 256 < 16
    → paired (255 + (0 + y * 256) * 256) (a + (b + x * 256) * 256) ≡ a * 16 + b + (0 + paired y x * 256) * 256
pair_turn a b x y h g k =
    let p : a * 16 + b < 256 = omega arith in
    let q : b * 16 + x % 256 < 256 = omega arith in
    let e : (a + (b + x * 256) * 256) * 16 + (a + (b + x * 256) * 256) / 256 ≡ a * 16 + b + (b * 16 + x % 256 + (x * 16 + x / 256) * 256) * 256 = omega arith in
    let f : (a * 16 + b) % 256 ≡ a * 16 + b = omega arith in
    ap (λ (n : ℕ). bit_and n (255 + (0 + y * 256) * 256)) e
    ∙ and_cons (a * 16 + b) 255 (b * 16 + x % 256 + (x * 16 + x / 256) * 256) (0 + y * 256) p (omega arith)
    ∙ ap₂ (λ (u v : ℕ). u + v * 256) (and_mask (a * 16 + b) 8 ∙ f) (and_cons (b * 16 + x % 256) 0 (x * 16 + x / 256) y q (omega arith))
    ∙ ap (λ (u : ℕ). a * 16 + b + (u + paired y x * 256) * 256) (and_zero_r (b * 16 + x % 256))

-- ---- a field of four digits, and one of eight

-- four digits: two numbers of two digits each, in every other byte, put together
abbrev pub fours : ℕ → ℕ
fours y = (y * 256 + y / 65536) % 65536

-- eight digits: four such numbers put together by twos, and these once more
abbrev pub foured : ℕ → ℕ
foured y = bit_and (y * 256 + y / 65536) 281470681808895

abbrev pub eights : ℕ → ℕ
eights z = (z * 65536 + z / 4294967296) % 4294967296

module _ (a b c d : ℕ) (h : a < 16) (i : b < 16) (j : c < 16) (k : d < 16) where
  pub twos_of_4 : paired 16711935 (word (a ∷ b ∷ c ∷ d ∷ [])) ≡ a * 16 + b + (c * 16 + d) * 65536
  unfolding word
  twos_of_4 =
      let e : a * 16 + b + (0 + (c * 16 + d + (0 + 0 * 256) * 256) * 256) * 256 ≡ a * 16 + b + (c * 16 + d) * 65536 = omega arith in
      pair_turn a b (c + (d + 0 * 256) * 256) 255 h i (omega arith)
      ∙ ap (λ (u : ℕ). a * 16 + b + (0 + u * 256) * 256) (pair_turn c d 0 0 j k (omega arith))
      ∙ e

  module _ (e f g l : ℕ) (m : e < 16) (n : f < 16) (o : g < 16) (p : l < 16) where
    pub twos-of-8 : paired 71777214294589695 (word (a ∷ b ∷ c ∷ d ∷ e ∷ f ∷ g ∷ l ∷ [])) ≡ a * 16 + b + (c * 16 + d) * 65536 + (e * 16 + f) * 4294967296 + (g * 16 + l) * 281474976710656
    unfolding word
    twos-of-8 =
        let q : a * 16 + b + (0 + (c * 16 + d + (0 + (e * 16 + f + (0 + (g * 16 + l + (0 + 0 * 256) * 256) * 256) * 256) * 256) * 256) * 256) * 256
        ≡ a * 16 + b + (c * 16 + d) * 65536 + (e * 16 + f) * 4294967296 + (g * 16 + l) * 281474976710656 = omega arith in
        pair_turn a b (c + (d + (e + (f + (g + (l + 0 * 256) * 256) * 256) * 256) * 256) * 256) 1095233372415 h i (omega arith)
        ∙ ap (λ (u : ℕ). a * 16 + b + (0 + u * 256) * 256) (pair_turn c d (e + (f + (g + (l + 0 * 256) * 256) * 256) * 256) 16711935 j k (omega arith))
        ∙ ap (λ (u : ℕ). a * 16 + b + (0 + (c * 16 + d + (0 + u * 256) * 256) * 256) * 256) (pair_turn e f (g + (l + 0 * 256) * 256) 255 m n (omega arith))
        ∙ ap (λ (u : ℕ). a * 16 + b + (0 + (c * 16 + d + (0 + (e * 16 + f + (0 + u * 256) * 256) * 256) * 256) * 256) * 256) (pair_turn g l 0 0 o p (omega arith))
        ∙ q

-- a word's halves, told by the number of bits of the lower one
module _ (k u v : ℕ) (h : u < 2 ^ k) where
  upper : (u + v * 2 ^ k) / 2 ^ k ≡ v
  upper = ap (λ (n : ℕ). n / 2 ^ k) (add_comm u (v * 2 ^ k)) ∙ high v k h

  lower : (u + v * 2 ^ k) % 2 ^ k ≡ u
  lower = ap (λ (n : ℕ). n % 2 ^ k) (add_comm u (v * 2 ^ k)) ∙ low v k h

module _ (u v : ℕ) (h : u < 256) (g : v < 256) where
  pub fours_is : fours (u + v * 65536) ≡ u * 256 + v
  fours_is =
      let e : (u + v * 65536) * 256 + v ≡ u * 256 + v + v * 256 * 65536 = omega arith in
      ap (λ (n : ℕ). ((u + v * 65536) * 256 + n) % 65536) (upper 16 u v (omega arith))
      ∙ ap (λ (n : ℕ). n % 65536) e
      ∙ lower 16 (u * 256 + v) (v * 256) (omega arith)

module _ (u v : ℕ) (h : u < 65536) (g : v < 65536) where
  pub eights_is : eights (u + v * 4294967296) ≡ u * 65536 + v
  eights_is =
      let e : (u + v * 4294967296) * 65536 + v ≡ u * 65536 + v + v * 65536 * 4294967296 = omega arith in
      ap (λ (n : ℕ). ((u + v * 4294967296) * 65536 + n) % 4294967296) (upper 32 u v (omega arith))
      ∙ ap (λ (n : ℕ). n % 4294967296) e
      ∙ lower 32 (u * 65536 + v) (v * 65536) (omega arith)

module _ (a b c d : ℕ) (h : a < 256) (i : b < 256) (j : c < 256) (k : d < 256) where
  pub foured_is : foured (a + b * 65536 + c * 4294967296 + d * 281474976710656) ≡ a * 256 + b + (c * 256 + d) * 4294967296
  foured_is =
      let y : ℕ = a + b * 65536 + c * 4294967296 + d * 281474976710656 in
      let low : ℕ = a * 256 + b + (b * 256 + c) * 65536 in
      let high : ℕ = c * 256 + d + d * 256 * 65536 in
      let w : y ≡ a + (b + c * 65536 + d * 4294967296) * 65536 = omega arith in
      let x : y / 65536 ≡ b + c * 65536 + d * 4294967296 = ap (λ (n : ℕ). n / 65536) w ∙ upper 16 a (b + c * 65536 + d * 4294967296) (omega arith) in
      let e : y * 256 + (b + c * 65536 + d * 4294967296) ≡ high * 4294967296 + low = omega arith in
      let f : low < 4294967296 = omega arith in
      let z : (c * 256 + d) * 4294967296 + (a * 256 + b) ≡ a * 256 + b + (c * 256 + d) * 4294967296 = omega arith in
      ap (λ (n : ℕ). bit_and (y * 256 + n) 281470681808895) x
      ∙ ap (λ (n : ℕ). bit_and n 281470681808895) e
      ∙ and_block 32 high 65535 low 65535 f (omega arith)
      ∙ ap₂ (λ (u v : ℕ). u * 4294967296 + v)
      (and_mask high 16 ∙ lower 16 (c * 256 + d) (d * 256) (omega arith))
      (and_mask low 16 ∙ lower 16 (a * 256 + b) (b * 256 + c) (omega arith))
      ∙ z

-- ---- what the code computes of four bytes, and of eight

-- the word as the code makes it
abbrev pub joined_4 : ℕ → ℕ → ℕ → ℕ → ℕ
joined_4 a b c d = a + b * 256 + (c + d * 256) * 65536

pub word_of_4 : (a b c d : ℕ) → joined_4 a b c d ≡ word (a ∷ b ∷ c ∷ d ∷ [])
unfolding word
word_of_4 a b c d = omega arith

abbrev pub joined_8 : ℕ → ℕ → ℕ → ℕ → ℕ → ℕ → ℕ → ℕ → ℕ
joined_8 a b c d e f g h = joined_4 a b c d + joined_4 e f g h * 4294967296

pub word_of_8 : (a b c d e f g h : ℕ) → joined_8 a b c d e f g h ≡ word (a ∷ b ∷ c ∷ d ∷ e ∷ f ∷ g ∷ h ∷ [])
unfolding word
word_of_8 a b c d e f g h = omega arith

-- a number of two digits
pub two_below : (a b : ℕ) → is_hex_of a ≡ true → is_hex_of b ≡ true → digit_value_of a * 16 + digit_value_of b < 256
two_below a b h g = omega (arith, value_below a h, value_below b g)

module _ (a b c d : ℕ) (h : Hex4 a b c d) where
  pub values-of_4 : valued 252645135 1077952576 (joined_4 a b c d) ≡ word (digit_value_of a ∷ digit_value_of b ∷ digit_value_of c ∷ digit_value_of d ∷ [])
  unfolding masks
  values-of_4 =
      ap (valued 252645135 1077952576) (word_of_4 a b c d)
      ∙ valued_is (a ∷ b ∷ c ∷ d ∷ []) (more h.first (more h.second (more h.third (more h.fourth none))))

  -- so that sixteen times it is a number of the machine
  pub values_few_4 : valued 252645135 1077952576 (joined_4 a b c d) ≤ 252645135
  unfolding word
  values_few_4 = omega (arith, values-of_4, value_below a h.first, value_below b h.second, value_below c h.third, value_below d h.fourth)

  pub pairs-of_4 : paired 16711935 (valued 252645135 1077952576 (joined_4 a b c d)) ≡ digit_value_of a * 16 + digit_value_of b + (digit_value_of c * 16 + digit_value_of d) * 65536
  pairs-of_4 =
      ap (paired 16711935) values-of_4
      ∙ twos_of_4 (digit_value_of a) (digit_value_of b) (digit_value_of c) (digit_value_of d) (value_below a h.first) (value_below b h.second) (value_below c h.third) (value_below d h.fourth)

  pub number_of_4 : fours (paired 16711935 (valued 252645135 1077952576 (joined_4 a b c d))) ≡ number (a ∷ b ∷ c ∷ d ∷ [])
  unfolding number number_from
  number_of_4 =
      ap fours pairs-of_4
      ∙ fours_is (digit_value_of a * 16 + digit_value_of b) (digit_value_of c * 16 + digit_value_of d) (two_below a b h.first h.second) (two_below c d h.third h.fourth)
      ∙ omega arith

module _ (a b c d e f g h : ℕ) (l : Hex4 a b c d) (r : Hex4 e f g h) where
  pub values-of_8 : valued 1085102592571150095 4629771061636907072 (joined_8 a b c d e f g h)
      ≡ word (digit_value_of a ∷ digit_value_of b ∷ digit_value_of c ∷ digit_value_of d ∷ digit_value_of e ∷ digit_value_of f ∷ digit_value_of g ∷ digit_value_of h ∷ [])
  unfolding masks
  values-of_8 =
      ap (valued 1085102592571150095 4629771061636907072) (word_of_8 a b c d e f g h)
      ∙ valued_is (a ∷ b ∷ c ∷ d ∷ e ∷ f ∷ g ∷ h ∷ [])
      (more l.first (more l.second (more l.third (more l.fourth (more r.first (more r.second (more r.third (more r.fourth none))))))))

  pub values_few_8 : valued 1085102592571150095 4629771061636907072 (joined_8 a b c d e f g h) ≤ 1085102592571150095
  unfolding word
  values_few_8 =
      omega (arith, values-of_8, value_below a l.first, value_below b l.second, value_below c l.third, value_below d l.fourth, value_below e r.first, value_below f r.second, value_below g r.third, value_below h r.fourth)

  pub pairs-of_8 : paired 71777214294589695 (valued 1085102592571150095 4629771061636907072 (joined_8 a b c d e f g h))
      ≡ digit_value_of a * 16 + digit_value_of b + (digit_value_of c * 16 + digit_value_of d) * 65536 + (digit_value_of e * 16 + digit_value_of f) * 4294967296 + (digit_value_of g * 16 + digit_value_of h) * 281474976710656
  pairs-of_8 =
      ap (paired 71777214294589695) values-of_8
      ∙ twos-of-8 (digit_value_of a) (digit_value_of b) (digit_value_of c) (digit_value_of d)
      (value_below a l.first) (value_below b l.second) (value_below c l.third) (value_below d l.fourth)
      (digit_value_of e) (digit_value_of f) (digit_value_of g) (digit_value_of h)
      (value_below e r.first) (value_below f r.second) (value_below g r.third) (value_below h r.fourth)

  pub fours-of_8 : foured (paired 71777214294589695 (valued 1085102592571150095 4629771061636907072 (joined_8 a b c d e f g h)))
      ≡ (digit_value_of a * 16 + digit_value_of b) * 256 + (digit_value_of c * 16 + digit_value_of d) + ((digit_value_of e * 16 + digit_value_of f) * 256 + (digit_value_of g * 16 + digit_value_of h)) * 4294967296
  fours-of_8 =
      ap foured pairs-of_8
      ∙ foured_is (digit_value_of a * 16 + digit_value_of b) (digit_value_of c * 16 + digit_value_of d) (digit_value_of e * 16 + digit_value_of f) (digit_value_of g * 16 + digit_value_of h)
      (two_below a b l.first l.second) (two_below c d l.third l.fourth) (two_below e f r.first r.second) (two_below g h r.third r.fourth)

  pub number_of_8 : eights (foured (paired 71777214294589695 (valued 1085102592571150095 4629771061636907072 (joined_8 a b c d e f g h)))) ≡ number (a ∷ b ∷ c ∷ d ∷ e ∷ f ∷ g ∷ h ∷ [])
  unfolding number number_from
  number_of_8 =
      let p : (digit_value_of a * 16 + digit_value_of b) * 256 + (digit_value_of c * 16 + digit_value_of d) < 65536 = omega (arith, two_below a b l.first l.second, two_below c d l.third l.fourth) in
      let q : (digit_value_of e * 16 + digit_value_of f) * 256 + (digit_value_of g * 16 + digit_value_of h) < 65536 = omega (arith, two_below e f r.first r.second, two_below g h r.third r.fourth) in
      ap eights fours-of_8
      ∙ eights_is ((digit_value_of a * 16 + digit_value_of b) * 256 + (digit_value_of c * 16 + digit_value_of d)) ((digit_value_of e * 16 + digit_value_of f) * 256 + (digit_value_of g * 16 + digit_value_of h)) p q
      ∙ omega arith

-- ---- the bytes of a field

module _ (l : List ℕ) (at : ℕ) where
  next : (j k : ℕ) → at + j < length l → take (suc k) (drop (at + j) l) ≡ get_or l (at + j) 0 ∷ take k (drop (at + suc j) l)
  next j k h =
      let e : at + suc j ≡ suc (at + j) = omega arith in
      rw (drop-cons l (at + j) 0, e)

  four-from : (j k : ℕ) → at + j + 3 < length l
      → take (suc (suc (suc (suc k)))) (drop (at + j) l) ≡ get_or l (at + j) 0 ∷ get_or l (at + suc j) 0 ∷ get_or l (at + suc (suc j)) 0 ∷ get_or l (at + suc (suc (suc j))) 0 ∷ take k (drop (at + suc (suc (suc (suc j)))) l)
  four-from j k h =
      next j (suc (suc (suc k))) (omega arith)
      ∙ ap (λ (t : List ℕ). get_or l (at + j) 0 ∷ t) (next (suc j) (suc (suc k)) (omega arith))
      ∙ ap (λ (t : List ℕ). get_or l (at + j) 0 ∷ get_or l (at + suc j) 0 ∷ t) (next (suc (suc j)) (suc k) (omega arith))
      ∙ ap (λ (t : List ℕ). get_or l (at + j) 0 ∷ get_or l (at + suc j) 0 ∷ get_or l (at + suc (suc j)) 0 ∷ t) (next (suc (suc (suc j))) k (omega arith))

  pub bytes-of_4 : at + 4 ≤ length l → get_or l at 0 ∷ get_or l (at + 1) 0 ∷ get_or l (at + 2) 0 ∷ get_or l (at + 3) 0 ∷ [] ≡ take 4 (drop at l)
  bytes-of_4 h = let e : at + 0 ≡ at = omega arith in rw e at (sym (four-from 0 0 (omega arith)))

  pub bytes-of_8 : at + 8 ≤ length l
      → get_or l at 0 ∷ get_or l (at + 1) 0 ∷ get_or l (at + 2) 0 ∷ get_or l (at + 3) 0 ∷ get_or l (at + 4) 0 ∷ get_or l (at + 5) 0 ∷ get_or l (at + 6) 0 ∷ get_or l (at + 7) 0 ∷ [] ≡ take 8 (drop at l)
  bytes-of_8 h =
      let e : at + 0 ≡ at = omega arith in
      sym (rw e at (four-from 0 4 (omega arith))
      ∙ ap (λ (t : List ℕ). get_or l at 0 ∷ get_or l (at + 1) 0 ∷ get_or l (at + 2) 0 ∷ get_or l (at + 3) 0 ∷ t) (four-from 4 0 (omega arith)))

pub hex_of_4 : (l : List ℕ) (p q r s : ℕ) → all_hex_of l ≡ true → p < length l → q < length l → r < length l → s < length l → Hex4 (get_or l p 0) (get_or l q 0) (get_or l r 0) (get_or l s 0)
hex_of_4 l p q r s e h i j k =
    record {
      first = all_hex-at l p e h;
      second = all_hex-at l q e i;
      third = all_hex-at l r e j;
      fourth = all_hex-at l s e k;
    }
