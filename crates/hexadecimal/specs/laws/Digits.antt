-- Laws of the digits of a line: which bytes they are, and the fields that the code reads from them.
use Rattle.std.specs.Prelude.{ℕ, zero, suc, ◌+◌, ◌*◌, ◌-◌, ◌/◌, ◌%◌, ◌^◌, ◌≤◌, ◌<◌, ◌≡◌, refl, Bool, true, false, cond, ◌&&◌, List, [], ◌∷◌, leb, length, take, drop, get_or}
use native.Mathlib.Omega.{arith}
use Rattle.std.proofs.Common.{add-one, pow-suc, sym, ap, ◌∙◌, length-drop, drop_of_length-le, take-suc, take_all, get_or-drop, drop-cons, drop-drop}
use Rattle.std.proofs.Math.Nat.{pow-le-pow_right}
use Rattle.std.proofs.Math.Logic.{⊎_elim}
use borrow.Author.Tests.{leb-true, ltb-true, ltb-false, lt-ltb, le-ltb}
use Rattle.std.proofs.Math.Dec.{ltb}
use Rattle.hexadecimal.specs.Hex.{is_hex_of, all_hex_of, digit_value_of, number_from, number, digit}
use Rattle.whole.specs.laws.Bools.{and_left, and_right, or_cases}
use Rattle.hexadecimal.specs.laws.Back.{number_from_append}

-- ---- one digit

-- the low four bits, and 9 more for a letter
abbrev pub by_bits : ℕ → ℕ
by_bits b = b % 16 + 9 * (b / 64)

module _ (b : ℕ) where
  digit_low : (leb 48 b && ltb b 58) ≡ true → (by_bits b ≡ digit_value_of b) × (by_bits b < 16)
  unfolding digit_value_of
  digit_low e =
      let h : 48 ≤ b = leb-true 48 b (and_left (leb 48 b) (ltb b 58) e) in
      let g : b < 58 = ltb-true b 58 (and_right (leb 48 b) (ltb b 58) e) in
      (rw (lt-ltb b 58 g) (omega arith), omega arith)

  digit-high : (leb 65 b && ltb b 71) ≡ true → (by_bits b ≡ digit_value_of b) × (by_bits b < 16)
  unfolding digit_value_of
  digit-high e =
      let h : 65 ≤ b = leb-true 65 b (and_left (leb 65 b) (ltb b 71) e) in
      let g : b < 71 = ltb-true b 71 (and_right (leb 65 b) (ltb b 71) e) in
      let a : 58 ≤ b = omega arith in
      (rw (le-ltb b 58 a) (omega arith), omega arith)

  pub digit_is : is_hex_of b ≡ true → (by_bits b ≡ digit_value_of b) × (by_bits b < 16)
  unfolding is_hex_of
  digit_is h = ⊎_elim digit_low digit-high (or_cases (leb 48 b && ltb b 58) (leb 65 b && ltb b 71) h)

  pub value_below : is_hex_of b ≡ true → digit_value_of b < 16
  value_below h = let d = digit_is h in omega arith

  pub hex_below : is_hex_of b ≡ true → b < 71
  unfolding is_hex_of
  hex_below h =
      ⊎_elim
      (λ e. omega (arith, ltb-true b 58 (and_right (leb 48 b) (ltb b 58) e)))
      (λ e. ltb-true b 71 (and_right (leb 65 b) (ltb b 71) e))
      (or_cases (leb 48 b && ltb b 58) (leb 65 b && ltb b 71) h)

-- ---- a line of digits

pub all_hex_cons : (b : ℕ) (s : List ℕ) → all_hex_of (b ∷ s) ≡ (is_hex_of b && all_hex_of s)
unfolding all_hex_of
all_hex_cons b s = go (is_hex_of b) refl
  where
    go : (c : Bool) → is_hex_of b ≡ c → all_hex_of (b ∷ s) ≡ (c && all_hex_of s)
    go true e = rw (e, all_hex_of)
    go false e = rw (e, all_hex_of)

and_assoc : (a b c : Bool) → (a && b && c) ≡ (a && (b && c))
and_assoc true b c = refl
and_assoc false b c = refl

and_true : (a : Bool) → (a && true) ≡ a
and_true true = refl
and_true false = refl

-- a turn of the loop that tests a line, r being the test of the byte at i
pub hex_turn : (s : List ℕ) (i : ℕ) (good r : Bool) → i < length s → r ≡ is_hex_of (get_or s i 0) → ((good && r) && all_hex_of (drop (i + 1) s)) ≡ (good && all_hex_of (drop i s))
hex_turn s i good r h e =
    rw (add-one, drop-cons s i 0, all_hex_cons, ← e) (and_assoc good r (all_hex_of (drop (suc i) s)))

pub hex_end : (s : List ℕ) (i : ℕ) (good : Bool) → length s ≤ i → (good && all_hex_of (drop i s)) ≡ good
unfolding all_hex_of
hex_end s i good h = rw drop_of_length-le (and_true good)

pub all_hex-at : (s : List ℕ) (i : ℕ) → all_hex_of s ≡ true → i < length s → is_hex_of (get_or s i 0) ≡ true
all_hex-at [] i h g = absurd (omega arith)
all_hex-at (b ∷ s) zero h g = and_left (is_hex_of b) (all_hex_of s) (sym (all_hex_cons b s) ∙ h)
all_hex-at (b ∷ s) (suc i) h g = all_hex-at s i (and_right (is_hex_of b) (all_hex_of s) (sym (all_hex_cons b s) ∙ h)) (omega arith)

-- a line tested in two parts
hex_cut : (k : ℕ) (s : List ℕ) → all_hex_of s ≡ (all_hex_of (take k s) && all_hex_of (drop k s))
unfolding all_hex_of
hex_cut zero s = refl
hex_cut (suc k) [] = refl
hex_cut (suc k) (b ∷ s) =
    all_hex_cons b s ∙ ap (λ (r : Bool). is_hex_of b && r) (hex_cut k s)
    ∙ sym (and_assoc (is_hex_of b) (all_hex_of (take k s)) (all_hex_of (drop k s)))
    ∙ ap (λ (r : Bool). r && all_hex_of (drop k s)) (sym (all_hex_cons b (take k s)))

hex_next : (i : ℕ) (s : List ℕ) → i < length s → all_hex_of (take (suc i) s) ≡ (all_hex_of (take i s) && is_hex_of (get_or s i 0))
unfolding all_hex_of
hex_next i [] h = absurd (omega arith)
hex_next zero (b ∷ s) h = all_hex_cons b [] ∙ and_true (is_hex_of b)
hex_next (suc i) (b ∷ s) h =
    all_hex_cons b (take (suc i) s) ∙ ap (λ (r : Bool). is_hex_of b && r) (hex_next i s (omega arith))
    ∙ sym (and_assoc (is_hex_of b) (all_hex_of (take i s)) (is_hex_of (get_or s i 0)))
    ∙ ap (λ (r : Bool). r && is_hex_of (get_or s i 0)) (sym (all_hex_cons b (take i s)))

-- a turn of the loop that tests a part of a line
pub hex_more : (s : List ℕ) (at i : ℕ) (r : Bool) → at + i < length s → r ≡ is_hex_of (get_or s (at + i) 0)
    → (all_hex_of (take i (drop at s)) && r) ≡ all_hex_of (take (i + 1) (drop at s))
hex_more s at i r h e =
    let d : length (drop at s) ≡ length s - at = length-drop at s in
    let a : i < length (drop at s) = omega arith in
    let g : is_hex_of (get_or (drop at s) i 0) ≡ r = ap is_hex_of (get_or-drop at s i 0) ∙ sym e in
    rw (add-one, hex_next i (drop at s) a, g)

-- a turn of the loop that tests a line sixteen bytes at a time
pub hex_block : (s : List ℕ) (i : ℕ) (good r : Bool) → r ≡ all_hex_of (take 16 (drop i s)) → ((good && r) && all_hex_of (drop (i + 16) s)) ≡ (good && all_hex_of (drop i s))
hex_block s i good r e =
    rw (e, ← drop-drop 16 i s) (and_assoc good (all_hex_of (take 16 (drop i s))) (all_hex_of (drop 16 (drop i s))) ∙ ap (λ (b : Bool). good && b) (sym (hex_cut 16 (drop i s))))

absorbed : (a b : Bool) → (b && (a && b)) ≡ (a && b)
absorbed true true = refl
absorbed true false = refl
absorbed false true = refl
absorbed false false = refl

-- where the last part of a line is tested, good tells of the whole as far as it goes
module _ (s : List ℕ) (k : ℕ) where
  pub hex_last : {r : Bool} → k + 16 ≡ length s → r ≡ all_hex_of (take 16 (drop k s)) → r ≡ all_hex_of (drop k s)
  hex_last h e =
      let d : length (drop k s) ≡ length s - k = length-drop k s in
      let f : length (drop k s) ≤ 16 = omega arith in
      e ∙ ap all_hex_of (take_all 16 (drop k s) f)

  pub hex_start : {r : Bool} → r ≡ all_hex_of (drop k s) → (r && all_hex_of s) ≡ all_hex_of s
  hex_start {r} e = rw (e, hex_cut k s) (absorbed (all_hex_of (take k s)) (all_hex_of (drop k s)))

  pub hex_finish : (good : Bool) (i : ℕ) → k ≤ i → (good ≡ true → all_hex_of (drop k s) ≡ true) → (good && all_hex_of (drop i s)) ≡ good
  hex_finish false i h g = refl
  hex_finish true i h g =
      let e : k + (i - k) ≡ i = omega arith in
      let c : all_hex_of (drop k s) ≡ (all_hex_of (take (i - k) (drop k s)) && all_hex_of (drop (i - k) (drop k s))) = hex_cut (i - k) (drop k s) in
      let d : drop (i - k) (drop k s) ≡ drop i s = drop-drop (i - k) k s ∙ ap (λ (n : ℕ). drop n s) e in
      rw d at (and_right (all_hex_of (take (i - k) (drop k s))) (all_hex_of (drop (i - k) (drop k s))) (sym c ∙ g refl))

-- ---- turns of the loop that reads a field

pub number-turn : (s : List ℕ) (at i : ℕ) → at + i < length s → number (take (i + 1) (drop at s)) ≡ number (take i (drop at s)) * 16 + digit_value_of (get_or s (at + i) 0)
unfolding number number_from
number-turn s at i h =
    let d : length (drop at s) ≡ length s - at = length-drop at s in
    let a : i < length (drop at s) = omega arith in
    rw (add-one i, take-suc (drop at s) i 0 a, get_or-drop at s i 0) (number_from_append 0 (take i (drop at s)) (get_or s (at + i) 0 ∷ []))

pub number_more : (i v d : ℕ) → v < 16 ^ i → d < 16 → v * 16 + d < 16 ^ (i + 1)
number_more i v d h g = rw (add-one, pow-suc) (omega arith)

-- a number of fewer than 8 digits, and one digit more
pub number_fits : (i v : ℕ) → i < 8 → v < 16 ^ i → v < 268435456
number_fits i v h g = omega (arith, pow-le-pow_right {n = 16} (omega arith) {i = i} {j = 7} (omega arith))

-- ---- the digit of a number, without a branch

pub digit_by : (n : ℕ) → n < 16 → n + 48 + (n + 6) / 16 * 7 ≡ digit n
unfolding digit
digit_by n h = go (ltb n 10) refl
  where
    go : (c : Bool) → ltb n 10 ≡ c → n + 48 + (n + 6) / 16 * 7 ≡ cond c (n + 48) (n + 55)
    go true e = omega (arith, ltb-true n 10 e)
    go false e = omega (arith, ltb-false n 10 e)
