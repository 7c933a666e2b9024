-- The other way round: a line that is a frame is the line of that frame, so no two lines say the same.
use Rattle.std.specs.Prelude.{ℕ, zero, suc, ◌+◌, ◌*◌, ◌-◌, ◌/◌, ◌%◌, ◌^◌, ◌≤◌, ◌<◌, ◌≡◌, refl, Bool, false, cond, ◌&&◌, ◌⊎◌, List, [], ◌∷◌, ◌++◌, leb, eqb, pos, negsuc, take, drop, get_or}
use native.Mathlib.Omega.{arith}
use Rattle.std.proofs.Common.{add-zero, zero-add, add-one, sym, ◌∙◌, inl, inr, append-nil, drop_of_length-le, take-append-drop, length-take-le, take-suc}
use Rattle.std.proofs.Math.Path.{ap}
use Rattle.std.proofs.Math.Bool.{true}
use Rattle.std.proofs.lemmas.Bool.{false≢true}
use Rattle.std.proofs.Math.Logic.{⊎_elim}
use borrow.Author.Tests.{lt-ltb, le-ltb, leb-true, ltb-true, eqb-true}
use Rattle.std.proofs.Math.Dec.{ltb}
use Rattle.std.proofs.Math.ListN.{length, length-drop}
use Rattle.std.proofs.Math.Seq.{append_snoc}
use Rattle.hexadecimal.specs.Hex.{is_hex_of, all_hex_of, digit_value_of, number_from, number, signed32, digit, digits, bits32}
use Rattle.frame.specs.Frame.{broken, Kind, kind_of, kind_named, fits, unsigned, coordinate, numbers, filled, decode}
use Rattle.frame.specs.Encode.{four_each, eight, encode}
use Rattle.whole.specs.laws.Bools.{and_left, and_right, or_cases}
use Rattle.hexadecimal.specs.laws.Back.{number_from_append}
use Rattle.hexadecimal.specs.laws.Digits.{value_below, all_hex_cons, all_hex-at, number_more}

-- ---- digits

module _ (b : ℕ) where
  low-back : (leb 48 b && ltb b 58) ≡ true → digit (digit_value_of b) ≡ b
  unfolding digit digit_value_of
  low-back e =
      let h : 48 ≤ b = leb-true 48 b (and_left (leb 48 b) (ltb b 58) e) in
      let g : b < 58 = ltb-true b 58 (and_right (leb 48 b) (ltb b 58) e) in
      let a : b - 48 < 10 = omega arith in
      rw (lt-ltb b 58 g, lt-ltb (b - 48) 10 a) (omega arith)

  high-back : (leb 65 b && ltb b 71) ≡ true → digit (digit_value_of b) ≡ b
  unfolding digit digit_value_of
  high-back e =
      let h : 65 ≤ b = leb-true 65 b (and_left (leb 65 b) (ltb b 71) e) in
      let d : 58 ≤ b = omega arith in
      let a : 10 ≤ b - 55 = omega arith in
      rw (le-ltb b 58 d, le-ltb (b - 55) 10 a) (omega arith)

  pub digit-back : is_hex_of b ≡ true → digit (digit_value_of b) ≡ b
  unfolding is_hex_of
  digit-back h = ⊎_elim low-back high-back (or_cases (leb 48 b && ltb b 58) (leb 65 b && ltb b 71) h)

all_hex-take : (k : ℕ) (s : List ℕ) → all_hex_of s ≡ true → all_hex_of (take k s) ≡ true
unfolding all_hex_of
all_hex-take zero s h = refl
all_hex-take (suc k) [] h = refl
all_hex-take (suc k) (b ∷ s) h =
    let g = sym (all_hex_cons b s) ∙ h in
    let ih : all_hex_of (take k s) ≡ true = all_hex-take k s (and_right (is_hex_of b) (all_hex_of s) g) in
    all_hex_cons b (take k s) ∙ rw (and_left (is_hex_of b) (all_hex_of s) g, ih)

all_hex-drop : (k : ℕ) (s : List ℕ) → all_hex_of s ≡ true → all_hex_of (drop k s) ≡ true
all_hex-drop zero s h = h
all_hex-drop (suc k) [] h = h
all_hex-drop (suc k) (b ∷ s) h = all_hex-drop k s (and_right (is_hex_of b) (all_hex_of s) (sym (all_hex_cons b s) ∙ h))

digits_from : (s : List ℕ) (j v : ℕ) → all_hex_of s ≡ true → digits (j + length s) (number_from v s) ≡ digits j v ++ s
unfolding digits number_from
digits_from [] j v h = rw (add-zero, append-nil)
digits_from (b ∷ s) j v h =
    let g = sym (all_hex_cons b s) ∙ h in
    let hex : is_hex_of b ≡ true = and_left (is_hex_of b) (all_hex_of s) g in
    let small : digit_value_of b < 16 = value_below b hex in
    let e : j + suc (length s) ≡ suc j + length s = omega arith in
    let q : (v * 16 + digit_value_of b) / 16 ≡ v = omega arith in
    let r : (v * 16 + digit_value_of b) % 16 ≡ digit_value_of b = omega arith in
    let ih : digits (suc j + length s) (number_from (v * 16 + digit_value_of b) s) ≡ digits (suc j) (v * 16 + digit_value_of b) ++ s = digits_from s (suc j) (v * 16 + digit_value_of b) (and_right (is_hex_of b) (all_hex_of s) g) in
    rw e (ih ∙ rw (q, r, digit-back b hex) (append_snoc (digits j v) b s))

-- the digits of the number of some digits are those digits
pub digits_number : (s : List ℕ) → all_hex_of s ≡ true → digits (length s) (number s) ≡ s
unfolding digits number
digits_number s h = ap (λ (n : ℕ). digits n (number_from 0 s)) (sym (zero-add (length s))) ∙ digits_from s 0 0 h

-- ---- fields

module _ (k : ℕ) (l : List ℕ) (h : all_hex_of l ≡ true) where
  -- a field, and what follows it
  field_back : (rest : List ℕ) → k ≤ length l → rest ≡ drop k l → digits k (number (take k l)) ++ rest ≡ l
  field_back rest g e =
      let n : length (take k l) ≡ k = length-take-le k l g in
      let d : digits (length (take k l)) (number (take k l)) ≡ take k l = digits_number (take k l) (all_hex-take k l h) in
      ap (λ (m : ℕ). digits m (number (take k l)) ++ rest) (sym n)
      ∙ ap (λ (s : List ℕ). s ++ rest) d
      ∙ ap (λ (r : List ℕ). take k l ++ r) e
      ∙ take-append-drop k l

  -- the last field
  last-back : length l ≡ k → digits k (number (take k l)) ≡ l
  last-back e =
      let a : length l ≤ k = omega arith in
      sym (append-nil (digits k (number (take k l)))) ∙ field_back [] (omega arith) (sym (drop_of_length-le l a))

small_take : (l : List ℕ) → all_hex_of l ≡ true → (i : ℕ) → i ≤ length l → number (take i l) < 16 ^ i
unfolding number number_from
small_take l h zero g = omega arith
small_take l h (suc i) g =
    let a : i < length l = omega arith in
    let ih : number (take i l) < 16 ^ i = small_take l h i (omega arith) in
    let d : digit_value_of (get_or l i 0) < 16 = value_below (get_or l i 0) (all_hex-at l i h a) in
    rw (take-suc l i 0 a, number_from_append 0 (take i l) (get_or l i 0 ∷ []))
    (rw (add-one i) at (number_more i (number (take i l)) (digit_value_of (get_or l i 0)) ih d))

bits32-signed32 : (v : ℕ) → v < 2 ^ 32 → bits32 (signed32 v) ≡ v
unfolding bits32 signed32
bits32-signed32 v h = go (ltb v (2 ^ 31)) refl
  where
    go : (c : Bool) → ltb v (2 ^ 31) ≡ c → bits32 (cond c (pos v) (negsuc (2 ^ 32 - 1 - v))) ≡ v
    go true e = refl
    go false e = omega arith

eight-back : (l : List ℕ) → all_hex_of l ≡ true → 8 ≤ length l → eight (signed32 (number (take 8 l))) ≡ digits 8 (number (take 8 l))
unfolding eight
eight-back l h g = ap (digits 8) (bits32-signed32 (number (take 8 l)) (small_take l h 8 g))

place-back : (l : List ℕ) → all_hex_of l ≡ true → length l ≡ 24
    → eight (signed32 (number (take 8 l))) ++ (eight (signed32 (number (take 8 (drop 8 l)))) ++ eight (signed32 (number (take 8 (drop 8 (drop 8 l)))))) ≡ l
place-back l h g =
    let h₁ : all_hex_of (drop 8 l) ≡ true = all_hex-drop 8 l h in
    let h₂ : all_hex_of (drop 8 (drop 8 l)) ≡ true = all_hex-drop 8 (drop 8 l) h₁ in
    let g₁ : length (drop 8 l) ≡ length l - 8 = length-drop 8 l in
    let g₂ : length (drop 8 (drop 8 l)) ≡ length (drop 8 l) - 8 = length-drop 8 (drop 8 l) in
    rw (eight-back l h (omega arith), eight-back (drop 8 l) h₁ (omega arith), eight-back (drop 8 (drop 8 l)) h₂ (omega arith))
    (field_back 8 l h _ (omega arith) (field_back 8 (drop 8 l) h₁ _ (omega arith) (last-back 8 (drop 8 (drop 8 l)) h₂ (omega arith))))

ring_back : (l : List ℕ) → all_hex_of l ≡ true → length l % 4 ≡ 0 → four_each (numbers l) ≡ l
unfolding numbers four_each
ring_back [] h g = refl
ring_back (a ∷ []) h g = absurd (omega arith)
ring_back (a ∷ b ∷ []) h g = absurd (omega arith)
ring_back (a ∷ b ∷ c ∷ []) h g = absurd (omega arith)
ring_back (a ∷ b ∷ c ∷ d ∷ l) h g = field_back 4 (a ∷ b ∷ c ∷ d ∷ l) h (four_each (numbers l)) (omega arith) (ring_back l (all_hex-drop 4 (a ∷ b ∷ c ∷ d ∷ l) h) (omega arith))

-- ---- kinds

unfoldable pub kind_number : Kind → ℕ
kind_number Kind.begin = 1
kind_number Kind.point = 2
kind_number Kind.polygon = 3
kind_number Kind.end_of_load = 4
kind_number Kind.move = 5
kind_number Kind.turn = 6
kind_number Kind.question = 7
kind_number Kind.across = 12
kind_number Kind.unknown = 0

Named : ℕ → Kind → Type 0
Named n k = (k ≡ Kind.unknown) ⊎ (n ≡ kind_number k)

named_or : (n m : ℕ) (k rest : Kind) → m ≡ kind_number k → Named n rest → Named n (cond (eqb n m) k rest)
unfolding Named
named_or n m k rest e h = go (eqb n m) refl
  where
    go : (b : Bool) → eqb n m ≡ b → Named n (cond b k rest)
    go true d = inr (eqb-true n m d ∙ e)
    go false d = h

kind_named_lem : (n : ℕ) → Named n (kind_of n)
unfolding kind_of kind_number Named
kind_named_lem n =
    named_or n 1 Kind.begin _ refl (named_or n 2 Kind.point _ refl (named_or n 3 Kind.polygon _ refl (named_or n 4 Kind.end_of_load _ refl
    (named_or n 5 Kind.move _ refl (named_or n 6 Kind.turn _ refl (named_or n 7 Kind.question _ refl (named_or n 12 Kind.across _ refl (inl refl))))))))

-- ---- lines

module _ (l : List ℕ) (h : all_hex_of l ≡ true) where
  kind_back : (n : ℕ) (rest : List ℕ) → number (take 2 l) ≡ n → 2 ≤ length l → rest ≡ drop 2 l → digits 2 n ++ rest ≡ l
  kind_back n rest e g d = ap (λ (m : ℕ). digits 2 m ++ rest) (sym e) ∙ field_back 2 l h rest g d

  after : (n : ℕ) → length l ≡ n → length (drop 2 l) ≡ n - 2
  after n e = length-drop 2 l ∙ ap (λ (m : ℕ). m - 2) e

  filled-back : (k : Kind) → fits k (length l) ≡ true → number (take 2 l) ≡ kind_number k → encode (filled k (drop 2 l)) ≡ l
  unfolding fits kind_number filled encode unsigned coordinate
  filled-back Kind.begin f e =
      let g : length l ≡ 6 = eqb-true (length l) 6 f in
      kind_back 1 _ e (omega arith) (last-back 4 (drop 2 l) (all_hex-drop 2 l h) (after 6 g))
  filled-back Kind.point f e =
      let g : length l ≡ 26 = eqb-true (length l) 26 f in
      kind_back 2 _ e (omega arith) (place-back (drop 2 l) (all_hex-drop 2 l h) (after 26 g))
  filled-back Kind.polygon f e =
      let g : length l % 4 ≡ 2 = eqb-true (length l % 4) 2 (and_right (leb (length l) 514) (eqb (length l % 4) 2) f) in
      let d : length (drop 2 l) ≡ length l - 2 = length-drop 2 l in
      kind_back 3 _ e (omega arith) (ring_back (drop 2 l) (all_hex-drop 2 l h) (omega arith))
  filled-back Kind.end_of_load f e =
      let g : length l ≡ 2 = eqb-true (length l) 2 f in
      ap (digits 2) (sym e) ∙ last-back 2 l h g
  filled-back Kind.move f e =
      let g : length l ≡ 38 = eqb-true (length l) 38 f in
      let h₁ : all_hex_of (drop 2 l) ≡ true = all_hex-drop 2 l h in
      let h₂ : all_hex_of (drop 8 (drop 2 l)) ≡ true = all_hex-drop 8 (drop 2 l) h₁ in
      let g₁ : length (drop 2 l) ≡ 36 = after 38 g in
      let g₂ : length (drop 8 (drop 2 l)) ≡ length (drop 2 l) - 8 = length-drop 8 (drop 2 l) in
      let g₃ : length (drop 4 (drop 8 (drop 2 l))) ≡ length (drop 8 (drop 2 l)) - 4 = length-drop 4 (drop 8 (drop 2 l)) in
      kind_back 5 _ e (omega arith)
      (field_back 8 (drop 2 l) h₁ _ (omega arith)
      (field_back 4 (drop 8 (drop 2 l)) h₂ _ (omega arith)
      (place-back (drop 4 (drop 8 (drop 2 l))) (all_hex-drop 4 (drop 8 (drop 2 l)) h₂) (omega arith))))
  filled-back Kind.turn f e =
      let g : length l ≡ 14 = eqb-true (length l) 14 f in
      let h₁ : all_hex_of (drop 2 l) ≡ true = all_hex-drop 2 l h in
      let g₁ : length (drop 2 l) ≡ 12 = after 14 g in
      let g₂ : length (drop 8 (drop 2 l)) ≡ length (drop 2 l) - 8 = length-drop 8 (drop 2 l) in
      kind_back 6 _ e (omega arith)
      (field_back 8 (drop 2 l) h₁ _ (omega arith)
      (last-back 4 (drop 8 (drop 2 l)) (all_hex-drop 8 (drop 2 l) h₁) (omega arith)))
  filled-back Kind.question f e =
      let g : length l ≡ 6 = eqb-true (length l) 6 f in
      kind_back 7 _ e (omega arith) (last-back 4 (drop 2 l) (all_hex-drop 2 l h) (after 6 g))
  filled-back Kind.across f e =
      let g : length l ≡ 10 = eqb-true (length l) 10 f in
      let h₁ : all_hex_of (drop 2 l) ≡ true = all_hex-drop 2 l h in
      let g₁ : length (drop 2 l) ≡ 8 = after 10 g in
      let g₂ : length (drop 4 (drop 2 l)) ≡ length (drop 2 l) - 4 = length-drop 4 (drop 2 l) in
      kind_back 12 _ e (omega arith)
      (field_back 4 (drop 2 l) h₁ _ (omega arith)
      (last-back 4 (drop 4 (drop 2 l)) (all_hex-drop 4 (drop 2 l) h₁) (omega arith)))
  filled-back Kind.unknown f e = absurd (false≢true f)

known : (k : Kind) (n m : ℕ) → fits k m ≡ true → Named n k → n ≡ kind_number k
unfolding fits Named
known k n m f (inl e) = absurd (false≢true (rw e at f))
known k n m f (inr e) = e

-- a line that is a frame is the line of that frame
pub encode-decode : (l : List ℕ) → (decode l ≡ broken → ⊥) → encode (decode l) ≡ l
unfolding decode kind_named
encode-decode l not = go (all_hex_of l && fits (kind_named l) (length l)) refl
  where
    go : (b : Bool) → (all_hex_of l && fits (kind_named l) (length l)) ≡ b → encode (decode l) ≡ l
    go true d =
        let h : all_hex_of l ≡ true = and_left (all_hex_of l) (fits (kind_named l) (length l)) d in
        let f : fits (kind_named l) (length l) ≡ true = and_right (all_hex_of l) (fits (kind_named l) (length l)) d in
        rw (d, decode) (filled-back l h (kind_named l) f (known (kind_named l) (number (take 2 l)) (length l) f (kind_named_lem (number (take 2 l)))))
    go false d = absurd (not (rw (d, decode)))
