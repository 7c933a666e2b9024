-- Reading back what was written: frames.
use Rattle.std.specs.Prelude.{ℕ, suc, ◌*◌, ◌-◌, ◌%◌, ◌≤◌, ◌<◌, ◌≡◌, Bool, true, false, ◌&&◌, List, [], ◌∷◌, ◌++◌, length, drop, ℤ}
use Rattle.std.proofs.Common.{arith, ap, ap₂, ◌∙◌, le-leb, leb-true, length-append, length-drop}
use Rattle.std.proofs.Math.Path.{refl}
use Rattle.whole.specs.laws.Bools.{and_left, and_right}
use Rattle.whole.specs.All.{All, none, more}
use Rattle.hexadecimal.specs.Hex.{all_hex_of, number, signed32, digits, bits32, hex_computes}
use Rattle.frame.specs.Frame.{Frame, begin, point, polygon, end_of_load, move, turn, question, across, broken, Kind, kind_of, kind_named, fits, unsigned, coordinate, numbers, filled, decode}
use Rattle.frame.specs.Encode.{four_each, eight, encode}
use Rattle.hexadecimal.specs.laws.Back.{all_hex_append, all_hex-digits, length_digits, number_digits, Fits32, bits32_small, signed32-bits32}

-- ---- frames

-- a line of digits whose length fits its kind is that frame
decode_hex : (l : List ℕ) → all_hex_of l ≡ true → fits (kind_named l) (length l) ≡ true → decode l ≡ filled (kind_named l) (drop 2 l)
unfolding decode
decode_hex l h g = rw (h, g, decode)

all_hex-eight : (c : ℤ) → all_hex_of (eight c) ≡ true
unfolding eight
all_hex-eight c = all_hex-digits 8 (bits32 c)

all_hex-place : (x y z : ℤ) → all_hex_of (eight x ++ (eight y ++ eight z)) ≡ true
all_hex-place x y z = all_hex_append (eight x) (eight y ++ eight z) (all_hex-eight x) (all_hex_append (eight y) (eight z) (all_hex-eight y) (all_hex-eight z))

pub all_hex-four_each : (l : List ℕ) → all_hex_of (four_each l) ≡ true
unfolding four_each all_hex_of
all_hex-four_each [] = refl
all_hex-four_each (n ∷ l) = all_hex_append (digits 4 n) (four_each l) (all_hex-digits 4 n) (all_hex-four_each l)

-- a field of digits before others
all_hex_field : (k v : ℕ) (t : List ℕ) → all_hex_of t ≡ true → all_hex_of (digits k v ++ t) ≡ true
all_hex_field k v t h = all_hex_append (digits k v) t (all_hex-digits k v) h

-- the line of any frame is upper-case hexadecimal
pub all_hex-encode : (f : Frame) → all_hex_of (encode f) ≡ true
unfolding encode all_hex_of
all_hex-encode (begin t) = all_hex_field 2 1 (digits 4 t) (all_hex-digits 4 t)
all_hex-encode (point x y z) = all_hex_field 2 2 (eight x ++ (eight y ++ eight z)) (all_hex-place x y z)
all_hex-encode (polygon ring) = all_hex_field 2 3 (four_each ring) (all_hex-four_each ring)
all_hex-encode end_of_load = all_hex-digits 2 4
all_hex-encode (move number n x y z) =
    all_hex_field 2 5 (digits 8 number ++ (digits 4 n ++ (eight x ++ (eight y ++ eight z))))
    (all_hex_field 8 number (digits 4 n ++ (eight x ++ (eight y ++ eight z))) (all_hex_field 4 n (eight x ++ (eight y ++ eight z)) (all_hex-place x y z)))
all_hex-encode (turn number n) = all_hex_field 2 6 (digits 8 number ++ digits 4 n) (all_hex_field 8 number (digits 4 n) (all_hex-digits 4 n))
all_hex-encode (question n) = all_hex_field 2 7 (digits 4 n) (all_hex-digits 4 n)
all_hex-encode (across a b) = all_hex_field 2 12 (digits 4 a ++ digits 4 b) (all_hex_field 4 a (digits 4 b) (all_hex-digits 4 b))
all_hex-encode broken = refl

decode_encoded : (f : Frame) → fits (kind_named (encode f)) (length (encode f)) ≡ true → decode (encode f) ≡ filled (kind_named (encode f)) (drop 2 (encode f))
decode_encoded f g = decode_hex (encode f) (all_hex-encode f) g

read_eight : (c : ℤ) → Fits32 c → signed32 (number (digits 8 (bits32 c))) ≡ c
read_eight c f = ap signed32 (number_digits 8 (bits32 c) (bits32_small c f)) ∙ signed32-bits32 c f

pub decode-begin : (t : ℕ) → t < 65536 → decode (encode (begin t)) ≡ begin t
unfolding encode hex_computes kind_named kind_of fits filled unsigned
decode-begin t h = decode_encoded (begin t) refl ∙ ap begin (number_digits 4 t h)

pub decode_end : decode (encode end_of_load) ≡ end_of_load
unfolding encode decode hex_computes kind_named kind_of fits filled
decode_end = refl

module _ (x y z : ℤ) (fx : Fits32 x) (fy : Fits32 y) (fz : Fits32 z) where
  pub decode_point : decode (encode (point x y z)) ≡ point x y z
  unfolding encode eight hex_computes kind_named kind_of fits filled unsigned coordinate
  decode_point = decode_encoded (point x y z) refl ∙ (λ i. point (read_eight x fx i) (read_eight y fy i) (read_eight z fz i))

  pub decode_move : (number n : ℕ) → number < 4294967296 → n < 65536 → decode (encode (move number n x y z)) ≡ move number n x y z
  unfolding encode eight hex_computes kind_named kind_of fits filled unsigned coordinate
  decode_move number n h g =
      decode_encoded (move number n x y z) refl
      ∙ (λ i. move (number_digits 8 number h i) (number_digits 4 n g i) (read_eight x fx i) (read_eight y fy i) (read_eight z fz i))

pub decode-turn : (number n : ℕ) → number < 4294967296 → n < 65536 → decode (encode (turn number n)) ≡ turn number n
unfolding encode hex_computes kind_named kind_of fits filled unsigned
decode-turn number n h g = decode_encoded (turn number n) refl ∙ (λ i. turn (number_digits 8 number h i) (number_digits 4 n g i))

pub decode_question : (n : ℕ) → n < 65536 → decode (encode (question n)) ≡ question n
unfolding encode hex_computes kind_named kind_of fits filled unsigned
decode_question n h = decode_encoded (question n) refl ∙ ap question (number_digits 4 n h)

pub decode-across : (a b : ℕ) → a < 65536 → b < 65536 → decode (encode (across a b)) ≡ across a b
unfolding encode hex_computes kind_named kind_of fits filled unsigned
decode-across a b h g = decode_encoded (across a b) refl ∙ (λ i. across (number_digits 4 a h i) (number_digits 4 b g i))

pub length-four_each : (l : List ℕ) → length (four_each l) ≡ 4 * length l
unfolding four_each
length-four_each [] = refl
length-four_each (n ∷ l) =
    let h : length (four_each l) ≡ 4 * length l = length-four_each l in
    length-append (digits 4 n) (four_each l) ∙ (rw (length_digits 4 n, h) (omega arith))

numbers-four_each : (l : List ℕ) → All (λ (n : ℕ). n < 65536) l → numbers (four_each l) ≡ l
unfolding four_each numbers digits
numbers-four_each [] none = refl
numbers-four_each (n ∷ l) (more h b) = ap₂ (λ (m : ℕ) (k : List ℕ). m ∷ k) (number_digits 4 n h) (numbers-four_each l b)

pub decode-polygon : (ring : List ℕ) → length ring ≤ 128 → All (λ (n : ℕ). n < 65536) ring → decode (encode (polygon ring)) ≡ polygon ring
unfolding encode hex_computes kind_named kind_of fits filled
decode-polygon ring h b =
    let n : length (four_each ring) ≡ 4 * length ring = length-four_each ring in
    let a : suc (suc (length (four_each ring))) ≤ 514 = omega arith in
    let d : suc (suc (length (four_each ring))) % 4 ≡ 2 = omega arith in
    decode_encoded (polygon ring) (rw (le-leb _ 514 a, d)) ∙ ap polygon (numbers-four_each ring b)

-- the fields that the frame table's digits can hold
abbrev pub Encodable : Frame → Type 0
Encodable (begin t) = t < 65536
Encodable (point x y z) = Fits32 x × (Fits32 y × Fits32 z)
Encodable (polygon ring) = (length ring ≤ 128) × All (λ (n : ℕ). n < 65536) ring
Encodable end_of_load = Unit {0}
Encodable (move number n x y z) = (number < 4294967296) × ((n < 65536) × (Fits32 x × (Fits32 y × Fits32 z)))
Encodable (turn number n) = (number < 4294967296) × (n < 65536)
Encodable (question n) = n < 65536
Encodable (across a b) = (a < 65536) × (b < 65536)
Encodable broken = ⊥

-- what a host writes is what the checker reads
pub decode-encode : (f : Frame) → Encodable f → decode (encode f) ≡ f
decode-encode (begin t) h = decode-begin t h
decode-encode (point x y z) h = decode_point x y z h.0 h.1.0 h.1.1
decode-encode (polygon ring) h = decode-polygon ring h.0 h.1
decode-encode end_of_load h = decode_end
decode-encode (move number n x y z) h = decode_move x y z h.1.1.0 h.1.1.1.0 h.1.1.1.1 number n h.0 h.1.0
decode-encode (turn number n) h = decode-turn number n h.0 h.1
decode-encode (question n) h = decode_question n h
decode-encode (across a b) h = decode-across a b h.0 h.1
decode-encode broken h = absurd h

-- ---- what a line can say

-- a polygon has at most 128 entries
abbrev pub WellFormed : Frame → Type 0
WellFormed (begin t) = Unit {0}
WellFormed (point x y z) = Unit {0}
WellFormed (polygon ring) = length ring ≤ 128
WellFormed end_of_load = Unit {0}
WellFormed (move number n x y z) = Unit {0}
WellFormed (turn number n) = Unit {0}
WellFormed (question n) = Unit {0}
WellFormed (across a b) = Unit {0}
WellFormed broken = Unit {0}

pub numbers_few : (l : List ℕ) → 4 * length (numbers l) ≤ length l
unfolding numbers
numbers_few [] = omega arith
numbers_few (a ∷ []) = omega arith
numbers_few (a ∷ b ∷ []) = omega arith
numbers_few (a ∷ b ∷ c ∷ []) = omega arith
numbers_few (a ∷ b ∷ c ∷ d ∷ l) = let h : 4 * length (numbers l) ≤ length l = numbers_few l in omega arith

filled_well : (k : Kind) (l : List ℕ) → fits k (length l) ≡ true → WellFormed (filled k (drop 2 l))
unfolding fits filled unsigned coordinate
filled_well Kind.begin l e = tt
filled_well Kind.point l e = tt
filled_well Kind.polygon l e =
    let a : length l ≤ 514 = leb-true (length l) 514 (and_left _ _ e) in
    let b : 4 * length (numbers (drop 2 l)) ≤ length (drop 2 l) = numbers_few (drop 2 l) in
    let c : length (drop 2 l) ≡ length l - 2 = length-drop 2 l in
    omega arith
filled_well Kind.end_of_load l e = tt
filled_well Kind.move l e = tt
filled_well Kind.turn l e = tt
filled_well Kind.question l e = tt
filled_well Kind.across l e = tt
filled_well Kind.unknown l e = tt

pub decode_well : (l : List ℕ) → WellFormed (decode l)
unfolding decode
decode_well l = go (all_hex_of l && fits (kind_named l) (length l)) refl
  where
    go : (b : Bool) → (all_hex_of l && fits (kind_named l) (length l)) ≡ b → WellFormed (decode l)
    go true e = rw (e, decode) (filled_well (kind_named l) l (and_right (all_hex_of l) _ e))
    go false e = rw (e, decode) tt
