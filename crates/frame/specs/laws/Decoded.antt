-- Laws of the decoder: what its answer says, kind by kind, and that the line's frame settles the answer.
use Rattle.std.specs.Prelude.{ℕ, zero, suc, ◌+◌, ◌*◌, ◌-◌, ◌/◌, ◌%◌, ◌≤◌, ◌<◌, ◌≡◌, Bool, true, cond, ◌&&◌, ℤ, take, get_or, Option, Some, None}
use Rattle.std.proofs.Common.{arith, ◌∙◌}
use Rattle.std.proofs.Math.Path.{refl, sym, ap}
use Rattle.std.proofs.Math.Bool.{false}
use mathlib.Core.List.{List, [], ◌∷◌}
use borrow.Author.Tests.{eq-eqb, ne_eqb, le-leb, lt-leb}
use Rattle.std.proofs.Math.ListN.{length, drop, length-drop}
use Rattle.std.proofs.Math.Seq.{drop-drop}
use Rattle.hexadecimal.specs.Hex.{all_hex_of, number, signed32}
use Rattle.frame.specs.Frame.{Frame, begin, point, polygon, end_of_load, move, turn, question, across, broken, Kind, kind_of, kind_named, fits, unsigned, coordinate, numbers, filled, decode}
use Rattle.whole.specs.laws.Bools.{and_left, and_false}
use Rattle.frame.specs.laws.RoundTrip.{numbers_few, decode_well}
use Rattle.frame.specs.declared.Fields.{Fields}
use Rattle.frame.specs.declared.Fields.TheVariants.{Begin, Point, Polygon, EndOfLoad, Move, Turn, Question, Across}
use Rattle.frame.specs.held.Meaning.{counted, meaning, Listed, shaped}

-- ---- point numbers

pub length-numbers : (l : List ℕ) → length (numbers l) ≡ length l / 4
unfolding numbers
length-numbers [] = refl
length-numbers (a ∷ []) = refl
length-numbers (a ∷ b ∷ []) = refl
length-numbers (a ∷ b ∷ c ∷ []) = refl
length-numbers (a ∷ b ∷ c ∷ d ∷ l) = let h : length (numbers l) ≡ length l / 4 = length-numbers l in omega arith

-- the i-th number stands in its four digits
pub numbers-at : (l : List ℕ) (i : ℕ) → i < length (numbers l) → get_or (numbers l) i 0 ≡ number (take 4 (drop (4 * i) l))
unfolding numbers
numbers-at [] i h = absurd (omega arith)
numbers-at (a ∷ []) i h = absurd (omega arith)
numbers-at (a ∷ b ∷ []) i h = absurd (omega arith)
numbers-at (a ∷ b ∷ c ∷ []) i h = absurd (omega arith)
numbers-at (a ∷ b ∷ c ∷ d ∷ l) zero h = refl
numbers-at (a ∷ b ∷ c ∷ d ∷ l) (suc i) h =
    let e : 4 * suc i ≡ suc (suc (suc (suc (4 * i)))) = omega arith in
    numbers-at l i (omega arith) ∙ rw e

length-counted : (n : ℕ) (l : List ℕ) → length (counted n l) ≡ n
unfolding counted
length-counted zero l = refl
length-counted (suc n) [] = ap suc (length-counted n [])
length-counted (suc n) (x ∷ l) = ap suc (length-counted n l)

counted-all : (l : List ℕ) → counted (length l) l ≡ l
unfolding counted
counted-all [] = refl
counted-all (x ∷ l) = ap (λ (k : List ℕ). x ∷ k) (counted-all l)

-- ---- a frame, kind by kind

shaped-filled : (k : Kind) (l : List ℕ) → fits k (length l) ≡ true → filled k (drop 2 l) ≡ shaped k l
unfolding shaped
shaped-filled k l h = rw h

pub shaped_broken : (k : Kind) (l : List ℕ) → fits k (length l) ≡ false → broken ≡ shaped k l
unfolding shaped
shaped_broken k l h = rw h

-- the unsigned field of k digits at an offset
abbrev pub field_of : ℕ → ℕ → List ℕ → ℕ
field_of k at l = number (take k (drop at l))

-- the coordinate at an offset
abbrev pub coordinate-of : ℕ → List ℕ → ℤ
coordinate-of at l = signed32 (number (take 8 (drop at l)))

module _ (l : List ℕ) where
  pub begin_is : {t : ℕ} → length l ≡ 6 → t ≡ field_of 4 2 l → begin t ≡ shaped Kind.begin l
  unfolding fits filled unsigned
  begin_is h e = ap begin e ∙ shaped-filled Kind.begin l (eq-eqb (length l) 6 h)

  pub question_is : {p : ℕ} → length l ≡ 6 → p ≡ field_of 4 2 l → question p ≡ shaped Kind.question l
  unfolding fits filled unsigned
  question_is h e = ap question e ∙ shaped-filled Kind.question l (eq-eqb (length l) 6 h)

  pub end_is : length l ≡ 2 → end_of_load ≡ shaped Kind.end_of_load l
  unfolding fits filled
  end_is h = shaped-filled Kind.end_of_load l (eq-eqb (length l) 2 h)

  -- a place read from an offset, whatever frame it is for
  place_is : (f : ℤ → ℤ → ℤ → Frame) (at : ℕ) {x y z : ℤ} → x ≡ coordinate-of at l → y ≡ coordinate-of (at + 8) l → z ≡ coordinate-of (at + 8 + 8) l
      → f x y z ≡ coordinate (λ x. coordinate (λ y. coordinate (λ z _. f x y z))) (drop at l)
  unfolding coordinate unsigned
  place_is f at p q r =
      let a : drop 8 (drop at l) ≡ drop (at + 8) l = drop-drop 8 at l in
      let b : drop 8 (drop (at + 8) l) ≡ drop (at + 8 + 8) l = drop-drop 8 (at + 8) l in
      rw (a, b) (λ i. f (p i) (q i) (r i))

  pub point_is : {x y z : ℤ} → length l ≡ 26 → x ≡ coordinate-of 2 l → y ≡ coordinate-of 10 l → z ≡ coordinate-of 18 l → point x y z ≡ shaped Kind.point l
  unfolding fits filled
  point_is h p q r = place_is point 2 p q r ∙ shaped-filled Kind.point l (eq-eqb (length l) 26 h)

  pub turn_is : {n p : ℕ} → length l ≡ 14 → n ≡ field_of 8 2 l → p ≡ field_of 4 10 l → turn n p ≡ shaped Kind.turn l
  unfolding fits filled unsigned
  turn_is h d e =
      let a : drop 8 (drop 2 l) ≡ drop 10 l = drop-drop 8 2 l in
      (λ i. turn (d i) (e i)) ∙ ap (λ (k : List ℕ). turn (field_of 8 2 l) (number (take 4 k))) (sym a) ∙ shaped-filled Kind.turn l (eq-eqb (length l) 14 h)

  pub across_is : {m n : ℕ} → length l ≡ 10 → m ≡ field_of 4 2 l → n ≡ field_of 4 6 l → across m n ≡ shaped Kind.across l
  unfolding fits filled unsigned
  across_is h d e =
      let a : drop 4 (drop 2 l) ≡ drop 6 l = drop-drop 4 2 l in
      (λ i. across (d i) (e i)) ∙ ap (λ (k : List ℕ). across (field_of 4 2 l) (number (take 4 k))) (sym a) ∙ shaped-filled Kind.across l (eq-eqb (length l) 10 h)

  pub move_is : {n p : ℕ} {x y z : ℤ} → length l ≡ 38 → n ≡ field_of 8 2 l → p ≡ field_of 4 10 l
      → x ≡ coordinate-of 14 l → y ≡ coordinate-of 22 l → z ≡ coordinate-of 30 l → move n p x y z ≡ shaped Kind.move l
  unfolding fits filled unsigned
  move_is {n} {p} {x} {y} {z} h d e a b c =
      let u : drop 8 (drop 2 l) ≡ drop 10 l = drop-drop 8 2 l in
      let v : drop 4 (drop 10 l) ≡ drop 14 l = drop-drop 4 10 l in
      (λ i. move (d i) (e i) x y z)
      ∙ place_is (move (field_of 8 2 l) (field_of 4 10 l)) 14 a b c
      ∙ rw (← v, ← u) (shaped-filled Kind.move l (eq-eqb (length l) 38 h))

  pub polygon_is : {n : ℕ} → length l ≤ 514 → length l % 4 ≡ 2 → n ≡ (length l - 2) / 4 → polygon (counted n (numbers (drop 2 l))) ≡ shaped Kind.polygon l
  unfolding fits filled
  polygon_is {n} h g e =
      let a : length (numbers (drop 2 l)) ≡ length (drop 2 l) / 4 = length-numbers (drop 2 l) in
      let b : length (drop 2 l) ≡ length l - 2 = length-drop 2 l in
      let d : n ≡ length (numbers (drop 2 l)) = e ∙ ap (λ (m : ℕ). m / 4) (sym b) ∙ sym a in
      ap (λ (m : ℕ). polygon (counted m (numbers (drop 2 l)))) d
      ∙ ap polygon (counted-all (numbers (drop 2 l)))
      ∙ shaped-filled Kind.polygon l (rw (le-leb (length l) 514 h, g))

  pub polygon-long : 514 < length l → broken ≡ shaped Kind.polygon l
  unfolding fits
  polygon-long h = shaped_broken Kind.polygon l (rw (lt-leb (length l) 514 h))

  pub polygon-odd : length l ≤ 514 → (length l % 4 ≡ 2 → ⊥) → broken ≡ shaped Kind.polygon l
  unfolding fits
  polygon-odd h g = shaped_broken Kind.polygon l (rw (le-leb (length l) 514 h, ne_eqb (length l % 4) 2 g))

-- ---- a line by its kind

short-fits : (k : Kind) (n : ℕ) → n < 2 → fits k n ≡ false
unfolding fits
short-fits Kind.begin n h = ne_eqb n 6 (λ e. omega arith)
short-fits Kind.point n h = ne_eqb n 26 (λ e. omega arith)
short-fits Kind.polygon n h =
    let a : n ≤ 514 = omega arith in
    rw (le-leb n 514 a) (ne_eqb (n % 4) 2 (λ e. omega arith))
short-fits Kind.end_of_load n h = ne_eqb n 2 (λ e. omega arith)
short-fits Kind.move n h = ne_eqb n 38 (λ e. omega arith)
short-fits Kind.turn n h = ne_eqb n 14 (λ e. omega arith)
short-fits Kind.question n h = ne_eqb n 6 (λ e. omega arith)
short-fits Kind.across n h = ne_eqb n 10 (λ e. omega arith)
short-fits Kind.unknown n h = refl

module _ (l : List ℕ) where
  pub decode-short : length l < 2 → broken ≡ decode l
  unfolding decode
  decode-short h =
      let a : (all_hex_of l && fits (kind_named l) (length l)) ≡ false = rw (short-fits (kind_named l) (length l) h) (and_false (all_hex_of l)) in
      rw (a, decode)

  pub decode_other : all_hex_of l ≡ false → broken ≡ decode l
  unfolding decode
  decode_other h = rw (h, decode)

  -- n is the number of the line's first two digits
  pub decode_kind : {n : ℕ} (k : Kind) → all_hex_of l ≡ true → n ≡ number (take 2 l) → kind_of n ≡ k → shaped k l ≡ decode l
  unfolding decode shaped kind_named
  decode_kind {n} k h e g = go (fits k (length l)) refl
    where
      named : kind_named l ≡ k
      named = ap kind_of (sym e) ∙ g

      go : (c : Bool) → fits k (length l) ≡ c → cond (fits k (length l)) (filled k (drop 2 l)) broken ≡ decode l
      go true d = rw (h, named, d, decode) (ap (λ (m : Kind). filled m (drop 2 l)) (sym named))
      go false d = rw (h, named, d, decode)

  pub decode_unknown : {n : ℕ} → all_hex_of l ≡ true → n ≡ number (take 2 l) → kind_of n ≡ Kind.unknown → broken ≡ decode l
  unfolding shaped fits
  decode_unknown h e g = decode_kind Kind.unknown h e g

pub kind_unknown : (n : ℕ) → (n ≡ 1 → ⊥) → (n ≡ 2 → ⊥) → (n ≡ 3 → ⊥) → (n ≡ 4 → ⊥) → (n ≡ 5 → ⊥) → (n ≡ 6 → ⊥) → (n ≡ 7 → ⊥) → (n ≡ 12 → ⊥) → kind_of n ≡ Kind.unknown
unfolding kind_of
kind_unknown n a b c d e f g h =
    rw (ne_eqb n 1 a, ne_eqb n 2 b, ne_eqb n 3 c, ne_eqb n 4 d, ne_eqb n 5 e, ne_eqb n 6 f, ne_eqb n 7 g, ne_eqb n 12 h)

-- ---- the frame of a line settles the decoder's answer

unfoldable pub fields_of : Frame → Option Fields
fields_of (begin t) = Some (Begin t)
fields_of (point x y z) = Some (Point x y z)
fields_of (polygon ring) = Some (Polygon (length ring))
fields_of end_of_load = Some EndOfLoad
fields_of (move n p x y z) = Some (Move n p x y z)
fields_of (turn n p) = Some (Turn n p)
fields_of (question p) = Some (Question p)
fields_of (across a b) = Some (Across a b)
fields_of broken = None

fields_back : (r : Option Fields) (l : List ℕ) → fields_of (meaning r l) ≡ r
unfolding fields_of meaning
fields_back (Some (Begin t)) l = refl
fields_back (Some (Point x y z)) l = refl
fields_back (Some (Polygon n)) l = ap (λ (m : ℕ). Some (Polygon m)) (length-counted n (numbers (drop 2 l)))
fields_back (Some EndOfLoad) l = refl
fields_back (Some (Move n p x y z)) l = refl
fields_back (Some (Turn n p)) l = refl
fields_back (Some (Question p)) l = refl
fields_back (Some (Across a b)) l = refl
fields_back None l = refl

pub meaning_tells : (r s : Option Fields) (l : List ℕ) → meaning r l ≡ meaning s l → r ≡ s
meaning_tells r s l e = sym (fields_back r l) ∙ ap fields_of e ∙ fields_back s l

-- what a caller knows of the line once it has matched the answer r as s
pub decoded_as : (l : List ℕ) (r s : Option Fields) → meaning r l ≡ decode l → r ≡ s → decode l ≡ meaning s l
decoded_as l r s e p = sym e ∙ ap (λ (x : Option Fields). meaning x l) p

-- ---- the line of a polygon frame

filled_ring : (k : Kind) (ring l : List ℕ) → polygon ring ≡ filled k l → ring ≡ numbers l
unfolding filled unsigned coordinate
filled_ring Kind.begin ring l e = cc
filled_ring Kind.point ring l e = cc
filled_ring Kind.polygon ring l e = cc
filled_ring Kind.end_of_load ring l e = cc
filled_ring Kind.move ring l e = cc
filled_ring Kind.turn ring l e = cc
filled_ring Kind.question ring l e = cc
filled_ring Kind.across ring l e = cc
filled_ring Kind.unknown ring l e = cc

decode_ring : (ring l : List ℕ) → polygon ring ≡ decode l → (all_hex_of l ≡ true) × (ring ≡ numbers (drop 2 l))
unfolding decode
decode_ring ring l = go (all_hex_of l && fits (kind_named l) (length l)) refl
  where
    go : (b : Bool) → (all_hex_of l && fits (kind_named l) (length l)) ≡ b → polygon ring ≡ decode l → (all_hex_of l ≡ true) × (ring ≡ numbers (drop 2 l))
    go true d e = (and_left (all_hex_of l) (fits (kind_named l) (length l)) d, filled_ring (kind_named l) ring (drop 2 l) (rw (d, decode) at e))
    go false d e = let f : polygon ring ≡ broken = rw (d, decode) at e in let z : ◌≡◌ {A = ℕ} 0 1 = cc in absurd (omega arith)

module _ (l : List ℕ) (n : ℕ) (e : meaning (Some (Polygon n)) l ≡ decode l) where
  ring_is : (all_hex_of l ≡ true) × (counted n (numbers (drop 2 l)) ≡ numbers (drop 2 l))
  unfolding meaning
  ring_is = decode_ring (counted n (numbers (drop 2 l))) l e

  pub polygon-count : n ≡ length (numbers (drop 2 l))
  polygon-count = sym (length-counted n (numbers (drop 2 l))) ∙ ap length ring_is.1

  pub polygon_ring : decode l ≡ polygon (numbers (drop 2 l))
  unfolding meaning
  polygon_ring = sym e ∙ ap polygon ring_is.1

  pub polygon_few : n ≤ 128
  polygon_few = let h : length (numbers (drop 2 l)) ≤ 128 = rw polygon_ring at (decode_well l) in omega (arith, polygon-count)

  pub polygon-listed : (i : ℕ) → i < n → Listed l i
  polygon-listed i h = record { hex = ring_is.0; below = omega (arith, polygon-count) }

-- ---- where the i-th point number stands

module _ (l : List ℕ) (i : ℕ) (h : Listed l i) where
  pub entry-inside : 2 + 4 * i + 4 ≤ length l
  entry-inside =
      let a : 4 * length (numbers (drop 2 l)) ≤ length (drop 2 l) = numbers_few (drop 2 l) in
      let b : length (drop 2 l) ≡ length l - 2 = length-drop 2 l in
      omega (arith, h.below)

  pub entry_is : field_of 4 (2 + 4 * i) l ≡ get_or (numbers (drop 2 l)) i 0
  entry_is = ap (λ (k : List ℕ). number (take 4 k)) (sym (drop-drop (4 * i) 2 l)) ∙ sym (numbers-at (drop 2 l) i h.below)
