-- The frame table: every line is one frame, or broken (refusal 01).
use Rattle.std.specs.Prelude.{ℕ, ◌%◌, Bool, true, false, cond, ◌&&◌, List, [], ◌∷◌, leb, eqb, length, take, drop, ℤ}
use Rattle.hexadecimal.specs.Hex.{all_hex_of, number, signed32}

-- a frame, with its fields; a place is three coordinates
pub data Frame : Type 0 where
  begin : ℕ → Frame
  point : ℤ → ℤ → ℤ → Frame
  polygon : List ℕ → Frame
  end_of_load : Frame
  move : ℕ → ℕ → ℤ → ℤ → ℤ → Frame
  turn : ℕ → ℕ → Frame
  question : ℕ → Frame
  across : ℕ → ℕ → Frame
  broken : Frame

-- the column Kind
pub data Kind : Type 0 where
  begin : Kind
  point : Kind
  polygon : Kind
  end_of_load : Kind
  move : Kind
  turn : Kind
  question : Kind
  across : Kind
  unknown : Kind

-- the kind of a number
unfoldable pub kind_of : ℕ → Kind
kind_of n =
    cond (eqb n 1) Kind.begin
    (cond (eqb n 2) Kind.point
    (cond (eqb n 3) Kind.polygon
    (cond (eqb n 4) Kind.end_of_load
    (cond (eqb n 5) Kind.move
    (cond (eqb n 6) Kind.turn
    (cond (eqb n 7) Kind.question
    (cond (eqb n 12) Kind.across
    Kind.unknown)))))))

-- the column Length: whether a line of n digits is a frame of the kind
unfoldable pub fits : Kind → ℕ → Bool
fits Kind.begin n = eqb n 6
fits Kind.point n = eqb n 26
fits Kind.polygon n = leb n 514 && eqb (n % 4) 2
fits Kind.end_of_load n = eqb n 2
fits Kind.move n = eqb n 38
fits Kind.turn n = eqb n 14
fits Kind.question n = eqb n 6
fits Kind.across n = eqb n 10
fits Kind.unknown n = false

-- an unsigned field of k digits, handed on with the digits after it
unfoldable pub unsigned : {A : Type 0} → ℕ → (ℕ → List ℕ → A) → List ℕ → A
unsigned k rest l = rest (number (take k l)) (drop k l)

-- a coordinate of 8 digits, handed on with the digits after it
unfoldable pub coordinate : {A : Type 0} → (ℤ → List ℕ → A) → List ℕ → A
coordinate rest l = unsigned 8 (λ n. rest (signed32 n)) l

-- point numbers, four digits each
unfoldable pub numbers : List ℕ → List ℕ
numbers [] = []
numbers (a ∷ []) = []
numbers (a ∷ b ∷ []) = []
numbers (a ∷ b ∷ c ∷ []) = []
numbers (a ∷ b ∷ c ∷ d ∷ l) = number (a ∷ b ∷ c ∷ d ∷ []) ∷ numbers l

-- the column Fields: the digits after the kind, field by field
unfoldable pub filled : Kind → List ℕ → Frame
filled Kind.begin l = unsigned 4 (λ tolerance _. Frame.begin tolerance) l
filled Kind.point l = coordinate (λ x. coordinate (λ y. coordinate (λ z _. Frame.point x y z))) l
filled Kind.polygon l = Frame.polygon (numbers l)
filled Kind.end_of_load l = Frame.end_of_load
filled Kind.move l = unsigned 8 (λ n. unsigned 4 (λ p. coordinate (λ x. coordinate (λ y. coordinate (λ z _. Frame.move n p x y z))))) l
filled Kind.turn l = unsigned 8 (λ n. unsigned 4 (λ p _. Frame.turn n p)) l
filled Kind.question l = unsigned 4 (λ p _. Frame.question p) l
filled Kind.across l = unsigned 4 (λ a. unsigned 4 (λ b _. Frame.across a b)) l
filled Kind.unknown l = broken

-- the kind that a line names by its first two digits
unfoldable pub kind_named : List ℕ → Kind
kind_named l = kind_of (number (take 2 l))

-- the frame of a line: broken for "a character, kind or length that the frame table doesn't have"
unfoldable pub decode : List ℕ → Frame
decode l = elim (all_hex_of l && fits (kind_named l) (length l)) [ true ↦ filled (kind_named l) (drop 2 l) | false ↦ broken ]

unfoldable pub frame_computes : Unit {0}
unfolding kind_of fits unsigned coordinate numbers filled kind_named decode
frame_computes = tt
