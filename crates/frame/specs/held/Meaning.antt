-- What a value of the code's `Option<Fields>` says of a line: document 01's frame, with its values.
use Rattle.std.specs.Prelude.{ℕ, zero, suc, ◌<◌, ◌≡◌, true, cond, List, [], ◌∷◌, length, drop, Option, Some, None}
use Rattle.hexadecimal.specs.Hex.{all_hex_of}
use Rattle.frame.specs.Frame.{Frame, Kind, fits, numbers, filled}
use Rattle.frame.specs.declared.Fields.{Fields}
use Rattle.frame.specs.declared.Fields.TheVariants.{Begin, Point, Polygon, EndOfLoad, Move, Turn, Question, Across}

-- the first n numbers of a list, 0 past its end: a list of n numbers, so that the count is told too
unfoldable pub counted : ℕ → List ℕ → List ℕ
counted zero l = []
counted (suc n) [] = 0 ∷ counted n []
counted (suc n) (x ∷ l) = x ∷ counted n l

-- the frame, its ring read from the line; a broken line has none
unfoldable pub meaning : Option Fields → List ℕ → Frame
meaning None l = Frame.broken
meaning (Some (Begin tolerance)) l = Frame.begin tolerance
meaning (Some (Point x y z)) l = Frame.point x y z
meaning (Some (Polygon n)) l = Frame.polygon (counted n (numbers (drop 2 l)))
meaning (Some EndOfLoad) l = Frame.end_of_load
meaning (Some (Move number p x y z)) l = Frame.move number p x y z
meaning (Some (Turn number p)) l = Frame.turn number p
meaning (Some (Question p)) l = Frame.question p
meaning (Some (Across a b)) l = Frame.across a b

-- the line of a polygon frame has an i-th point number
pub record Listed (l : List ℕ) (i : ℕ) : Type 0 where
  pub hex : all_hex_of l ≡ true
  pub below : i < length (numbers (drop 2 l))

-- the frame of a line of digits that names a kind
unfoldable pub shaped : Kind → List ℕ → Frame
shaped k l = cond (fits k (length l)) (filled k (drop 2 l)) Frame.broken
