-- The stream: its lines one after the other, and the refusals of a stream as a whole.
use Rattle.std.specs.Prelude.{ℕ, ◌*◌, ◌≡◌, List, [], ◌∷◌, ◌++◌, ltb, length, drop, ℤ, pos, negsuc}
use Rattle.whole.specs.Lists.{given, first}
use Rattle.lines.specs.Lines.{lines, ended}
use Rattle.service.specs.Service.{State, nothing, step}

-- "one line for each frame, ended by a line feed"
unfoldable pub run : State → List (List ℕ) → List ℕ
run st [] = []
run st (l ∷ ls) = let o = step st l in ended o.answer ++ run o.next ls

-- what is held after some lines
unfoldable pub after : State → List (List ℕ) → State
after st [] = st
after st (l ∷ ls) = after (step st l).next ls

-- "Each call starts with no load running and no building held"
unfoldable pub answers : List ℕ → List ℕ
answers stream = run nothing (lines stream)

-- what comes back: the number, and the answer room
pub record Served : Type 0 where
  pub code : ℤ
  pub room : List ℕ

-- "-1 stream too long; -2 too many lines; -3 answer room shorter than 33 times the lines"
pub data Whole : Type 0 where
  answered : Whole
  too_long : Whole
  too_many : Whole
  too_narrow : Whole

-- "Whole-stream refusals, tested in this order"
unfoldable pub whole_refusal : List ℕ → List ℕ → Whole
whole_refusal stream room =
    first answered
    (given (ltb 65535 (length stream)) too_long ∷
    given (ltb 1024 (length (lines stream))) too_many ∷
    given (ltb (length room) (33 * length (lines stream))) too_narrow ∷
    [])

-- "answer room untouched"; "Otherwise one line for each frame ..; room after the last answer is untouched."
unfoldable pub returns : Whole → List ℕ → List ℕ → Served
returns answered a room = record { code = pos (length a); room = a ++ drop (length a) room }
returns too_long a room = record { code = negsuc 0; room = room }
returns too_many a room = record { code = negsuc 1; room = room }
returns too_narrow a room = record { code = negsuc 2; room = room }

-- the entry, if it had these answers
unfoldable pub served_by : (List ℕ → List ℕ) → List ℕ → List ℕ → Served
served_by answering stream room = returns (whole_refusal stream room) (answering stream) room

-- the entry
unfoldable pub served : List ℕ → List ℕ → Served
served stream room = served_by answers stream room

-- the statement of the entry: the returned number and the whole room after the call are those of the definitions
pub record Answers (stream room : List ℕ) (code : ℤ) (room' : List ℕ) : Type 0 where
  pub number : code ≡ (served stream room).code
  pub bytes : room' ≡ (served stream room).room

-- in the room, right behind the answers to these lines, stands this answer
pub record Stands (lines-before : List (List ℕ)) (answer room' : List ℕ) : Type 0 where
  pub behind : List ℕ
  pub is : room' ≡ run nothing lines-before ++ (ended answer ++ behind)

unfoldable pub stream_computes : Unit {0}
unfolding run answers whole_refusal returns served_by served
stream_computes = tt
