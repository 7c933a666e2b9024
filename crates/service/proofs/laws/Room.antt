-- What the entry does to the answer room.
use Rattle.std.specs.Prelude.{ℕ, ◌*◌, ◌≤◌, ◌<◌, ◌≡◌, refl, Bool, true, false, List, [], ◌∷◌, ◌++◌, ltb, pos, negsuc, drop}
use Rattle.std.proofs.Common.{arith, true≢false, length-append, length-drop}
use Rattle.std.proofs.lemmas.Bool.{false≢true}
use borrow.Author.Tests.{ltb-false, lt-ltb, le-ltb}
use Rattle.std.proofs.Math.ListN.{length}
use Rattle.whole.specs.Lists.{given, first}
use Rattle.lines.specs.Lines.{lines}
use Rattle.service.specs.Stream.{Whole, answered, too_long, too_many, too_narrow, whole_refusal, returns, served_by, served, answers}
use Rattle.service.proofs.laws.Short.{answers-short}

-- whether a stream is answered line by line
unfoldable pub is_answered : Whole → Bool
is_answered answered = true
is_answered too_long = false
is_answered too_many = false
is_answered too_narrow = false

kept : (w : Whole) (a room : List ℕ) → is_answered w ≡ false → (returns w a room).room ≡ room
unfolding is_answered returns
kept answered a room e = absurd (true≢false e)
kept too_long a room e = refl
kept too_many a room e = refl
kept too_narrow a room e = refl

-- "Whole-stream refusals .., answer room untouched"
pub refused_untouched : (stream room : List ℕ) → is_answered (whole_refusal stream room) ≡ false → (served stream room).room ≡ room
unfolding served served_by
refused_untouched stream room e = kept (whole_refusal stream room) (answers stream) room e

-- ---- "tested in this order": which of the four comes back

module _ (stream room : List ℕ) where
  -- "-1 stream too long"
  pub long_stream : 65535 < length stream → served stream room ≡ record { code = negsuc 0; room = room }
  unfolding served served_by whole_refusal returns first given
  long_stream h = rw (lt-ltb 65535 (length stream) h)

  module _ (short : length stream ≤ 65535) where
    -- "-2 too many lines"
    pub many-lines : 1024 < length (lines stream) → served stream room ≡ record { code = negsuc 1; room = room }
    unfolding served served_by whole_refusal returns first given
    many-lines h = rw (le-ltb 65535 (length stream) short, lt-ltb 1024 (length (lines stream)) h)

    module _ (few : length (lines stream) ≤ 1024) where
      -- "-3 answer room shorter than 33 times the lines"
      pub narrow-room : length room < 33 * length (lines stream) → served stream room ≡ record { code = negsuc 2; room = room }
      unfolding served served_by whole_refusal returns first given
      narrow-room h = rw (le-ltb 65535 (length stream) short, le-ltb 1024 (length (lines stream)) few, lt-ltb (length room) (33 * length (lines stream)) h)

      -- "Otherwise one line for each frame ..; room after the last answer is untouched."
      pub answered-stream : 33 * length (lines stream) ≤ length room
          → served stream room ≡ record { code = pos (length (answers stream)); room = answers stream ++ drop (length (answers stream)) room }
      unfolding served served_by whole_refusal returns first given
      answered-stream h = rw (le-ltb 65535 (length stream) short, le-ltb 1024 (length (lines stream)) few, le-ltb (length room) (33 * length (lines stream)) h)

-- ---- the answers and the room

wide : (a b c : Bool) → is_answered (first answered (given a too_long ∷ given b too_many ∷ given c too_narrow ∷ [])) ≡ true → c ≡ false
unfolding is_answered first given
wide true b c e = absurd (false≢true e)
wide false true c e = absurd (false≢true e)
wide false false true e = absurd (false≢true e)
wide false false false e = refl

-- an answered stream has room for its answers
pub answers_fit : (stream room : List ℕ) → is_answered (whole_refusal stream room) ≡ true → length (answers stream) ≤ length room
unfolding whole_refusal
answers_fit stream room e =
    let w = wide (ltb 65535 (length stream)) (ltb 1024 (length (lines stream))) (ltb (length room) (33 * length (lines stream))) e in
    omega (arith, answers-short stream, ltb-false (length room) (33 * length (lines stream)) w)

-- the room keeps its length
pub room_length : (stream room : List ℕ) → length (served stream room).room ≡ length room
unfolding served served_by returns is_answered
room_length stream room = go (whole_refusal stream room) (λ e. answers_fit stream room e)
  where
    go : (w : Whole) → (is_answered w ≡ true → length (answers stream) ≤ length room) → length (returns w (answers stream) room).room ≡ length room
    go answered h =
        let a : length (answers stream) ≤ length room = h refl in
        omega (arith, length-append (answers stream) (drop (length (answers stream)) room), length-drop (length (answers stream)) room)
    go too_long h = refl
    go too_many h = refl
    go too_narrow h = refl
