-- What the entry answers: each refusal of the whole stream, an empty stream, and any other.
use Rattle.std.specs.Prelude.{ℕ, ◌+◌, ◌*◌, ◌≤◌, ◌<◌, ◌≡◌, refl, List, [], ◌∷◌, ◌++◌, length, drop, ℤ, pos, negsuc}
use Rattle.std.proofs.Common.{arith, sym, ap, ◌∙◌, subst}
use Rattle.std.proofs.lemmas.List.Edits.{sets, sets-eq}
use Rattle.lines.specs.Lines.{lines}
use Rattle.service.specs.Stream.{answers, served, Answers, stream_computes}
use Rattle.service.specs.Stream as Stream
use Rattle.service.proofs.laws.Short.{answers-short}
use Rattle.service.proofs.laws.Room.{long_stream, many-lines, narrow-room, answered-stream}
use Rattle.replies.specs.held.Answered.{Answered}

module _ (stream room : List ℕ) where
  told_by : {s : Stream.Served} {code : ℤ} {room' : List ℕ} → served stream room ≡ s → code ≡ s.code → room' ≡ s.room → Answers stream room code room'
  told_by e c b = record { number = c ∙ ap (λ (q : Stream.Served). q.code) (sym e); bytes = b ∙ ap (λ (q : Stream.Served). q.room) (sym e) }

  pub entry-long : 65535 < length stream → Answers stream room (negsuc 0) room
  entry-long h = told_by (long_stream stream room h) refl refl

  module _ (short : length stream ≤ 65535) where
    pub entry-many : 1024 < length (lines stream) → Answers stream room (negsuc 1) room
    entry-many h = told_by (many-lines stream room short h) refl refl

    module _ (few : length (lines stream) ≤ 1024) where
      pub entry-narrow : length room < 33 * length (lines stream) → Answers stream room (negsuc 2) room
      entry-narrow h = told_by (narrow-room stream room short few h) refl refl

      pub entry-answered : 33 * length (lines stream) ≤ length room → (room' : List ℕ) (r : ℕ) (code : ℤ) → Answered stream room room' r → code ≡ pos r → Answers stream room code room'
      entry-answered h room' r code w e =
          let n : length (answers stream) ≤ length room = omega (arith, answers-short stream) in
          told_by (answered-stream stream room short few h) (e ∙ ap pos w.count) (w.bytes ∙ sets-front (answers stream) room n)
        where
          sets-front : (l m : List ℕ) → length l ≤ length m → sets m 0 l ≡ l ++ drop (length l) m
          sets-front l m h =
              let z : 0 + length l ≡ length l = omega arith in
              sets-eq l m 0 (omega arith) ∙ ap (λ (k : ℕ). l ++ drop k m) z

no_bytes : (s : List ℕ) → length s ≡ 0 → s ≡ []
no_bytes [] h = refl
no_bytes (b ∷ s) h = absurd (omega arith)

-- "An empty stream has no lines and returns 0."
pub entry_empty : (stream room : List ℕ) → length stream ≡ 0 → Answers stream room (pos 0) room
unfolding stream_computes lines
entry_empty stream room h =
    subst (λ (s : List ℕ). Answers s room (pos 0) room) (sym (no_bytes stream h))
    (entry-answered [] room (omega arith) (omega arith) (omega arith) room 0 (pos 0) (record { bytes = refl; count = refl }) refl)
