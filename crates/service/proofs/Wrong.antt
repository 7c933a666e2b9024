-- Five wrong checkers, and that none of them satisfies the statement of the entry: each fails on the stream of document 01.
use Rattle.std.specs.Prelude.{ℕ, ◌≡◌, refl, Bool, true, false, cond, ◌&&◌, List, [], ◌∷◌, ◌++◌, eqb, length, take, drop, replicate}
use Rattle.std.proofs.Common.{sym, ap, ◌∙◌, true≢false}
use Rattle.lines.specs.Lines.{lines, ended}
use Rattle.frame.specs.Frame.{Frame, begin, point, polygon, end_of_load, move, turn, question, across, broken, decode}
use Rattle.hexadecimal.specs.Hex.{digits}
use Rattle.service.specs.Service.{State, nothing, is_loading_of, step}
use Rattle.service.specs.Stream.{Served, served_by, served, Answers}
use Rattle.service.specs.Examples.{everything_computes, input, output}

-- the statement of the entry, of any function in its place
abbrev pub Satisfies : (List ℕ → List ℕ → Served) → Type 0
Satisfies check = (stream room : List ℕ) → Answers stream room (check stream room).code (check stream room).room

-- answers line by line, from a state and a step of one's own
unfoldable pub line_by_line : {S : Type 0} → (S → List ℕ → S × List ℕ) → S → List (List ℕ) → List ℕ
line_by_line next s [] = []
line_by_line next s (l ∷ ls) = let o = next s l in ended o.1 ++ line_by_line next o.0 ls

-- whether an accepted frame is answered with a report
unfoldable pub is_reported : Frame → Bool
is_reported (begin tolerance) = false
is_reported (point x y z) = false
is_reported (polygon ring) = false
is_reported end_of_load = true
is_reported (move number n x y z) = true
is_reported (turn number n) = true
is_reported (question n) = false
is_reported (across m n) = false
is_reported broken = false

-- the right answer to a line, changed by f if it is a report
unfoldable pub on_report : (List ℕ → List ℕ) → List ℕ → List ℕ → List ℕ
on_report f l a = cond (is_reported (decode l) && eqb (length a) 32) (f a) a

unfoldable pub changing : (List ℕ → List ℕ) → State → List ℕ → State × List ℕ
changing f st l = let o = step st l in (o.next, on_report f l o.answer)

-- "a checker refusing each frame"
unfoldable pub refusing : List ℕ → List ℕ → Served
refusing = served_by (λ stream. line_by_line (λ (st : State) l. (st, digits 2 1)) nothing (lines stream))

-- "one reporting 00 always"
unfoldable pub accepting : List ℕ → List ℕ → Served
accepting = served_by (λ stream. line_by_line (changing (λ a. digits 12 0 ++ drop 12 a)) nothing (lines stream))

-- "one that writes nothing"
unfoldable pub silent : List ℕ → List ℕ → Served
silent = served_by (λ stream. [])

-- "one that works at end of load and repeats that report after corrections"
unfoldable pub repeating : List ℕ → List ℕ → Served
repeating = served_by (λ stream. line_by_line again (nothing, []) (lines stream))
  where
    again : State × List ℕ → List ℕ → (State × List ℕ) × List ℕ
    again s l =
        let o = step s.0 l in
        let kept = cond (is_loading_of s.0) o.answer s.1 in
        ((o.next, kept), on_report (λ a. kept) l o.answer)

-- "one that invents the number of faulty polygons"
unfoldable pub inventing : List ℕ → List ℕ → Served
inventing = served_by (λ stream. line_by_line (changing (λ a. take 12 a ++ digits 4 1 ++ drop 16 a)) nothing (lines stream))

-- whether two lists of bytes are the same
unfoldable pub same_bytes : List ℕ → List ℕ → Bool
same_bytes [] [] = true
same_bytes [] (b ∷ s) = false
same_bytes (a ∷ r) [] = false
same_bytes (a ∷ r) (b ∷ s) = cond (eqb a b) (same_bytes r s) false

-- answer room for the 15 lines
abbrev pub answer_room : List ℕ
answer_room = replicate 495 0

-- whether the output printed in document 01 stands first in the room
unfoldable pub prints : (List ℕ → List ℕ → Served) → Bool
prints check = same_bytes (take (length output) (check input answer_room).room) output

served-prints : prints served ≡ true
unfolding everything_computes same_bytes prints
served-prints = refl

-- what does not print it does not satisfy the statement
pub must_print : (check : List ℕ → List ℕ → Served) → prints check ≡ false → Satisfies check → ⊥
unfolding prints
must_print check no-print same =
    true≢false (sym served-prints ∙ ap (λ (r : List ℕ). same_bytes (take (length output) r) output) (sym (same input answer_room).bytes) ∙ no-print)

pub refusing_fails : Satisfies refusing → ⊥
unfolding everything_computes same_bytes prints line_by_line refusing
refusing_fails = must_print refusing refl

pub accepting_fails : Satisfies accepting → ⊥
unfolding everything_computes same_bytes prints line_by_line is_reported on_report changing accepting
accepting_fails = must_print accepting refl

pub silent_fails : Satisfies silent → ⊥
unfolding everything_computes same_bytes prints silent
silent_fails = must_print silent refl

pub repeating_fails : Satisfies repeating → ⊥
unfolding everything_computes same_bytes prints line_by_line is_reported on_report repeating
repeating_fails = must_print repeating refl

pub inventing_fails : Satisfies inventing → ⊥
unfolding everything_computes same_bytes prints line_by_line is_reported on_report changing inventing
inventing_fails = must_print inventing refl
