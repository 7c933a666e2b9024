-- No answer is longer than 33 bytes, so the answers fit the room asked for.
use Rattle.std.specs.Prelude.{ℕ, ◌*◌, ◌≤◌, List, [], ◌∷◌, length, ℤ}
use Rattle.std.proofs.Common.{arith, length-append}
use Rattle.std.proofs.Math.Option.{Option, none, some}
use Rattle.hexadecimal.specs.Hex.{digits}
use Rattle.lines.specs.Lines.{lines, ended}
use Rattle.frame.specs.Frame.{Frame, begin, point, polygon, end_of_load, move, turn, question, across, broken, decode}
use Rattle.answer.specs.Answer.{plain, reported, told}
use Rattle.hexadecimal.specs.laws.Back.{length_digits}
use Rattle.service.specs.declared.Refusal.{Refusal}
use Rattle.service.specs.Service.{State, nothing, report_of, told_of, across_of, answer_to, outcome, refusal, step}
use Rattle.service.specs.Stream.{run, answers}
use Rattle.answer.specs.Answer as Answer

length-plain : (n : ℕ) → length (plain n) ≤ 32
unfolding plain
length-plain n = omega (arith, length_digits 2 n)

length-reported : (check a b faulty : ℕ) (volume : ℤ) → length (reported check a b faulty volume) ≤ 32
unfolding reported digits
length-reported check a b faulty volume = omega arith

length-told : (finding position stamp : ℕ) (part : ℤ) → length (told finding position stamp part) ≤ 32
unfolding told digits
length-told finding position stamp part = omega arith

length-across : (users lowest second : ℕ) → length (Answer.across users lowest second) ≤ 32
unfolding Answer.across digits
length-across users lowest second = omega arith

length_answer : (f : Frame) (st : State) → length (answer_to f st) ≤ 32
unfolding answer_to report_of told_of across_of
length_answer (begin t) st = length-plain 0
length_answer (point x y z) st = length-plain 0
length_answer (polygon ring) st = length-plain 0
length_answer end_of_load st = length-reported _ _ _ _ _
length_answer (move number n x y z) st = length-reported _ _ _ _ _
length_answer (turn number n) st = length-reported _ _ _ _ _
length_answer (question n) st = length-told _ _ _ _
length_answer (across m n) st = length-across _ _ _
length_answer broken st = length-plain 0

length-outcome : (r : Option Refusal) (st : State) (f : Frame) → length (outcome r st f).answer ≤ 32
unfolding outcome
length-outcome none st f = length_answer f _
length-outcome (some r) st f = length-plain _

pub step-short : (st : State) (l : List ℕ) → length (ended (step st l).answer) ≤ 33
unfolding step ended
step-short st l = omega (arith, length-append (step st l).answer (10 ∷ []), length-outcome (refusal st (decode l)) st (decode l))

run_short : (st : State) (ls : List (List ℕ)) → length (run st ls) ≤ 33 * length ls
unfolding run
run_short st [] = omega arith
run_short st (l ∷ ls) =
    let h : length (run (step st l).next ls) ≤ 33 * length ls = run_short (step st l).next ls in
    omega (arith, length-append (ended (step st l).answer) (run (step st l).next ls), step-short st l)

-- "answer room needed: 33 bytes for each line"
pub answers-short : (stream : List ℕ) → length (answers stream) ≤ 33 * length (lines stream)
unfolding answers
answers-short stream = run_short nothing (lines stream)
