-- What an accepted line does, and what a refused one: it answers two digits and changes nothing, so striking it out changes no other answer.
use Rattle.std.specs.Prelude.{ℕ, ◌≡◌, refl, Bool, true, false, List, [], ◌∷◌, ◌++◌}
use Rattle.std.proofs.Common.{ap, ◌∙◌, subst, true≢false}
use Rattle.std.proofs.Math.Option.{Option, none, some}
use Rattle.std.proofs.lemmas.Bool.{false≢true}
use Rattle.lines.specs.Lines.{lines, ended, joined}
use Rattle.frame.specs.Frame.{Frame, decode}
use Rattle.answer.specs.Answer.{plain}
use Rattle.service.specs.declared.Refusal.{Refusal}
use Rattle.service.specs.Service.{State, nothing, refusal_number_of, refusal, Outcome, outcome, step, is_accepted_of, accepts, takes, answer_to}
use Rattle.service.specs.Stream.{run, answers, after}
use Rattle.service.specs.Strike.{struck, accepted_answers}

pub refused-outcome : (r : Option Refusal) (st : State) (f : Frame) → is_accepted_of r ≡ false → outcome r st f ≡ record { next = st; answer = plain (refusal_number_of r) }
unfolding is_accepted_of outcome refusal_number_of
refused-outcome none st f e = absurd (true≢false e)
refused-outcome (some r) st f e = refl

-- "Refused: the two digits below, and nothing held changes."
pub refused-line : (st : State) (l : List ℕ) → accepts st l ≡ false → step st l ≡ record { next = st; answer = plain (refusal_number_of (refusal st (decode l))) }
unfolding accepts step
refused-line st l e = refused-outcome (refusal st (decode l)) st (decode l) e

pub refused_keeps : (st : State) (l : List ℕ) → accepts st l ≡ false → (step st l).next ≡ st
refused_keeps st l e = ap (λ (o : Outcome). o.next) (refused-line st l e)

pub accepted_outcome : (r : Option Refusal) (st : State) (f : Frame) → is_accepted_of r ≡ true → outcome r st f ≡ record { next = takes st f; answer = answer_to f (takes st f) }
unfolding is_accepted_of outcome
accepted_outcome none st f e = refl
accepted_outcome (some r) st f e = absurd (false≢true e)

pub accepted_line : (st : State) (l : List ℕ) → accepts st l ≡ true → step st l ≡ record { next = takes st (decode l); answer = answer_to (decode l) (takes st (decode l)) }
unfolding accepts step
accepted_line st l e = accepted_outcome (refusal st (decode l)) st (decode l) e

-- an accepted line is taken
pub accepted_keeps : (st : State) (l : List ℕ) → accepts st l ≡ true → (step st l).next ≡ takes st (decode l)
accepted_keeps st l e = ap (λ (o : Outcome). o.next) (accepted_line st l e)

-- the answer to each line
unfoldable pub answers_to : State → List (List ℕ) → List (List ℕ)
answers_to st [] = []
answers_to st (l ∷ ls) = (step st l).answer ∷ answers_to (step st l).next ls

-- the answer bytes are those answers, each ended by a line feed
pub run-joined : (st : State) (ls : List (List ℕ)) → run st ls ≡ joined (answers_to st ls)
unfolding run joined answers_to
run-joined st [] = refl
run-joined st (l ∷ ls) = ap (λ (s : List ℕ). ended (step st l).answer ++ s) (run-joined (step st l).next ls)

-- striking out all refused lines changes no other answer
pub strike_answers : (st : State) (ls : List (List ℕ)) → answers_to st (struck st ls) ≡ accepted_answers st ls
unfolding struck answers_to accepted_answers
strike_answers st [] = refl
strike_answers st (l ∷ ls) = go (accepts st l) refl (strike_answers (step st l).next ls)
  where
    go : (b : Bool) → accepts st l ≡ b → answers_to (step st l).next (struck (step st l).next ls) ≡ accepted_answers (step st l).next ls
        → answers_to st (struck st (l ∷ ls)) ≡ accepted_answers st (l ∷ ls)
    go true e ih = rw (e, struck, accepted_answers) (ap (λ (as' : List (List ℕ)). (step st l).answer ∷ as') ih)
    go false e ih = rw (e, struck, accepted_answers) (subst (λ (s : State). answers_to s (struck (step st l).next ls) ≡ accepted_answers (step st l).next ls) (refused_keeps st l e) ih)

-- nor what is held
pub strike_after : (st : State) (ls : List (List ℕ)) → after st (struck st ls) ≡ after st ls
unfolding struck after
strike_after st [] = refl
strike_after st (l ∷ ls) = go (accepts st l) refl (strike_after (step st l).next ls)
  where
    go : (b : Bool) → accepts st l ≡ b → after (step st l).next (struck (step st l).next ls) ≡ after (step st l).next ls
        → after st (struck st (l ∷ ls)) ≡ after st (l ∷ ls)
    go true e ih = rw (e, struck) ih
    go false e ih = rw (e, struck) (subst (λ (s : State). after s (struck (step st l).next ls) ≡ after (step st l).next ls) (refused_keeps st l e) ih)

-- a stream whose lines are those left of another's: its answers are the other's answers to those lines
pub struck_stream : (stream left : List ℕ) → lines left ≡ struck nothing (lines stream) → answers left ≡ joined (accepted_answers nothing (lines stream))
unfolding answers
struck_stream stream left e =
    ap (run nothing) e ∙ run-joined nothing (struck nothing (lines stream)) ∙ ap joined (strike_answers nothing (lines stream))
