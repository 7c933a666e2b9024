-- Why the code refuses a question.
use Prim.Native.Nat.{ℕ, ◌≤◌, ◌<◌}
use Rattle.std.specs.Prelude.{◌≡◌, true, false, [], ◌∷◌, leb, Ok, Err}
use Rattle.std.proofs.Math.Option.{Option}
use Rattle.std.proofs.Math.Path.{refl, ap}
use Rattle.std.proofs.Common.{◌∙◌, le-leb}
use Rattle.std.proofs.lemmas.Bool.{lt-leb}
use Rattle.whole.specs.Lists.{given, first_given}
use Rattle.frame.specs.Frame.{question}
use Rattle.building.specs.declared.Arrays.{Arrays}
use Rattle.building.specs.held.Holds.{held_building}
use Rattle.building.specs.laws.Load.{tables-polygons}
use Rattle.service.specs.declared.Refusal.{Refusal}
use Rattle.service.specs.declared.Refusal.TheVariants.{Misplaced, Absent}
use Rattle.service.specs.Service.{State, is_malformed, is_misplaced_of, refusal}
use Rattle.service.proofs.laws.Handlers.{of_question_lem}
use Rattle.desk.specs.declared.Desk.{Desk}
use Rattle.modes.specs.held.Mode.{holds}
use Rattle.desk.specs.held.Holds.{service, Valid}
use Rattle.desk.specs.laws.Rows.{service-holds, not_holding}
use Rattle.asking.specs.held.Asking.{QuestionRow}

module _ (d : Desk) (p : ℕ) where
  pub question_misplaced : holds d.mode ≡ false → QuestionRow d p (Err Misplaced)
  unfolding is_malformed is_misplaced_of
  question_misplaced e = not_holding refl (λ st. refl) e

  module _ (l : holds d.mode ≡ true) where
    question-rows : (a : Arrays) → Valid a d → refusal (service a d) (question p) ≡ first_given (given (leb d.held.polygons p) Absent ∷ [])
    unfolding held_building
    question-rows a v =
        let rows : ℕ → Option Refusal = λ n. first_given (given (leb n p) Absent ∷ []) in
        ap (λ (st : State). refusal st (question p)) (service-holds a d l) ∙ of_question_lem (held_building a d.held) p ∙ ap rows (tables-polygons v.loaded)

    pub question-absent : d.held.polygons ≤ p → QuestionRow d p (Err Absent)
    unfolding first_given given
    question-absent h = record { is = λ a s v. question-rows a v ∙ (rw (le-leb d.held.polygons p h)) }

    pub question-accepted : p < d.held.polygons → QuestionRow d p (Ok tt)
    unfolding first_given given
    question-accepted h = record { is = λ a s v. question-rows a v ∙ (rw (lt-leb d.held.polygons p h)); fit = h }
