-- Why the code refuses a turn.
use Prim.Native.Nat.{ℕ, ◌≤◌, ◌<◌}
use Rattle.std.specs.Prelude.{◌≡◌, true, false, [], ◌∷◌, leb, Ok, Err}
use Rattle.std.proofs.Math.Option.{Option}
use Rattle.std.proofs.Math.Path.{refl, ap}
use Rattle.std.proofs.Common.{◌∙◌}
use borrow.Author.Tests.{le-leb, lt-leb}
use Rattle.whole.specs.Lists.{given, first_given}
use Rattle.frame.specs.Frame.{turn}
use Rattle.building.specs.declared.Arrays.{Arrays}
use Rattle.building.specs.held.Holds.{held_building}
use Rattle.building.specs.laws.Load.{tables-polygons}
use Rattle.service.specs.declared.Refusal.{Refusal}
use Rattle.service.specs.declared.Refusal.TheVariants.{Misplaced, Absent, Late}
use Rattle.service.specs.Service.{State, is_malformed, is_misplaced_of, refusal}
use Rattle.service.proofs.laws.Handlers.{of_turn_lem}
use Rattle.desk.specs.declared.Desk.{Desk}
use Rattle.modes.specs.held.Mode.{holds}
use Rattle.desk.specs.held.Holds.{service, Valid}
use Rattle.desk.specs.laws.Rows.{service-holds, not_holding}
use Rattle.turning.specs.held.Turning.{TurnRow}

module _ (d : Desk) (number p : ℕ) where
  pub turn-misplaced : holds d.mode ≡ false → TurnRow d number p (Err Misplaced)
  unfolding is_malformed is_misplaced_of
  turn-misplaced e = not_holding refl (λ st. refl) e

  module _ (l : holds d.mode ≡ true) where
    turn-rows : (a : Arrays) → Valid a d → refusal (service a d) (turn number p) ≡ first_given (given (leb number d.held.last) Late ∷ given (leb d.held.polygons p) Absent ∷ [])
    unfolding held_building
    turn-rows a v =
        let rows : ℕ → Option Refusal = λ n. first_given (given (leb number d.held.last) Late ∷ given (leb n p) Absent ∷ []) in
        ap (λ (st : State). refusal st (turn number p)) (service-holds a d l) ∙ of_turn_lem (held_building a d.held) number p ∙ ap rows (tables-polygons v.loaded)

    pub turn-late : number ≤ d.held.last → TurnRow d number p (Err Late)
    unfolding first_given given
    turn-late h = record { is = λ a s v. turn-rows a v ∙ (rw (le-leb number d.held.last h)) }

    module _ (timely : d.held.last < number) where
      pub turn-absent : d.held.polygons ≤ p → TurnRow d number p (Err Absent)
      unfolding first_given given
      turn-absent h = record { is = λ a s v. turn-rows a v ∙ (rw (lt-leb number d.held.last timely, le-leb d.held.polygons p h)) }

      pub turn-accepted : p < d.held.polygons → TurnRow d number p (Ok tt)
      unfolding first_given given
      turn-accepted h = record { is = λ a s v. turn-rows a v ∙ (rw (lt-leb number d.held.last timely, lt-leb d.held.polygons p h)); fit = tt }
