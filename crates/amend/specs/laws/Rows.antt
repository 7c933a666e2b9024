-- Why the code refuses a move.
use Prim.Native.Nat.{ℕ, ◌≤◌, ◌<◌}
use Rattle.std.specs.Prelude.{◌≡◌, true, false, leb, take, Ok, Err}
use Rattle.std.proofs.Math.Option.{Option}
use Rattle.std.proofs.Math.Path.{refl, ap}
use Rattle.std.proofs.Common.{◌∙◌}
use mathlib.Core.List.{List, [], ◌∷◌}
use borrow.Author.Tests.{le-leb, lt-leb}
use Rattle.std.proofs.Math.ListN.{length}
use Rattle.std.proofs.Math.IntN.{ℤ}
use Rattle.whole.specs.Lists.{given, first_given}
use Rattle.frame.specs.Frame.{move}
use Rattle.space.specs.held.Points.{points_of}
use Rattle.places.specs.held.Places.{point3}
use Rattle.places.specs.Points.{is_far_of, stands_else_of}
use Rattle.building.specs.declared.Arrays.{Arrays}
use Rattle.building.specs.held.Holds.{held_tables, held_building}
use Rattle.building.specs.laws.Load.{tables-points}
use Rattle.service.specs.declared.Refusal.{Refusal}
use Rattle.service.specs.declared.Refusal.TheVariants.{Misplaced, Beyond, Absent, Taken, Late}
use Rattle.service.specs.Service.{State, is_malformed, is_misplaced_of, refusal}
use Rattle.service.proofs.laws.Handlers.{of_move_lem}
use Rattle.desk.specs.declared.Desk.{Desk}
use Rattle.modes.specs.held.Mode.{holds}
use Rattle.desk.specs.held.Holds.{service, Valid}
use Rattle.desk.specs.laws.Rows.{tables, service-holds, not_holding}
use Rattle.amend.specs.held.Amend.{MoveRow}

module _ (points : List ℤ) (d : Desk) (number p : ℕ) (x y z : ℤ) where
  pub move_misplaced : holds d.mode ≡ false → MoveRow points d number p x y z (Err Misplaced)
  unfolding is_malformed is_misplaced_of
  move_misplaced e = not_holding refl (λ st. refl) e

  module _ (l : holds d.mode ≡ true) where
    move-rows : (a : Arrays) → a.points.flat ≡ points → Valid a d
        → refusal (service a d) (move number p x y z) ≡ first_given (given (leb number d.held.last) Late ∷ given (leb d.held.points p) Absent ∷ given (is_far_of (point3 x y z)) Beyond ∷ given (stands_else_of p (point3 x y z) (take d.held.points (points_of points))) Taken ∷ [])
    unfolding held_building held_tables
    move-rows a s v =
        let rows : ℕ → List ℤ → Option Refusal = λ n q. first_given (given (leb number d.held.last) Late ∷ given (leb n p) Absent ∷ given (is_far_of (point3 x y z)) Beyond ∷ given (stands_else_of p (point3 x y z) (take d.held.points (points_of q))) Taken ∷ []) in
        let n : length (tables a d).points ≡ d.held.points = tables-points v.loaded in
        ap (λ (st : State). refusal st (move number p x y z)) (service-holds a d l) ∙ of_move_lem (held_building a d.held) number p x y z ∙ (λ i. rows (n i) (s i))

    pub move-late : number ≤ d.held.last → MoveRow points d number p x y z (Err Late)
    unfolding first_given given
    move-late h = record { is = λ a s v. move-rows a s v ∙ (rw (le-leb number d.held.last h)) }

    module _ (timely : d.held.last < number) where
      pub move-absent : d.held.points ≤ p → MoveRow points d number p x y z (Err Absent)
      unfolding first_given given
      move-absent h = record { is = λ a s v. move-rows a s v ∙ (rw (lt-leb number d.held.last timely, le-leb d.held.points p h)) }

      module _ (known : p < d.held.points) where
        pub move-beyond : is_far_of (point3 x y z) ≡ true → MoveRow points d number p x y z (Err Beyond)
        unfolding first_given given
        move-beyond e = record { is = λ a s v. move-rows a s v ∙ (rw (lt-leb number d.held.last timely, lt-leb d.held.points p known, e)) }

        module _ (near : is_far_of (point3 x y z) ≡ false) where
          pub move_taken : stands_else_of p (point3 x y z) (take d.held.points (points_of points)) ≡ true → MoveRow points d number p x y z (Err Taken)
          unfolding first_given given
          move_taken e = record { is = λ a s v. move-rows a s v ∙ (rw (lt-leb number d.held.last timely, lt-leb d.held.points p known, near, e)) }

          pub move-accepted : stands_else_of p (point3 x y z) (take d.held.points (points_of points)) ≡ false → MoveRow points d number p x y z (Ok tt)
          unfolding first_given given
          move-accepted e =
              record {
                is = λ a s v. move-rows a s v ∙ (rw (lt-leb number d.held.last timely, lt-leb d.held.points p known, near, e));
                fit = tt;
              }
