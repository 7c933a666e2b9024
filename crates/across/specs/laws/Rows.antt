-- Why the code refuses frame 0C.
use Rattle.std.specs.Prelude.{ℕ, ◌≤◌, ◌<◌, ◌≡◌, Bool, true, false, ◌||◌, [], ◌∷◌, eqb, leb, Ok, Err}
use Rattle.std.proofs.Math.Option.{Option}
use Rattle.std.proofs.Math.Path.{refl, ap}
use Rattle.std.proofs.Common.{◌∙◌, le-leb, eq-eqb, ne_eqb}
use Rattle.std.proofs.lemmas.Bool.{lt-leb}
use Rattle.whole.specs.Lists.{given, first_given}
use Rattle.frame.specs.Frame.{across}
use Rattle.building.specs.declared.Arrays.{Arrays}
use Rattle.building.specs.held.Holds.{held_building}
use Rattle.building.specs.laws.Load.{tables-points}
use Rattle.service.specs.declared.Refusal.{Refusal}
use Rattle.service.specs.declared.Refusal.TheVariants.{Misplaced, Absent}
use Rattle.service.specs.Service.{State, is_malformed, is_misplaced_of, refusal}
use Rattle.service.proofs.laws.Handlers.{of_across_lem}
use Rattle.desk.specs.declared.Desk.{Desk}
use Rattle.modes.specs.held.Mode.{holds}
use Rattle.desk.specs.held.Holds.{service, Valid}
use Rattle.desk.specs.laws.Rows.{service-holds, not_holding}
use Rattle.across.specs.held.Across.{AcrossRow}

module _ (d : Desk) (m n : ℕ) where
  pub across-misplaced : holds d.mode ≡ false → AcrossRow d m n (Err Misplaced)
  unfolding is_malformed is_misplaced_of
  across-misplaced e = not_holding refl (λ st. refl) e

  module _ (l : holds d.mode ≡ true) where
    -- the one row that is left, by its three tests
    rows : Bool → Bool → Bool → Option Refusal
    rows x y z = first_given (given (x || y || z) Absent ∷ [])

    across-rows : (a : Arrays) → Valid a d → refusal (service a d) (across m n) ≡ rows (leb d.held.points m) (leb d.held.points n) (eqb m n)
    unfolding held_building rows
    across-rows a v =
        ap (λ (st : State). refusal st (across m n)) (service-holds a d l)
        ∙ of_across_lem (held_building a d.held) m n
        ∙ ap (λ (k : ℕ). rows (leb k m) (leb k n) (eqb m n)) (tables-points v.loaded)

    absent_by : (x y z : Bool) → leb d.held.points m ≡ x → leb d.held.points n ≡ y → eqb m n ≡ z → (x || y || z) ≡ true → AcrossRow d m n (Err Absent)
    unfolding first_given given rows
    absent_by x y z p q s e = record { is = λ a _ v. across-rows a v ∙ (λ i. rows (p i) (q i) (s i)) ∙ ap (λ (b : Bool). first_given (given b Absent ∷ [])) e }

    pub first_absent : d.held.points ≤ m → AcrossRow d m n (Err Absent)
    first_absent h = absent_by true (leb d.held.points n) (eqb m n) (le-leb d.held.points m h) refl refl refl

    module _ (f : m < d.held.points) where
      pub second-absent : d.held.points ≤ n → AcrossRow d m n (Err Absent)
      second-absent h = absent_by false true (eqb m n) (lt-leb d.held.points m f) (le-leb d.held.points n h) refl refl

      module _ (s : n < d.held.points) where
        pub equal-absent : m ≡ n → AcrossRow d m n (Err Absent)
        equal-absent e = absent_by false false true (lt-leb d.held.points m f) (lt-leb d.held.points n s) (eq-eqb m n e) refl

        pub across-accepted : (m ≡ n → ⊥) → AcrossRow d m n (Ok tt)
        unfolding first_given given rows
        across-accepted e =
            record {
              is = λ a _ v. across-rows a v ∙ (λ i. rows (lt-leb d.held.points m f i) (lt-leb d.held.points n s i) (ne_eqb m n e i));
              fit = record { holding = l; first = f; second = s; differ = e };
            }
