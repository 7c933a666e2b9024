-- Why the code refuses a point more.
use Rattle.std.specs.Prelude.{ℕ, ◌≤◌, ◌<◌, ◌≡◌, Bool, true, false, leb, take, ℤ, Ok, Err}
use native.Mathlib.Omega.{arith}
use Rattle.std.proofs.Math.Path.{refl, sym, ap}
use Rattle.std.proofs.Common.{◌∙◌}
use mathlib.Core.List.{List, [], ◌∷◌}
use borrow.Author.Tests.{le-leb, lt-leb}
use Rattle.std.proofs.Math.ListN.{length}
use Rattle.whole.specs.Lists.{given, first_given}
use Rattle.frame.specs.Frame.{point}
use Rattle.space.specs.held.Points.{points_of}
use Rattle.places.specs.held.Places.{point3}
use Rattle.places.specs.Points.{is_far_of, stands, stands_else_of}
use Rattle.taken.specs.laws.Else.{stands-all}
use Rattle.building.specs.declared.Arrays.{Arrays}
use Rattle.building.specs.held.Holds.{held_tables}
use Rattle.building.specs.laws.Load.{tables-points}
use Rattle.service.specs.declared.Refusal.TheVariants.{Misplaced, Beyond, Full, Taken}
use Rattle.service.specs.Service.{State, is_malformed, is_misplaced_of, refusal}
use Rattle.service.proofs.laws.Handlers.{of_point_lem}
use Rattle.desk.specs.declared.Desk.{Desk}
use Rattle.modes.specs.held.Mode.{loads}
use Rattle.desk.specs.held.Holds.{service, Valid}
use Rattle.desk.specs.laws.Rows.{tables, service-loads, not_loading}
use Rattle.load.specs.held.Load.{PointRow}

module _ (points : List ℤ) (d : Desk) (x y z : ℤ) where
  pub point_misplaced : loads d.mode ≡ false → PointRow points d x y z (Err Misplaced)
  unfolding is_malformed is_misplaced_of
  point_misplaced e = not_loading refl (λ st. refl) e

  module _ (l : loads d.mode ≡ true) where
    point-rows : (a : Arrays) → a.points.flat ≡ points → Valid a d
        → refusal (service a d) (point x y z) ≡ first_given (given (is_far_of (point3 x y z)) Beyond ∷ given (leb 512 d.held.points) Full ∷ given (stands_else_of d.held.points (point3 x y z) (take d.held.points (points_of points))) Taken ∷ [])
    unfolding held_tables
    point-rows a s v =
        let n : length (tables a d).points ≡ d.held.points = tables-points v.loaded in
        let m : length (tables a d).points ≤ d.held.points = omega arith in
        ap (λ (st : State). refusal st (point x y z)) (service-loads a d l)
        ∙ of_point_lem (tables a d) x y z
        ∙ ap (λ (k : ℕ). first_given (given (is_far_of (point3 x y z)) Beyond ∷ given (leb 512 k) Full ∷ given (stands (point3 x y z) (tables a d).points) Taken ∷ [])) n
        ∙ ap (λ (b : Bool). first_given (given (is_far_of (point3 x y z)) Beyond ∷ given (leb 512 d.held.points) Full ∷ given b Taken ∷ [])) (sym (stands-all (point3 x y z) d.held.points (tables a d).points m))
        ∙ ap (λ (q : List ℤ). first_given (given (is_far_of (point3 x y z)) Beyond ∷ given (leb 512 d.held.points) Full ∷ given (stands_else_of d.held.points (point3 x y z) (take d.held.points (points_of q))) Taken ∷ [])) s

    pub point-beyond : is_far_of (point3 x y z) ≡ true → PointRow points d x y z (Err Beyond)
    unfolding first_given given
    point-beyond e = record { is = λ a s v. point-rows a s v ∙ (rw e) }

    module _ (near : is_far_of (point3 x y z) ≡ false) where
      pub point-full : 512 ≤ d.held.points → PointRow points d x y z (Err Full)
      unfolding first_given given
      point-full h = record { is = λ a s v. point-rows a s v ∙ (rw (near, le-leb 512 d.held.points h)) }

      pub point-taken : d.held.points < 512 → stands_else_of d.held.points (point3 x y z) (take d.held.points (points_of points)) ≡ true → PointRow points d x y z (Err Taken)
      unfolding first_given given
      point-taken h e = record { is = λ a s v. point-rows a s v ∙ (rw (near, lt-leb 512 d.held.points h, e)) }

      pub point-accepted : d.held.points < 512 → stands_else_of d.held.points (point3 x y z) (take d.held.points (points_of points)) ≡ false → PointRow points d x y z (Ok tt)
      unfolding first_given given
      point-accepted h e = record { is = λ a s v. point-rows a s v ∙ (rw (near, lt-leb 512 d.held.points h, e)); fit = (h, near) }
