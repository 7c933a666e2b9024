-- The table of refusals as each frame meets it: the rows that can refuse it, in their order.
use Rattle.std.specs.Prelude.{ℕ, ◌+◌, ◌≡◌, ◌||◌, List, [], ◌∷◌, eqb, leb, ltb, length, ℤ}
use Rattle.std.proofs.Math.Path.{refl}
use mathlib.Core.Option.{Option, none, some}
use Rattle.whole.specs.Lists.{given, first_given, any}
use Rattle.frame.specs.Frame.{begin, point, polygon, end_of_load, move, turn, question, across, broken}
use Rattle.places.specs.Points.{is_far_of, stands, stands_else_of}
use Rattle.building.specs.Tables.{Tables, Building, entries}
use Rattle.service.specs.declared.Refusal.TheVariants.{Malformed, Beyond, Full, Absent, Taken, Late}
use Rattle.service.specs.Service.{State, loading, holding, service_computes, refusal}

-- rows after the one that is asked may be told otherwise, if they tell the same
rest : {A : Type 0} (x : Option A) (l m : List (Option A)) → first_given l ≡ first_given m → first_given (x ∷ l) ≡ first_given (x ∷ m)
unfolding first_given
rest none l m e = e
rest (some r) l m e = refl

pub of_broken : (st : State) → refusal st broken ≡ some Malformed
unfolding service_computes first_given given
of_broken st = refl

pub of-begin : (st : State) (t : ℕ) → refusal st (begin t) ≡ first_given (given (ltb 1000 t) Beyond ∷ [])
unfolding service_computes first_given given
of-begin st t = rest (given (ltb 1000 t) Beyond) _ [] refl

module _ (t : Tables) where
  pub of_point_lem : (x y z : ℤ) → refusal (loading t) (point x y z)
      ≡ first_given (given (is_far_of (record { x = x; y = y; z = z })) Beyond ∷ given (leb 512 (length t.points)) Full ∷ given (stands (record { x = x; y = y; z = z }) t.points) Taken ∷ [])
  unfolding service_computes first_given given
  of_point_lem x y z = refl

  pub of_polygon_lem : (ring : List ℕ) → refusal (loading t) (polygon ring)
      ≡ first_given (given (any (leb (length t.points)) ring) Absent ∷ given (leb 256 (length t.polygons) || ltb 1024 (entries t.polygons + length ring)) Full ∷ [])
  unfolding service_computes first_given given
  of_polygon_lem ring = rest (given (any (leb (length t.points)) ring) Absent) _ _ (rest (given (leb 256 (length t.polygons) || ltb 1024 (entries t.polygons + length ring)) Full) _ [] refl)

  pub of_end : refusal (loading t) end_of_load ≡ none
  unfolding service_computes first_given given
  of_end = refl

module _ (b : Building) where
  pub of_move_lem : (number n : ℕ) (x y z : ℤ) → refusal (holding b) (move number n x y z)
      ≡ first_given (given (leb number b.last) Late ∷ given (leb (length b.tables.points) n) Absent ∷ given (is_far_of (record { x = x; y = y; z = z })) Beyond ∷ given (stands_else_of n (record { x = x; y = y; z = z }) b.tables.points) Taken ∷ [])
  unfolding service_computes first_given given
  of_move_lem number n x y z =
      rest
      (given (leb number b.last) Late)
      _
      _
      (rest (given (leb (length b.tables.points) n) Absent) _ _ (rest (given (is_far_of (record { x = x; y = y; z = z })) Beyond) _ _ refl))

  pub of_turn_lem : (number n : ℕ) → refusal (holding b) (turn number n) ≡ first_given (given (leb number b.last) Late ∷ given (leb (length b.tables.polygons) n) Absent ∷ [])
  unfolding service_computes first_given given
  of_turn_lem number n = rest (given (leb number b.last) Late) _ _ (rest (given (leb (length b.tables.polygons) n) Absent) _ [] refl)

  pub of_question_lem : (n : ℕ) → refusal (holding b) (question n) ≡ first_given (given (leb (length b.tables.polygons) n) Absent ∷ [])
  unfolding service_computes first_given given
  of_question_lem n = rest (given (leb (length b.tables.polygons) n) Absent) _ [] refl

  pub of_across_lem : (m n : ℕ) → refusal (holding b) (across m n) ≡ first_given (given (leb (length b.tables.points) m || leb (length b.tables.points) n || eqb m n) Absent ∷ [])
  unfolding service_computes first_given given
  of_across_lem m n = rest (given (leb (length b.tables.points) m || leb (length b.tables.points) n || eqb m n) Absent) _ [] refl
