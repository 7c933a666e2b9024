-- Frame 0C of document 02 (xiii): either order of its numbers, its answer in a span by the corrected tables alone, and that what no turn alters no
-- correction alters.
use Rattle.std.specs.Prelude.{ℕ, ◌≡◌, Bool, true, false, ◌||◌, eqb}
use Rattle.std.proofs.Math.Path.{refl, sym, ap}
use Rattle.std.proofs.Common.{◌∙◌}
use mathlib.Core.List.{List, [], ◌∷◌}
use Rattle.std.proofs.Math.Dec.{leb}
use Rattle.std.proofs.Math.ListN.{length}
use Rattle.std.proofs.Math.Option.{Option, none, some}
use Rattle.whole.specs.Lists.{given, first_given, at}
use Rattle.whole.specs.laws.Same.{eqb-sym}
use Rattle.frame.specs.Frame.{Frame, across, decode}
use Rattle.ring.specs.Polygon.{Polygon, turned_over}
use Rattle.building.specs.Tables.{Tables, Building, loaded, moved, turned}
use Rattle.building.specs.Corrections.{Correction, move, turn, corrected, told, corrects}
use Rattle.building.specs.laws.History.{told-loaded, corrects-told}
use Rattle.service.specs.declared.Refusal.{Refusal}
use Rattle.service.specs.declared.Refusal.TheVariants.{Malformed, Misplaced, Beyond, Full, Absent, Taken, Late}
use Rattle.service.specs.Service.{State, holding, tables_of, building_of, is_malformed, is_misplaced_of, is_late, is_absent, is_beyond_of, is_full, is_taken, refusal, takes, across_of, answer_to, Outcome, outcome, step, accepts}
use Rattle.service.specs.Fresh.{fresh_held}
use Rattle.service.specs.Span.{Span, loaded_by, corrections_of, corrected_by, held}
use Rattle.service.proofs.laws.Refusals.{accepted_line}
use Rattle.service.proofs.laws.Handlers.{of_across_lem}
use Rattle.service.proofs.laws.Span.{held-told, corrected_loadable, fresh_held_lem}
use Rattle.users.proofs.laws.Listing.{either_order}

-- ---- either order

-- the list tells the same of two points in either order
either_across : (m n : ℕ) (t : Tables) → across_of m n t ≡ across_of n m t
unfolding across_of
either_across m n t = rw (either_order m n t.polygons)

or_either : (a b c : Bool) → (a || b || c) ≡ (b || a || c)
or_either true true c = refl
or_either true false c = refl
or_either false true c = refl
or_either false false c = refl

module _ (st : State) (m n : ℕ) where
  either_absent : is_absent (tables_of st) (across m n) ≡ is_absent (tables_of st) (across n m)
  unfolding is_absent
  either_absent =
      let k = length (tables_of st).points in
      or_either (leb k m) (leb k n) (eqb m n) ∙ ap (λ (e : Bool). leb k n || leb k m || e) (eqb-sym m n)

  either_refusal : refusal st (across m n) ≡ refusal st (across n m)
  unfolding refusal is_malformed is_misplaced_of is_late is_beyond_of is_full is_taken
  either_refusal =
      let f : Frame = across m n in
      ap (λ (a : Bool). first_given (given (is_malformed f) Malformed ∷ given (is_misplaced_of st f) Misplaced ∷ given (is_late (building_of st) f) Late ∷ given a Absent ∷ given (is_beyond_of f) Beyond ∷ given (is_full (tables_of st) f) Full ∷ given (is_taken (tables_of st) f) Taken ∷ []))
      either_absent

  either_outcome : (r : Option Refusal) → outcome r st (across m n) ≡ outcome r st (across n m)
  unfolding outcome takes answer_to
  either_outcome none = ap (λ (a : List ℕ). record { next = st; answer = a }) (either_across m n (tables_of st))
  either_outcome (some r) = refl

  -- two lines that name two points in the two orders, in any state
  pub either_step : (l l' : List ℕ) → decode l ≡ across m n → decode l' ≡ across n m → step st l ≡ step st l'
  unfolding step
  either_step l l' d d' = rw (d, d') (ap (λ (r : Option Refusal). outcome r st (across m n)) either_refusal ∙ either_outcome (refusal st (across n m)))

-- ---- the answer to 0C in a span

module _ (b : Building) (m n : ℕ) where
  -- whatever its refusal, it is answered as by the same tables just loaded
  outcome-loaded : (r : Option Refusal) → (outcome r (holding b) (across m n)).answer ≡ (outcome r (holding (loaded b.tables)) (across m n)).answer
  unfolding outcome takes answer_to tables_of loaded
  outcome-loaded none = refl
  outcome-loaded (some r) = refl

  refusal-loaded : refusal (holding b) (across m n) ≡ refusal (holding (loaded b.tables)) (across m n)
  unfolding loaded
  refusal-loaded = of_across_lem b m n ∙ sym (of_across_lem (loaded b.tables) m n)

  module _ (l : List ℕ) (d : decode l ≡ across m n) where
    across-loaded : (step (holding b) l).answer ≡ (step (holding (loaded b.tables)) l).answer
    unfolding step
    across-loaded = rw d (outcome-loaded (refusal (holding b) (across m n)) ∙ ap (λ (r : Option Refusal). (outcome r (holding (loaded b.tables)) (across m n)).answer) refusal-loaded)

    across-answer : accepts (holding b) l ≡ true → (step (holding b) l).answer ≡ across_of m n b.tables
    unfolding answer_to takes tables_of
    across-answer a = ap (λ (o : Outcome). o.answer) (accepted_line (holding b) l a) ∙ ap (λ (f : Frame). answer_to f (takes (holding b) f)) d

module _ (before : List (List ℕ)) (end : List ℕ) (since : List (List ℕ)) (s : Span before end since) (l : List ℕ) (m n : ℕ) (d : decode l ≡ across m n) where
  -- a 0C, refused or accepted, is answered as after a fresh load of the corrected tables
  pub across_fresh : (step (held before end since) l).answer ≡ (step (fresh_held (corrected_by before since)) l).answer
  unfolding corrected_by told
  across_fresh =
      let b : Building = told (loaded_by before) (corrections_of before since) in
      let e : held before end since ≡ holding b = held-told before end since s in
      let f : fresh_held (corrected_by before since) ≡ holding (loaded b.tables) = fresh_held_lem (corrected_by before since) (corrected_loadable before end since s) in
      rw (e, f) (across-loaded b m n l d)

  -- and an accepted one from the corrected tables
  pub across-told : accepts (held before end since) l ≡ true → (step (held before end since) l).answer ≡ across_of m n (corrected_by before since)
  unfolding corrected_by told
  across-told a =
      let b : Building = told (loaded_by before) (corrections_of before since) in
      let e : held before end since ≡ holding b = held-told before end since s in
      rw e (across-answer b m n l d (rw e at a))

-- ---- what no turn alters

-- f of the polygons, if no turn alters it, is after any corrections what it was when they were loaded
module _ {A : Type 0} (f : List Polygon → A) (unaltered : (n : ℕ) (ps : List Polygon) → f (at n turned_over ps) ≡ f ps) where
  pub corrections_keep : (t : Tables) (h : List Correction) → f (corrected t h).polygons ≡ f t.polygons
  unfolding told loaded corrects moved turned
  corrections_keep t [] = ap (λ (b : Building). f b.tables.polygons) (told-loaded t)
  corrections_keep t (move number n p ∷ h) = ap (λ (b : Building). f b.tables.polygons) (sym (corrects-told t h (move number n p))) ∙ corrections_keep t h
  corrections_keep t (turn number n ∷ h) =
      ap (λ (b : Building). f b.tables.polygons) (sym (corrects-told t h (turn number n)))
      ∙ unaltered n (corrected t h).polygons
      ∙ corrections_keep t h
