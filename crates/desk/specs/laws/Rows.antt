-- Why the code refuses a frame: each way through its tests gives the row of document 01's table. Here what all frames share.
use Rattle.std.specs.Prelude.{◌≡◌, true, false, eqb, ℤ}
use Rattle.std.proofs.Math.Path.{refl, ap}
use Rattle.std.proofs.Common.{◌∙◌, true≢false, SFits, w64, to_z, of_z, to_z-of_z}
use Rattle.std.proofs.Math.Bool.{not}
use Rattle.std.proofs.lemmas.Bool.{false≢true}
use Rattle.std.proofs.Math.Option.{Option, none, some}
use Rattle.whole.specs.Lists.{given, first_given}
use Rattle.frame.specs.Frame.{Frame}
use Rattle.space.specs.Space.{Point}
use Rattle.places.specs.held.Places.{point3}
use Rattle.building.specs.Tables.{Tables, Building}
use Rattle.building.specs.declared.Arrays.{Arrays}
use Rattle.building.specs.held.Holds.{tables_in, held_building}
use Rattle.service.specs.declared.Refusal.{Refusal}
use Rattle.service.specs.declared.Refusal.TheVariants.{Malformed, Misplaced, Beyond, Full, Absent, Taken, Late}
use Rattle.service.specs.Service.{State, loading, holding, is_loading_of, is_holding_of, is_malformed, is_misplaced_of, refusal, row_number_of, refusal_number_of, is_accepted_of}
use Rattle.modes.specs.declared.Mode.{Mode}
use Rattle.modes.specs.declared.Mode.TheVariants.{Nothing, Loading, Holding}
use Rattle.desk.specs.declared.Desk.{Desk}
use Rattle.modes.specs.held.Mode.{loads, holds}
use Rattle.desk.specs.held.Holds.{state_of, service}
use Rattle.desk.specs.held.Row.{Refused}

-- 0 alone is acceptance
pub accepted_number : (r : Option Refusal) → eqb (refusal_number_of r) 0 ≡ is_accepted_of r
unfolding row_number_of refusal_number_of is_accepted_of
accepted_number none = refl
accepted_number (some Malformed) = refl
accepted_number (some Misplaced) = refl
accepted_number (some Beyond) = refl
accepted_number (some Full) = refl
accepted_number (some Absent) = refl
accepted_number (some Taken) = refl
accepted_number (some Late) = refl

-- a place as a callee is handed it is the place
pub seen : {B : Type 0} (f : Point → B) {x y z x' y' z' : ℤ} → x' ≡ x → y' ≡ y → z' ≡ z → f (point3 x' y' z') ≡ f (point3 x y z)
seen f p q r = λ i. f (point3 (p i) (q i) (r i))

-- and so is one that is handed over in the code's whole numbers
pub handed : {B : Type 0} (f : Point → B) {x y z : ℤ} → SFits w64 x → SFits w64 y → SFits w64 z → f (point3 (to_z w64 (of_z w64 x)) (to_z w64 (of_z w64 y)) (to_z w64 (of_z w64 z))) ≡ f (point3 x y z)
handed f p q r = seen f (to_z-of_z p) (to_z-of_z q) (to_z-of_z r)

-- ---- the mode

load_state : (m : Mode) (t : Tables) (b : Building) → loads m ≡ true → state_of m t b ≡ loading t
unfolding state_of
load_state Nothing t b e = absurd (false≢true e)
load_state Loading t b e = refl
load_state Holding t b e = absurd (false≢true e)

hold_state : (m : Mode) (t : Tables) (b : Building) → holds m ≡ true → state_of m t b ≡ holding b
unfolding state_of
hold_state Nothing t b e = absurd (false≢true e)
hold_state Loading t b e = absurd (false≢true e)
hold_state Holding t b e = refl

no_load : (m : Mode) (t : Tables) (b : Building) → loads m ≡ false → is_loading_of (state_of m t b) ≡ false
unfolding state_of is_loading_of
no_load Nothing t b e = refl
no_load Loading t b e = absurd (true≢false e)
no_load Holding t b e = refl

no_hold : (m : Mode) (t : Tables) (b : Building) → holds m ≡ false → is_holding_of (state_of m t b) ≡ false
unfolding state_of is_holding_of
no_hold Nothing t b e = refl
no_hold Loading t b e = refl
no_hold Holding t b e = absurd (true≢false e)

pub loads_is : (m : Mode) → loads m ≡ true → m ≡ Loading
loads_is Nothing e = absurd (false≢true e)
loads_is Loading e = refl
loads_is Holding e = absurd (false≢true e)

module _ (a : Arrays) (d : Desk) where
  -- the tables of a load
  abbrev pub tables : Tables
  tables = tables_in a d.held

  pub service-loads : loads d.mode ≡ true → service a d ≡ loading tables
  unfolding service
  service-loads e = load_state d.mode tables (held_building a d.held) e

  pub service-holds : holds d.mode ≡ true → service a d ≡ holding (held_building a d.held)
  unfolding service
  service-holds e = hold_state d.mode tables (held_building a d.held) e

-- ---- refused by row 02

misplaced : (st : State) (f : Frame) → is_malformed f ≡ false → is_misplaced_of st f ≡ true → refusal st f ≡ some Misplaced
unfolding refusal first_given given
misplaced st f e g = rw (e, g)

module _ {d : Desk} {same : Arrays → Type 0} {f : Frame} where
  pub not_loading : is_malformed f ≡ false → ((st : State) → is_misplaced_of st f ≡ not (is_loading_of st)) → loads d.mode ≡ false → Refused d same f Misplaced
  unfolding service
  not_loading m k e = record { is = λ a s v. misplaced (service a d) f m (k (service a d) ∙ ap not (no_load d.mode (tables a d) (held_building a d.held) e)) }

  pub not_holding : is_malformed f ≡ false → ((st : State) → is_misplaced_of st f ≡ not (is_holding_of st)) → holds d.mode ≡ false → Refused d same f Misplaced
  unfolding service
  not_holding m k e = record { is = λ a s v. misplaced (service a d) f m (k (service a d) ∙ ap not (no_hold d.mode (tables a d) (held_building a d.held) e)) }
