-- What each handler has done: what it wrote and what it holds are the outcome of its frame. Here what all frames share.
use Rattle.std.specs.Prelude.{ℕ, ◌+◌, ◌≡◌, refl, true, false, not}
use Rattle.std.proofs.Math.Path.{sym, ap}
use Rattle.std.proofs.Common.{◌∙◌, subst, true≢false}
use Rattle.std.proofs.lemmas.Bool.{false≢true}
use mathlib.Core.List.{List}
use Rattle.std.proofs.Math.ListN.{length}
use Rattle.std.proofs.Math.Option.{Option, none, some}
use Rattle.std.proofs.lemmas.List.Edits.{sets}
use Rattle.lines.specs.Lines.{ended}
use Rattle.frame.specs.Frame.{Frame}
use Rattle.answer.specs.Answer.{plain}
use Rattle.answer.specs.held.Wrote.{Wrote}
use Rattle.building.specs.declared.Scalars.{Scalars}
use Rattle.building.specs.Tables.{Tables, Building}
use Rattle.building.specs.declared.Arrays.{Arrays}
use Rattle.building.specs.held.Holds.{tables_in, held_building, Sizes, Held}
use Rattle.service.specs.declared.Refusal.{Refusal}
use Rattle.service.specs.Service.{State, holding, is_loading_of, is_holding_of, refusal, row_number_of, takes, report_of, answer_to, Outcome, outcome, refused, is_accepted_of}
use Rattle.service.proofs.laws.Fresh.{Passed, passed}
use Rattle.modes.specs.declared.Mode.{Mode}
use Rattle.modes.specs.declared.Mode.TheVariants.{Nothing, Loading, Holding}
use Rattle.desk.specs.declared.Desk.{Desk}
use Rattle.modes.specs.held.Mode.{loads, holds}
use Rattle.desk.specs.held.Holds.{state_of, service, Valid, Did, does}
use Rattle.building.specs.held.Holds as B

-- ---- refused

module _ (a : Arrays) (d : Desk) (v : Valid a d) where
  -- the same is held, whatever the place of the next answer
  pub valid_at : (at : ℕ) → Valid a (record { mode = d.mode; held = d.held; at = at })
  valid_at at = record { loaded = v.loaded; sizes = v.sizes; kept = v.kept; chained = v.chained; fresh = v.fresh }

  pub did_digits : (r : Refusal) (n : ℕ) → n ≡ row_number_of r → (room room' : List ℕ) (at : ℕ) → Wrote (ended (plain n)) room d.at room' at
      → Did (refused r (service a d)) room d.at a room' (record { mode = d.mode; held = d.held; at = at })
  unfolding service
  did_digits r n e room room' at w =
      let k : ended (plain n) ≡ ended (plain (row_number_of r)) = ap (λ (m : ℕ). ended (plain m)) e in
      record { valid = valid_at at; next = refl; wrote = w.bytes ∙ ap (sets room d.at) k; past = w.past ∙ ap (λ (l : List ℕ). d.at + length l) k }

  -- a frame that is refused so
  pub did_refused : (f : Frame) (r : Refusal) (room room' : List ℕ) (d' : Desk) → refusal (service a d) f ≡ some r
      → Did (refused r (service a d)) room d.at a room' d' → Did (does (service a d) f) room d.at a room' d'
  unfolding outcome
  did_refused f r room room' d' e h =
      subst (λ (o : Outcome). Did o room d.at a room' d') (sym (ap (λ (q : Option Refusal). outcome q (service a d) f) e)) h

-- ---- accepted

-- what is held and written after an accepted frame
pub did_accepted : (st : State) (f : Frame) (room room' : List ℕ) (at : ℕ) (a' : Arrays) (d' : Desk) → refusal st f ≡ none
    → Valid a' d' → service a' d' ≡ takes st f → Wrote (ended (answer_to f (takes st f))) room at room' d'.at → Did (does st f) room at a' room' d'
unfolding outcome
did_accepted st f room room' at a' d' e v n w =
    subst (λ (o : Outcome). Did o room at a' room' d') (sym (ap (λ (q : Option Refusal). outcome q st f) e))
    (record { valid = v; next = n; wrote = w.bytes; past = w.past })

pub passed_row : (st : State) (f : Frame) → refusal st f ≡ none → Passed st f
unfolding is_accepted_of
passed_row st f e = passed st f (ap is_accepted_of e)

pub loading_mode : (m : Mode) (t : Tables) (b : Building) → not (is_loading_of (state_of m t b)) ≡ false → loads m ≡ true
unfolding state_of is_loading_of
loading_mode Nothing t b e = absurd (true≢false e)
loading_mode Loading t b e = refl
loading_mode Holding t b e = absurd (true≢false e)

pub holding_mode : (m : Mode) (t : Tables) (b : Building) → not (is_holding_of (state_of m t b)) ≡ false → holds m ≡ true
unfolding state_of is_holding_of
holding_mode Nothing t b e = absurd (true≢false e)
holding_mode Loading t b e = absurd (true≢false e)
holding_mode Holding t b e = refl

pub not-held : Loading ≡ Holding → ⊥
not-held e = false≢true (ap holds e)

pub not-loads : Holding ≡ Loading → ⊥
not-loads e = false≢true (ap loads e)

pub loading_not_nothing : Loading ≡ Nothing → ⊥
loading_not_nothing e = true≢false (ap loads e)

pub holding_not_nothing : Holding ≡ Nothing → ⊥
holding_not_nothing e = true≢false (ap holds e)

-- what a held building asks of the arrays
pub valid_held : (a : Arrays) (d : Desk) → Valid a d → holds d.mode ≡ true → Held a d.held
valid_held a d v h = record { loaded = v.loaded; stamped = v.sizes.stamps; kept = v.kept (is-holding d.mode h) }
  where
    is-holding : (m : Mode) → holds m ≡ true → m ≡ Holding
    is-holding Nothing e = absurd (false≢true e)
    is-holding Loading e = absurd (false≢true e)
    is-holding Holding e = refl

-- ---- a report

held_sizes : (a : Arrays) (s : Scalars) → Held a s → Sizes a
held_sizes a s h = record { stamps = h.stamped; findings = h.kept.found.size; parts = h.kept.summed.size; table = h.kept.table-size; turned = h.kept.turned-size }

module _ (a : Arrays) (d : Desk) (f : Frame) (row : refusal (service a d) f ≡ none) where
  pub did_report : (b : Building) → takes (service a d) f ≡ holding b → answer_to f (holding b) ≡ report_of b.tables
      → (a' : Arrays) (s : Scalars) → B.Did b a' s
      → (room room' : List ℕ) (at : ℕ) → Wrote (ended (report_of (tables_in a' s))) room d.at room' at
      → Did (does (service a d) f) room d.at a' room' (record { mode = Holding; held = s; at = at })
  unfolding service state_of held_building
  did_report b e n a' s h room room' at w =
      let same : tables_in a' s ≡ b.tables = ap (λ (q : Building). q.tables) h.is in
      did_accepted (service a d) f room room' d.at a' (record { mode = Holding; held = s; at = at }) row
      (record { loaded = h.held.loaded; sizes = held_sizes a' s h.held; kept = λ _. h.held.kept; chained = λ q. absurd (not-loads q); fresh = λ q. absurd (holding_not_nothing q) })
      (ap holding h.is ∙ sym e)
      (subst (λ (l : List ℕ). Wrote (ended l) room d.at room' at) (ap report_of same ∙ sym n ∙ ap (answer_to f) (sym e)) w)
