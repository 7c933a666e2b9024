-- What frame 0C has done: what it wrote is the outcome of its frame, by the edge table that is kept with the building.
use Rattle.std.specs.Prelude.{ℕ, ◌≡◌, take}
use Rattle.std.proofs.Common.{arith, sym, ◌∙◌, subst}
use Rattle.std.proofs.Math.Path.{refl, ap}
use mathlib.Core.List.{List}
use Rattle.lines.specs.Lines.{ended}
use Rattle.frame.specs.Frame.{across}
use Rattle.answer.specs.held.Wrote.{Wrote}
use Rattle.edges.specs.Edges.{edge}
use Rattle.edges.specs.held.Ascending.{Asc}
use Rattle.edges.specs.laws.Ascending.{asc_ascending}
use Rattle.users.specs.EdgeList.{Listed}
use Rattle.users.specs.held.Users.{users_in, Told}
use Rattle.users.proofs.laws.Words.{told-across}
use Rattle.ring.specs.Polygon.{Polygon}
use Rattle.building.specs.declared.Arrays.{Arrays}
use Rattle.building.specs.held.Holds.{held_tables, held_building}
use Rattle.std.proofs.Math.Option.{none}
use Rattle.service.specs.Service.{State, tables_of, refusal, takes, across_of, answer_to}
use Rattle.desk.specs.declared.Desk.{Desk}
use Rattle.desk.specs.held.Holds.{service, Valid, Did, does}
use Rattle.desk.specs.laws.Rows.{service-holds}
use Rattle.desk.specs.laws.Dids.{valid_at, valid_held, did_accepted}
use Rattle.across.specs.held.Across.{Sorted, Points}
use Rattle.answer.specs.Answer as Answer
use Rattle.users.specs.EdgeList as EdgeList

-- what is kept while a building is held is what frame 0C asks for
pub valid_sorted : (a : Arrays) (d : Desk) → Valid a d → Sorted a.table d
valid_sorted a d v =
    record {
      room = λ h. omega (arith, (valid_held a d v h).kept.listed.room, v.sizes.table);
      words = λ h. let l = (valid_held a d v h).kept.listed in subst Asc (sym l.words) (asc_ascending _);
    }

module _ (a : Arrays) (d : Desk) (v : Valid a d) (m n : ℕ) (fit : Points d m n) (c l s : ℕ) (t : Told (users_in (edge m n) (take d.held.edges a.table)) c l s) where
  users_told : Answer.across c l s ≡ across_of m n (held_building a d.held).tables
  unfolding across_of held_building held_tables
  users_told =
      let k = (valid_held a d v fit.holding).kept.listed in
      let few = v.loaded.entered.few in
      let told = told-across k.entries k.starts k.firsts k.number a.turned m n c l s k.layout (omega (arith, fit.first)) (omega (arith, fit.second)) fit.differ
      (subst (λ (w : List ℕ). Told (users_in (edge m n) w) c l s) k.words t) in
      ap (λ (e : Listed). Answer.across e.users e.lowest e.second) (sym (ap (λ (ps : List Polygon). EdgeList.across m n ps) k.present ∙ told))

  pub did_across : refusal (service a d) (across m n) ≡ none → (room room' : List ℕ) (at : ℕ) → Wrote (ended (Answer.across c l s)) room d.at room' at
      → Did (does (service a d) (across m n)) room d.at a room' (record { mode = d.mode; held = d.held; at = at })
  unfolding takes answer_to service tables_of
  did_across row room room' at w =
      did_accepted (service a d) (across m n) room room' d.at a (record { mode = d.mode; held = d.held; at = at }) row
      (valid_at a d v at)
      refl
      (subst (λ (x : List ℕ). Wrote (ended x) room d.at room' at) (users_told ∙ ap (λ (st : State). across_of m n (tables_of st)) (sym (service-holds a d fit.holding))) w)
