-- What a turn has done: what it wrote and what it holds are the outcome of its frame.
use Rattle.std.specs.Prelude.{ℕ, ◌<◌, ◌≡◌, true, List, length}
use Rattle.std.proofs.Common.{arith, sym, ◌∙◌}
use Rattle.std.proofs.Math.Path.{refl, ap}
use Rattle.std.proofs.Math.Bool.{false}
use borrow.Author.Tests.{leb-false}
use Rattle.std.proofs.Math.Dec.{leb}
use Rattle.lines.specs.Lines.{ended}
use Rattle.frame.specs.Frame.{turn}
use Rattle.answer.specs.held.Wrote.{Wrote}
use Rattle.building.specs.declared.Scalars.{Scalars}
use Rattle.building.specs.Tables.{turned}
use Rattle.building.specs.declared.Arrays.{Arrays}
use Rattle.building.specs.held.Holds.{tables_in, held_tables, held_building}
use Rattle.building.specs.laws.Load.{tables-polygons}
use Rattle.std.proofs.Math.Option.{none}
use Rattle.service.specs.Service.{State, tables_of, building_of, is_misplaced_of, is_absent, refusal, takes, report_of, answer_to}
use Rattle.service.proofs.laws.Fresh.{Passed}
use Rattle.modes.specs.declared.Mode.TheVariants.{Holding}
use Rattle.desk.specs.declared.Desk.{Desk}
use Rattle.modes.specs.held.Mode.{holds}
use Rattle.desk.specs.held.Holds.{service, Valid, Did, does}
use Rattle.desk.specs.laws.Rows.{tables, service-holds}
use Rattle.desk.specs.laws.Dids.{passed_row, holding_mode, did_report}
use Rattle.building.specs.held.Holds as B

module _ (a : Arrays) (d : Desk) (v : Valid a d) (number p : ℕ) (row : refusal (service a d) (turn number p) ≡ none) where
  turn_passed : Passed (service a d) (turn number p)
  turn_passed = passed_row (service a d) (turn number p) row

  pub turn_holds : holds d.mode ≡ true
  unfolding is_misplaced_of service
  turn_holds = holding_mode d.mode (tables a d) (held_building a d.held) turn_passed.placed

  pub turn_known : p < d.held.polygons
  unfolding is_absent tables_of held_building
  turn_known =
      let k : leb (length (tables a d).polygons) p ≡ false = ap (λ (st : State). leb (length (tables_of st).polygons) p) (sym (service-holds a d turn_holds)) ∙ turn_passed.known in
      omega (arith, leb-false (length (tables a d).polygons) p k, tables-polygons v.loaded)

  pub did_turn : (a' : Arrays) (s : Scalars) → B.Did (turned number p (held_building a d.held)) a' s
      → (room room' : List ℕ) (at : ℕ) → Wrote (ended (report_of (tables_in a' s))) room d.at room' at
      → Did (does (service a d) (turn number p)) room d.at a' room' (record { mode = Holding; held = s; at = at })
  unfolding takes answer_to tables_of building_of
  did_turn = did_report a d (turn number p) row (turned number p (held_building a d.held)) (ap (λ (st : State). takes st (turn number p)) (service-holds a d turn_holds)) refl
