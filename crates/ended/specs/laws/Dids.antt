-- What end of load has done: what it wrote and what it holds are the outcome of its frame.
use Rattle.std.specs.Prelude.{ℕ, ◌≡◌, true, List}
use Rattle.std.proofs.Math.Path.{refl}
use Rattle.std.proofs.Common.{ap}
use Rattle.lines.specs.Lines.{ended}
use Rattle.frame.specs.Frame.{end_of_load}
use Rattle.answer.specs.held.Wrote.{Wrote}
use Rattle.building.specs.declared.Scalars.{Scalars}
use Rattle.building.specs.Tables.{loaded}
use Rattle.building.specs.declared.Arrays.{Arrays}
use Rattle.building.specs.held.Holds.{tables_in, held_tables, held_building}
use Rattle.std.proofs.Math.Option.{none}
use Rattle.service.specs.Service.{State, tables_of, is_misplaced_of, refusal, takes, report_of, answer_to}
use Rattle.modes.specs.declared.Mode.TheVariants.{Holding}
use Rattle.desk.specs.declared.Desk.{Desk}
use Rattle.modes.specs.held.Mode.{loads}
use Rattle.desk.specs.held.Holds.{service, Valid, Did, does}
use Rattle.desk.specs.laws.Rows.{tables, service-loads}
use Rattle.desk.specs.laws.Dids.{passed_row, loading_mode, did_report}
use Rattle.building.specs.held.Holds as B

module _ (a : Arrays) (d : Desk) (v : Valid a d) (row : refusal (service a d) end_of_load ≡ none) where
  end_loads : loads d.mode ≡ true
  unfolding is_misplaced_of service
  end_loads = loading_mode d.mode (tables a d) (held_building a d.held) (passed_row (service a d) end_of_load row).placed

  pub did_end : (a' : Arrays) (s : Scalars) → B.Did (loaded (tables a d)) a' s
      → (room room' : List ℕ) (at : ℕ) → Wrote (ended (report_of (tables_in a' s))) room d.at room' at
      → Did (does (service a d) end_of_load) room d.at a' room' (record { mode = Holding; held = s; at = at })
  unfolding takes answer_to tables_of loaded
  did_end = did_report a d end_of_load row (loaded (tables a d)) (ap (λ (st : State). takes st end_of_load) (service-loads a d end_loads)) refl
