-- What a move has done: what it wrote and what it holds are the outcome of its frame.
use Rattle.std.specs.Prelude.{ℕ, ◌<◌, ◌≡◌, true, List, length, ℤ}
use Rattle.std.proofs.Common.{arith, sym, ◌∙◌}
use Rattle.std.proofs.Math.Path.{refl, ap}
use Rattle.std.proofs.Math.Bool.{false}
use borrow.Author.Tests.{leb-false}
use Rattle.std.proofs.Math.Dec.{leb}
use Rattle.lines.specs.Lines.{ended}
use Rattle.frame.specs.Frame.{move}
use Rattle.answer.specs.held.Wrote.{Wrote}
use Rattle.space.specs.Space.{Point}
use Rattle.places.specs.held.Places.{point3}
use Rattle.places.specs.Points.{is_far_of}
use Rattle.building.specs.declared.Scalars.{Scalars}
use Rattle.building.specs.Tables.{moved}
use Rattle.building.specs.declared.Arrays.{Arrays}
use Rattle.building.specs.held.Holds.{tables_in, held_tables, held_building}
use Rattle.building.specs.laws.Load.{tables-points}
use Rattle.std.proofs.Math.Option.{none}
use Rattle.service.specs.Service.{State, holding, tables_of, building_of, is_misplaced_of, is_absent, is_beyond_of, refusal, takes, report_of, answer_to}
use Rattle.service.proofs.laws.Fresh.{Passed}
use Rattle.modes.specs.declared.Mode.TheVariants.{Holding}
use Rattle.desk.specs.declared.Desk.{Desk}
use Rattle.modes.specs.held.Mode.{holds}
use Rattle.desk.specs.held.Holds.{service, Valid, Did, does}
use Rattle.desk.specs.laws.Rows.{tables, service-holds}
use Rattle.desk.specs.laws.Dids.{passed_row, holding_mode, did_report}
use Rattle.building.specs.held.Holds as B

module _ (a : Arrays) (d : Desk) (v : Valid a d) (number p : ℕ) (x y z : ℤ) (row : refusal (service a d) (move number p x y z) ≡ none) where
  move_passed : Passed (service a d) (move number p x y z)
  move_passed = passed_row (service a d) (move number p x y z) row

  pub move_holds : holds d.mode ≡ true
  unfolding is_misplaced_of service
  move_holds = holding_mode d.mode (tables a d) (held_building a d.held) move_passed.placed

  pub move_near : is_far_of (point3 x y z) ≡ false
  unfolding is_beyond_of
  move_near = move_passed.within

  pub move_known : p < d.held.points
  unfolding is_absent tables_of held_building
  move_known =
      let k : leb (length (tables a d).points) p ≡ false = ap (λ (st : State). leb (length (tables_of st).points) p) (sym (service-holds a d move_holds)) ∙ move_passed.known in
      omega (arith, leb-false (length (tables a d).points) p k, tables-points v.loaded)

  pub did_move : (q : Point) → q ≡ point3 x y z → (a' : Arrays) (s : Scalars) → B.Did (moved number p q (held_building a d.held)) a' s
      → (room room' : List ℕ) (at : ℕ) → Wrote (ended (report_of (tables_in a' s))) room d.at room' at
      → Did (does (service a d) (move number p x y z)) room d.at a' room' (record { mode = Holding; held = s; at = at })
  unfolding takes answer_to tables_of building_of
  did_move q e =
      did_report a d (move number p x y z) row (moved number p q (held_building a d.held))
      (ap (λ (st : State). takes st (move number p x y z)) (service-holds a d move_holds) ∙ ap (λ (w : Point). holding (moved number p w (held_building a d.held))) (sym e)) refl
