-- What a question has done: what it wrote and what it holds are the outcome of its frame.
use Rattle.std.specs.Prelude.{ℕ, ◌/◌, ◌%◌, ◌<◌, ◌≡◌, true, get_or, ℤ, pos}
use Rattle.std.proofs.Math.Path.{refl, ap}
use Rattle.std.proofs.Common.{sym, ◌∙◌, subst}
use mathlib.Core.List.{List}
use Rattle.lines.specs.Lines.{ended}
use Rattle.frame.specs.Frame.{question}
use Rattle.answer.specs.Answer.{told}
use Rattle.answer.specs.held.Wrote.{Wrote}
use Rattle.building.specs.declared.Arrays.{Arrays}
use Rattle.building.specs.held.Holds.{held_tables, held_building}
use Rattle.building.specs.laws.Findings.{kept_number, kept_position}
use Rattle.report.specs.laws.Told.{kept-finding, kept-part, kept_stamp}
use Rattle.std.proofs.Math.Option.{none}
use Rattle.service.specs.Service.{State, building_of, is_misplaced_of, refusal, takes, told_of, answer_to}
use Rattle.desk.specs.declared.Desk.{Desk}
use Rattle.modes.specs.held.Mode.{holds}
use Rattle.desk.specs.held.Holds.{service, Valid, Did, does}
use Rattle.desk.specs.laws.Rows.{tables, service-holds}
use Rattle.desk.specs.laws.Dids.{valid_at, valid_held, did_accepted, passed_row, holding_mode}

module _ (a : Arrays) (d : Desk) (v : Valid a d) (p : ℕ) (row : refusal (service a d) (question p) ≡ none) where
  question_holds : holds d.mode ≡ true
  unfolding is_misplaced_of service
  question_holds = holding_mode d.mode (tables a d) (held_building a d.held) (passed_row (service a d) (question p) row).placed

  question_told : p < d.held.polygons → let k = get_or a.findings p 0 in told (k % 16) (k / 16) (get_or a.stamps p 0) (get_or a.parts p (pos 0)) ≡ told_of p (held_building a d.held)
  unfolding told_of held_building held_tables
  question_told h =
      let k = (valid_held a d v question_holds).kept in
      let g = kept-finding v.loaded k.found p h in
      let q = kept-part v.loaded k.summed p h in
      λ i. told (kept_number _ g i) (kept_position _ g i) (kept_stamp a d.held p h i) (q i)

  pub did_question : p < d.held.polygons → (f i s : ℕ) (z : ℤ) → f ≡ get_or a.findings p 0 % 16 → i ≡ get_or a.findings p 0 / 16 → s ≡ get_or a.stamps p 0 → z ≡ get_or a.parts p (pos 0)
      → (room room' : List ℕ) (at : ℕ) → Wrote (ended (told f i s z)) room d.at room' at
      → Did (does (service a d) (question p)) room d.at a room' (record { mode = d.mode; held = d.held; at = at })
  unfolding takes answer_to service building_of
  did_question h f i s z ef ei es ez room room' at w =
      did_accepted (service a d) (question p) room room' d.at a (record { mode = d.mode; held = d.held; at = at }) row
      (valid_at a d v at)
      refl
      (subst (λ (l : List ℕ). Wrote (ended l) room d.at room' at) ((λ j. told (ef j) (ei j) (es j) (ez j)) ∙ question_told h ∙ ap (λ (st : State). told_of p (building_of st)) (sym (service-holds a d question_holds))) w)
