-- What holds from an accepted end of load until the next accepted begin.
use Rattle.std.specs.Prelude.{ℕ, zero, suc, ◌≤◌, ◌<◌, ◌≡◌, Bool, true, false, ◌&&◌, leb, length}
use Rattle.std.proofs.Common.{arith, ◌∙◌, le-leb, leb-false}
use Rattle.std.proofs.Math.Path.{refl, sym, ap, subst}
use Rattle.std.proofs.lemmas.Bool.{false≢true}
use mathlib.Core.List.{List, [], ◌∷◌, ◌++◌, map, append_assoc}
use Rattle.std.proofs.Math.ListN.{get_or}
use Rattle.std.proofs.Math.Option.{some}
use Rattle.whole.specs.Lists.{given, first_given}
use Rattle.frame.specs.Frame.{Frame, begin, point, polygon, end_of_load, move, turn, question, across, broken, decode}
use Rattle.frame.specs.Encode.{encode}
use Rattle.answer.specs.Answer.{told}
use Rattle.ring.specs.Polygon.{Polygon, one}
use Rattle.polygon.specs.Ring.{finding_number_of, finding_position_of}
use Rattle.inner.specs.Finding.{finding, part}
use Rattle.building.specs.Tables.{Tables, Building, loaded}
use Rattle.building.specs.Corrections.{Correction, stamp_of}
use Rattle.building.specs.laws.History.{told-loaded, stamp_told, polygons-told}
use Rattle.building.specs.laws.Loadable.{Loadable}
use Rattle.service.specs.declared.Refusal.TheVariants.{Late}
use Rattle.service.specs.Service.{State, nothing, holding, refusal, tables_of, building_of, takes, report_of, told_of, answer_to, Outcome, step, is_malformed, is_misplaced_of, is_holding_of, is_late, is_absent, is_beyond_of, is_full, is_taken, is_accepted_of, accepts}
use Rattle.service.specs.Stream.{after}
use Rattle.service.specs.Span.{is_begin, NoBegin, history, is_correction, loaded_by, Span, corrections_of, corrected_by, held, Numbered, a_move, a_turn, told_in, SameButStamp}
use Rattle.service.proofs.laws.Refusals.{accepted_keeps, accepted_line}
use Rattle.service.proofs.laws.History.{after-told}
use Rattle.service.proofs.laws.Handlers.{of_move_lem, of_turn_lem}
use Rattle.service.proofs.laws.Fresh.{Passed, passed, passes, Sound, idle, after_sound, held_loadable, after_append, load_brings, end_holds, fresh_is, correction_reports}
use Rattle.service.specs.Fresh.{load_lines, fresh_report, fresh_held}
use Rattle.building.specs.Corrections as C

module _ (before : List (List ℕ)) (end : List ℕ) (since : List (List ℕ)) (s : Span before end since) where
  end_takes : (step (after nothing before) end).next ≡ holding (loaded (loaded_by before))
  unfolding takes loaded_by
  end_takes = accepted_keeps (after nothing before) end s.accepted ∙ ap (takes (after nothing before)) s.ends

  -- the building held is told from the corrections accepted in the span
  pub held-told : held before end since ≡ holding (C.told (loaded_by before) (corrections_of before since))
  unfolding held after corrections_of
  held-told =
      after_append nothing before (end ∷ since)
      ∙ ap (λ (st : State). after st since) end_takes
      ∙ subst (λ (b : Building). NoBegin (holding b) since → after (holding b) since ≡ holding (C.told (loaded_by before) (history (holding b) since []))) (told-loaded (loaded_by before)) (after-told (loaded_by before) [] since) s.no_begin

  pub held_tables : tables_of (held before end since) ≡ corrected_by before since
  unfolding tables_of corrected_by C.told
  held_tables = ap tables_of held-told

  pub held_sound : Sound (holding (C.told (loaded_by before) (corrections_of before since)))
  held_sound = subst Sound held-told (unfold held in after_sound nothing (before ++ end ∷ since) idle)

  pub corrected_loadable : Loadable (corrected_by before since)
  unfolding corrected_by C.told
  corrected_loadable = held_loadable held_sound

  pub stamp_is : (n : ℕ) → n < length (loaded_by before).polygons → get_or (building_of (held before end since)).stamps n 0 ≡ stamp_of (corrections_of before since) n (get_or (loaded_by before).polygons n (one []))
  unfolding building_of
  stamp_is n h = ap (λ (st : State). get_or (building_of st).stamps n 0) held-told ∙ stamp_told (loaded_by before) (corrections_of before since) n h

-- the end of load itself answers the report of the tables loaded
pub end_reports : (before : List (List ℕ)) (end : List ℕ) → Span before end [] → (step (after nothing before) end).answer ≡ report_of (loaded_by before)
unfolding answer_to takes tables_of loaded_by loaded
end_reports before end s = ap (λ (o : Outcome). o.answer) (accepted_line (after nothing before) end s.accepted) ∙ ap (λ (f : Frame). answer_to f (takes (after nothing before) f)) s.ends

-- ---- one correction more

not-begin : (f : Frame) → is_correction f ≡ true → is_begin f ≡ false
unfolding is_correction is_begin
not-begin (begin t) e = absurd (false≢true e)
not-begin (point x y z) e = refl
not-begin (polygon ring) e = refl
not-begin end_of_load e = refl
not-begin (move number n x y z) e = refl
not-begin (turn number n) e = refl
not-begin (question n) e = refl
not-begin (across m n) e = refl
not-begin broken e = refl

and_false : (a b : Bool) → b ≡ false → (a && b) ≡ false
and_false true b e = e
and_false false b e = refl

no_begin_more : (st : State) (ls : List (List ℕ)) (l : List ℕ) → NoBegin st ls → is_begin (decode l) ≡ false → NoBegin st (ls ++ (l ∷ []))
unfolding NoBegin
no_begin_more st [] l n e = (and_false (accepts st l) (is_begin (decode l)) e, tt)
no_begin_more st (m ∷ ls) l n e = (n.0, no_begin_more (step st m).next ls l n.1 e)

module _ (before : List (List ℕ)) (end : List ℕ) (since : List (List ℕ)) (l : List ℕ) (s : Span before end since) where
  span_more : is_correction (decode l) ≡ true → Span before end (since ++ (l ∷ []))
  span_more c = record { ends = s.ends; accepted = s.accepted; no_begin = no_begin_more (holding (loaded (loaded_by before))) since l s.no_begin (not-begin (decode l) c) }

  next-held : (step (held before end since) l).next ≡ held before end (since ++ (l ∷ []))
  unfolding held after
  next-held =
      sym (after_append nothing (before ++ end ∷ since) (l ∷ []))
      ∙ ap (after nothing) (append_assoc before (end ∷ since) (l ∷ []))

  -- an accepted correction's report is that of a fresh load of the corrected tables
  pub correction_fresh : accepts (held before end since) l ≡ true → is_correction (decode l) ≡ true
      → (step (held before end since) l).answer ≡ fresh_report (corrected_by before (since ++ (l ∷ [])))
  correction_fresh a c =
      correction_reports (held before end since) l (unfold held in after_sound nothing (before ++ end ∷ since) idle) a c
      ∙ ap (λ (st : State). fresh_report (tables_of st)) next-held
      ∙ ap fresh_report (held_tables before end (since ++ (l ∷ [])) (span_more c))

  -- which is the report of the corrected tables
  pub correction_report : accepts (held before end since) l ≡ true → is_correction (decode l) ≡ true
      → (step (held before end since) l).answer ≡ report_of (corrected_by before (since ++ (l ∷ [])))
  correction_report a c = correction_fresh a c ∙ fresh_is (corrected_by before (since ++ (l ∷ []))) (corrected_loadable before end (since ++ (l ∷ [])) (span_more c))

-- ---- late corrections

late_held : (b : Building) {f : Frame} {number : ℕ} → Numbered f number → number ≤ b.last → refusal (holding b) f ≡ some Late
unfolding first_given given
late_held b (a_move {number = number} {n = n} {x = x} {y = y} {z = z}) h = of_move_lem b number n x y z ∙ (rw (le-leb number b.last h))
late_held b (a_turn {number = number} {n = n}) h = of_turn_lem b number n ∙ (rw (le-leb number b.last h))

pub late_correction : (before : List (List ℕ)) (end : List ℕ) (since : List (List ℕ)) → Span before end since → (l : List ℕ) (number : ℕ) → Numbered (decode l) number
    → number ≤ C.last_number (corrections_of before since) → refusal (held before end since) (decode l) ≡ some Late
unfolding C.told
late_correction before end since s l number k h =
    ap (λ (st : State). refusal st (decode l)) (held-told before end since s) ∙ late_held (C.told (loaded_by before) (corrections_of before since)) k h

-- ---- questions

pub fresh_held_lem : (t : Tables) → Loadable t → fresh_held t ≡ holding (loaded t)
unfolding fresh_held after
fresh_held_lem t ok =
    after_append nothing (load_lines t) (encode end_of_load ∷ [])
    ∙ ap (λ (st : State). (step st (encode end_of_load)).next) (load_brings nothing t ok)
    ∙ ap (λ (o : Outcome). o.next) (end_holds t)

no_stamp : (ps : List Polygon) (n : ℕ) → ◌≡◌ {A = ℕ} (get_or (map (λ p. 0) ps) n 0) 0
no_stamp [] n = refl
no_stamp (p ∷ ps) zero = refl
no_stamp (p ∷ ps) (suc n) = no_stamp ps n

question_passes : (b b' : Building) (n : ℕ) → b.tables ≡ b'.tables → Passed (holding b) (question n) → Passed (holding b') (question n)
unfolding is_malformed is_misplaced_of is_holding_of is_late is_absent is_beyond_of is_full is_taken tables_of
question_passes b b' n e p =
    record { formed = refl; placed = refl; timely = refl; known = ap (λ (t : Tables). leb (length t.polygons) n) (sym e) ∙ p.known; within = refl; room = refl; free = refl }

question_answer : (b : Building) (l : List ℕ) (n : ℕ) → decode l ≡ question n → accepts (holding b) l ≡ true → (step (holding b) l).answer ≡ told_of n b
unfolding answer_to takes building_of
question_answer b l n d a = ap (λ (o : Outcome). o.answer) (accepted_line (holding b) l a) ∙ ap (λ (f : Frame). answer_to f (takes (holding b) f)) d

accepts_question : (b : Building) (l : List ℕ) (n : ℕ) → decode l ≡ question n → Passed (holding b) (question n) → accepts (holding b) l ≡ true
unfolding accepts is_accepted_of
accepts_question b l n d p = rw (d, passes (holding b) (question n) p)

question_passed : (b : Building) (l : List ℕ) (n : ℕ) → decode l ≡ question n → accepts (holding b) l ≡ true → Passed (holding b) (question n)
unfolding accepts
question_passed b l n d a = passed (holding b) (question n) (rw d at a)

module _ (b : Building) (l : List ℕ) (n : ℕ) (d : decode l ≡ question n) (a : accepts (holding b) l ≡ true) where
  fresh_accepts : accepts (holding (loaded b.tables)) l ≡ true
  unfolding loaded
  fresh_accepts = accepts_question (loaded b.tables) l n d (question_passes b (loaded b.tables) n refl (question_passed b l n d a))

  same_question : SameButStamp (step (holding b) l).answer (step (holding (loaded b.tables)) l).answer
  unfolding told_of loaded
  same_question =
      let t = b.tables in
      let p = get_or t.polygons n (one []) in
      let f = finding t.tolerance t.points p in
      record {
        found = finding_number_of f;
        position = finding_position_of f;
        stamp = get_or b.stamps n 0;
        part_is = part t.points p;
        here = question_answer b l n d a;
        there = question_answer (loaded t) l n d fresh_accepts ∙ ap (λ (z : ℕ). told (finding_number_of f) (finding_position_of f) z (part t.points p)) (no_stamp t.polygons n);
      }

-- an accepted question's finding, position and part are those that a fresh load of the corrected tables answers
pub question_fresh : (before : List (List ℕ)) (end : List ℕ) (since : List (List ℕ)) → Span before end since → (l : List ℕ) (n : ℕ) → decode l ≡ question n
    → accepts (held before end since) l ≡ true
    → SameButStamp (step (held before end since) l).answer (step (fresh_held (corrected_by before since)) l).answer
unfolding corrected_by C.told
question_fresh before end since s l n d a =
    let b : Building = C.told (loaded_by before) (corrections_of before since) in
    let e : held before end since ≡ holding b = held-told before end since s in
    let f : fresh_held (corrected_by before since) ≡ holding (loaded b.tables) = fresh_held_lem (corrected_by before since) (corrected_loadable before end since s) in
    rw (e, f) (same_question b l n d (rw e at a))

-- an accepted question names a polygon that was loaded
question_known : (t : Tables) (h : List Correction) (l : List ℕ) (n : ℕ) → decode l ≡ question n → accepts (holding (C.told t h)) l ≡ true → n < length t.polygons
unfolding is_absent tables_of
question_known t h l n d a = omega (arith, leb-false (length (C.told t h).tables.polygons) n (question_passed (C.told t h) l n d a).known, polygons-told t h)

-- and its stamp is that of the span: finding, position, stamp and part, from the corrected tables and the corrections alone
pub question_told : (before : List (List ℕ)) (end : List ℕ) (since : List (List ℕ)) → Span before end since → (l : List ℕ) (n : ℕ) → decode l ≡ question n
    → accepts (held before end since) l ≡ true
    → (step (held before end since) l).answer ≡ told_in (corrected_by before since) n (stamp_of (corrections_of before since) n (get_or (loaded_by before).polygons n (one [])))
unfolding told_of corrected_by C.told
question_told before end since s l n d a =
    let b : Building = C.told (loaded_by before) (corrections_of before since) in
    let e : held before end since ≡ holding b = held-told before end since s in
    let h : n < length (loaded_by before).polygons = question_known (loaded_by before) (corrections_of before since) l n d (rw e at a) in
    (rw e (question_answer b l n d (rw e at a)))
    ∙ ap (told_in b.tables n) (stamp_told (loaded_by before) (corrections_of before since) n h)
