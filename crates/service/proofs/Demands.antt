-- The three acceptance demands, in the architect's order and words, as theorems about the definitions.
use Rattle.std.specs.Prelude.{ℕ, ◌*◌, ◌≤◌, ◌<◌, ◌≡◌, refl, true, false, ltb, length, drop, get_or, ℤ, pos, negsuc}
use Rattle.std.proofs.Common.{arith, sym, ap, ◌∙◌}
use Rattle.std.proofs.Math.Path.{subst}
use mathlib.Core.List.{List, [], ◌∷◌, ◌++◌}
use Rattle.std.proofs.Math.Option.{Option, none, some}
use Rattle.std.specs.Int.Signed.{le_z}
use Rattle.whole.specs.Lists.{tally}
use Rattle.whole.specs.All.{All}
use Rattle.frame.specs.Frame.{end_of_load, question, across, decode}
use Rattle.frame.specs.Encode.{encode}
use Rattle.lines.specs.Lines.{lines, ended, joined}
use Rattle.answer.specs.Answer.{plain, reported, told}
use Rattle.polygon.specs.declared.Finding.TheVariants.{Sound}
use Rattle.polygon.specs.Ring.{finding_number_of, finding_position_of}
use Rattle.ring.specs.Polygon.{Polygon, one, all_rings}
use Rattle.inner.specs.Finding.{finding, part}
use Rattle.inner.specs.Position.{Position}
use Rattle.space.specs.Space.{Point}
use Rattle.shell.specs.declared.Shape.TheVariants.{Few, Once, Often, Alike, Apart, Unlinked}
use Rattle.users.specs.EdgeList.{Listed, edge_list}
use Rattle.edges.specs.Edges.{smaller, larger, used_once, used_often, used_alike}
use Rattle.shell.specs.Shell.{not_reached, not_linked}
use Rattle.building.specs.declared.Verdict.TheVariants.{Accepted, Faulty, Unsound, Inward}
use Rattle.building.specs.Tables.{Tables, Building}
use Rattle.building.specs.Report.{report, verdict, check_number_of, element_a_of, element_b_of, is_fault, findings, six_volume_of}
use Rattle.building.specs.Thirteen.{NoneOfThirteen}
use Rattle.building.specs.laws.Thirteen.{accepted_none, none_accepted, zero-none, none-counted, named_polygon}
use Rattle.building.specs.Corrections.{stamp_of, last_number}
use Rattle.service.specs.declared.Refusal.{Refusal}
use Rattle.service.specs.declared.Refusal.TheVariants.{Late}
use Rattle.service.specs.Service.{State, nothing, tables_of, building_of, refusal, row_number_of, refusal_number_of, report_of, told_of, across_of, answer_to, Outcome, outcome, step, accepts}
use Rattle.service.specs.Stream.{Served, served, answers, after, run, Answers, Stands}
use Rattle.service.proofs.laws.Refusals.{refused-line, struck_stream}
use Rattle.service.specs.Strike.{struck, accepted_answers, Left}
use Rattle.service.specs.Fresh.{load_lines, fresh_report, fresh_held, fresh_stream}
use Rattle.service.specs.Span.{is_correction, Span, loaded_by, corrections_of, corrected_by, held, SameButStamp, Numbered, told_in}
use Rattle.service.proofs.laws.Span.{held_tables, stamp_is, correction_fresh, correction_report, corrected_loadable, question_fresh, late_correction, end_reports, question_told}
use Rattle.service.proofs.laws.Across.{either_step, across_fresh, across-told, corrections_keep}
use Rattle.service.proofs.laws.TwoUsers.{none-two}
use Rattle.service.proofs.laws.Short.{step-short}
use Rattle.service.proofs.laws.Entry.{answer_agrees, fresh_lines, fresh_answers, fresh_few, fresh_short, entry-bytes, entry-refused, entry-line}
use Rattle.service.proofs.laws.Strike.{left-of}
use Rattle.building.specs.laws.Thirteen as T
use Rattle.inner.proofs.laws.Position as P
use Rattle.answer.specs.Answer as Answer
use Rattle.users.specs.EdgeList as EdgeList
use Rattle.users.proofs.laws.Turned.{turned_list}
use Rattle.service.proofs.laws.Room as R

-- ---- 1. "Every sequence of bytes gets a fixed answer."

-- what comes back is a function of the stream and the room: two results that the entry's statement allows are one
pub fixed_answer : (stream room : List ℕ) (r r' : Served) → r ≡ served stream room → r' ≡ served stream room → r ≡ r'
fixed_answer stream room r r' e e' = e ∙ sym e'

-- "A stream refused as a whole returns its refusal number and leaves the answer room untouched."
pub too_long : (stream room : List ℕ) → 65535 < length stream → served stream room ≡ record { code = negsuc 0; room = room }
too_long = R.long_stream

pub too_many-lines : (stream room : List ℕ) → length stream ≤ 65535 → 1024 < length (lines stream) → served stream room ≡ record { code = negsuc 1; room = room }
too_many-lines = R.many-lines

pub too_little_room : (stream room : List ℕ) → length stream ≤ 65535 → length (lines stream) ≤ 1024 → length room < 33 * length (lines stream)
    → served stream room ≡ record { code = negsuc 2; room = room }
too_little_room = R.narrow-room

-- any other is answered line by line, and the room after the last answer is untouched
pub answered : (stream room : List ℕ) → length stream ≤ 65535 → length (lines stream) ≤ 1024 → 33 * length (lines stream) ≤ length room
    → served stream room ≡ record { code = pos (length (answers stream)); room = answers stream ++ drop (length (answers stream)) room }
answered = R.answered-stream

-- "A refused frame answers with its number only and changes nothing held."
pub refused_frame : (st : State) (l : List ℕ) → accepts st l ≡ false → step st l ≡ record { next = st; answer = plain (refusal_number_of (refusal st (decode l))) }
refused_frame = refused-line

-- "The caller has to check nothing beforehand": 33 bytes for each line are enough, and the room keeps its length
pub enough_room : (st : State) (l : List ℕ) → length (ended (step st l).answer) ≤ 33
enough_room = step-short

pub room_kept : (stream room : List ℕ) → length (served stream room).room ≡ length room
room_kept = R.room_length

-- ---- 2. The verdict, the element named, the number of polygons with a finding, each polygon's own finding and volume part, and the six-volume
-- are those of the thirteen checks, 06 by true distance (request (ii) of document 02), with the position of 03, 05 and 06 (request (iii))

-- what a report answers
pub reports : (t : Tables) → report_of t ≡ reported (check_number_of (verdict t)) (element_a_of (verdict t)) (element_b_of (verdict t)) (tally is_fault (findings t)) (six_volume_of t)
unfolding report_of report
reports t = refl

-- what a question answers
pub tells : (n : ℕ) (b : Building) → let t = b.tables in let p = get_or t.polygons n (one []) in let f = finding t.tolerance t.points p in
    told_of n b ≡ told (finding_number_of f) (finding_position_of f) (get_or b.stamps n 0) (part t.points p)
unfolding told_of
tells n b = refl

-- what a 0C answers; document 02 (xiii): "answers `00`, users 4 digits, first user 4, second user 4", of the list of edges "beside the tables"
pub tells_across : (m n : ℕ) (st : State) → let e = EdgeList.across m n (tables_of st).polygons in answer_to (across m n) st ≡ Answer.across e.users e.lowest e.second
unfolding answer_to across_of
tells_across m n st = refl

-- document 02 (xiii): "in either order": what is answered and what is held, refused or accepted
pub either_order : (st : State) (m n : ℕ) (l l' : List ℕ) → decode l ≡ across m n → decode l' ≡ across n m → step st l ≡ step st l'
either_order = either_step

-- document 02 (iii): "A polygon's finding shall carry a position": what it says, by the number beside it
pub position : (tolerance : ℕ) (points : List Point) (p : Polygon) → Position tolerance points p (finding tolerance points p)
position = P.position

-- "a building is accepted exactly when none of the thirteen fails"
pub accepted_only : (t : Tables) → verdict t ≡ Accepted → NoneOfThirteen t
accepted_only = accepted_none

pub accepted_always : (t : Tables) → NoneOfThirteen t → verdict t ≡ Accepted
accepted_always = none_accepted

-- "Check 00 with 0, 0 is acceptance": whoever reads 00 has a building that fails none, and such a building is so reported
pub zero_means : (t : Tables) → check_number_of (verdict t) ≡ 0 → NoneOfThirteen t
zero_means = zero-none

pub accepted_report : (t : Tables) → NoneOfThirteen t → report_of t ≡ reported 0 0 0 0 (six_volume_of t)
unfolding check_number_of element_a_of element_b_of
accepted_report t n = reports t ∙ (rw (accepted_always t n, none-counted t n))

-- "otherwise the first failing one is reported with its element": the lowest polygon with a finding, with the first of 01 to 06 that fails
pub lowest-polygon : (t : Tables) (done : List Polygon) (p : Polygon) (rest : List Polygon) → t.polygons ≡ done ++ p ∷ rest
    → All (λ (q : Polygon). finding t.tolerance t.points q ≡ Sound) done → is_fault (finding t.tolerance t.points p) ≡ true
    → verdict t ≡ Faulty (length done) (finding t.tolerance t.points p)
lowest-polygon = named_polygon

-- document 02 (iii): "Reports show the position as element b for these checks, in place of 0."
pub position_reported : (t : Tables) (done : List Polygon) (p : Polygon) (rest : List Polygon) → t.polygons ≡ done ++ p ∷ rest
    → All (λ (q : Polygon). finding t.tolerance t.points q ≡ Sound) done → is_fault (finding t.tolerance t.points p) ≡ true
    → element_b_of (verdict t) ≡ finding_position_of (finding t.tolerance t.points p)
unfolding element_b_of
position_reported t done p rest e a f = ap element_b_of (lowest-polygon t done p rest e a f)

-- and where no polygon has a finding, each of 07 to 0D where none before it fails
module _ (t : Tables) (each : All (λ (p : Polygon). finding t.tolerance t.points p ≡ Sound) t.polygons) where
  pub first_07 : ltb (length t.polygons) 4 ≡ true → verdict t ≡ Unsound (Few (length t.polygons))
  first_07 = T.named-07 t each t.polygons refl

  module _ (not_07 : ltb (length t.polygons) 4 ≡ false) where
    pub first-08 : (e : ℕ) → used_once (all_rings t.polygons) ≡ some e → verdict t ≡ Unsound (Once (smaller e) (larger e))
    first-08 = T.named-08 t each t.polygons refl not_07

    module _ (not_08 : used_once (all_rings t.polygons) ≡ none) where
      pub first-09 : (e : ℕ) → used_often (all_rings t.polygons) ≡ some e → verdict t ≡ Unsound (Often (smaller e) (larger e))
      first-09 = T.named-09 t each t.polygons refl not_07 not_08

      module _ (not_09 : used_often (all_rings t.polygons) ≡ none) where
        pub first-0A : (e : ℕ) → used_alike (all_rings t.polygons) ≡ some e → verdict t ≡ Unsound (Alike (smaller e) (larger e))
        first-0A = T.named-0A t each t.polygons refl not_07 not_08 not_09

        module _ (not_0A : used_alike (all_rings t.polygons) ≡ none) where
          pub first-0B : (p : ℕ) → not_reached t.polygons ≡ some p → verdict t ≡ Unsound (Apart p)
          first-0B = T.named-0B t each t.polygons refl not_07 not_08 not_09 not_0A

          module _ (not_0B : not_reached t.polygons ≡ none) where
            pub first-0C : (v : ℕ) → not_linked t.polygons ≡ some v → verdict t ≡ Unsound (Unlinked v)
            first-0C = T.named-0C t each t.polygons refl not_07 not_08 not_09 not_0A not_0B

            pub first-0D : not_linked t.polygons ≡ none → le_z (six_volume_of t) (pos 0) ≡ true → verdict t ≡ Inward
            first-0D = T.named-0D t each t.polygons refl not_07 not_08 not_09 not_0A not_0B

-- ---- 3. From an accepted end of load until the next accepted begin

module _ (before : List (List ℕ)) (end : List ℕ) (since : List (List ℕ)) (s : Span before end since) where
  -- what is held are the corrected tables
  pub corrected-tables : tables_of (held before end since) ≡ corrected_by before since
  corrected-tables = held_tables before end since s

  -- "after each accepted correction the report equals that of a fresh load of the corrected tables at the same tolerance"
  pub same-report : (l : List ℕ) → accepts (held before end since) l ≡ true → is_correction (decode l) ≡ true
      → (step (held before end since) l).answer ≡ fresh_report (corrected_by before (since ++ (l ∷ [])))
  same-report l = correction_fresh before end since l s

  -- and that is the report of demand 2 on the corrected tables
  pub told-report : (l : List ℕ) → accepts (held before end since) l ≡ true → is_correction (decode l) ≡ true
      → (step (held before end since) l).answer ≡ report_of (corrected_by before (since ++ (l ∷ [])))
  told-report l = correction_report before end since l s

  -- "and so do each polygon's own finding and volume part"; document 02 (iii): "Demand 3 covers the position."
  pub same-polygon : (l : List ℕ) (n : ℕ) → decode l ≡ question n → accepts (held before end since) l ≡ true
      → SameButStamp (step (held before end since) l).answer (step (fresh_held (corrected_by before since)) l).answer
  same-polygon = question_fresh before end since s

  -- document 02 (xiii): "After any correction it equals the list made afresh": the list itself, and what a 0C is answered, refused or accepted
  pub same_list : edge_list (tables_of (held before end since)).polygons ≡ edge_list (corrected_by before since).polygons
  same_list = ap (λ (t : Tables). edge_list t.polygons) corrected-tables

  pub same-across : (l : List ℕ) (m n : ℕ) → decode l ≡ across m n → (step (held before end since) l).answer ≡ (step (fresh_held (corrected_by before since)) l).answer
  same-across = across_fresh before end since s

  -- document 02 (xiii): "which polygon is across an edge": where none of the thirteen fails, each edge of the list has two users, and they differ
  pub two-across : NoneOfThirteen (corrected_by before since) → All (λ (e : Listed). (e.users ≡ 2) × (e.lowest < e.second) × (e.second < length (corrected_by before since).polygons)) (edge_list (corrected_by before since).polygons)
  two-across = none-two (corrected_by before since) (corrected_loadable before end since s)

  -- "a turn alters no users": after any corrections the list is that of the loaded tables
  pub turn_alters_none : edge_list (corrected_by before since).polygons ≡ edge_list (loaded_by before).polygons
  unfolding corrected_by
  turn_alters_none = corrections_keep edge_list turned_list (loaded_by before) (corrections_of before since)

  -- "Each polygon's stamp is the number of the last correction accepted in that span that turned it or moved a point its ring lists, zero if there was none."
  pub stamp : (n : ℕ) → n < length (loaded_by before).polygons → get_or (building_of (held before end since)).stamps n 0 ≡ stamp_of (corrections_of before since) n (get_or (loaded_by before).polygons n (one []))
  stamp = stamp_is before end since s

  -- "In that span a correction numbered no higher than the last one accepted in it is refused"
  pub late_refused : (l : List ℕ) (number : ℕ) → Numbered (decode l) number → number ≤ last_number (corrections_of before since) → refusal (held before end since) (decode l) ≡ some Late
  late_refused = late_correction before end since s

-- "and striking out all refused frames changes no other answer." There always is such a stream, within the bounds that the stream keeps.
pub struck_out : (stream : List ℕ) → Left stream
struck_out = left-of

pub strike_out : (stream left : List ℕ) → lines left ≡ struck nothing (lines stream) → answers left ≡ joined (accepted_answers nothing (lines stream))
strike_out = struck_stream

-- ---- of the code
-- `checker_answer` is proved to return a number and to leave a room of which `Answers stream room` holds, for every stream and room.

-- 1. A caller may hand over any bytes and any room: what comes back is fixed.
pub code_fixed : (stream room : List ℕ) (c₁ c₂ : ℤ) (r₁ r₂ : List ℕ) → Answers stream room c₁ r₁ → Answers stream room c₂ r₂ → (c₁ ≡ c₂) × (r₁ ≡ r₂)
code_fixed = answer_agrees

module _ (stream room : List ℕ) (code : ℤ) (room' : List ℕ) (returned : Answers stream room code room') where
  -- A number below zero tells why, and the room is as it was.
  pub code_too_long : 65535 < length stream → (code ≡ negsuc 0) × (room' ≡ room)
  code_too_long h = entry-refused stream room code room' returned (negsuc 0) (too_long stream room h)

  pub code_too_many : length stream ≤ 65535 → 1024 < length (lines stream) → (code ≡ negsuc 1) × (room' ≡ room)
  code_too_many a h = entry-refused stream room code room' returned (negsuc 1) (too_many-lines stream room a h)

  pub code_too_narrow : length stream ≤ 65535 → length (lines stream) ≤ 1024 → length room < 33 * length (lines stream) → (code ≡ negsuc 2) × (room' ≡ room)
  code_too_narrow a b h = entry-refused stream room code room' returned (negsuc 2) (too_little_room stream room a b h)

  module _ (a : length stream ≤ 65535) (b : length (lines stream) ≤ 1024) (c : 33 * length (lines stream) ≤ length room) where
    -- Any other number counts the answer bytes at the front of the room; the rest of the room is as it was.
    pub code-answers : (code ≡ pos (length (answers stream))) × (room' ≡ answers stream ++ drop (length (answers stream)) room)
    code-answers = entry-bytes stream room code room' returned a b c

    -- A frame that is refused is answered with its number only.
    pub code-refused : (ls : List (List ℕ)) (l : List ℕ) (rest : List (List ℕ)) → lines stream ≡ ls ++ l ∷ rest → accepts (after nothing ls) l ≡ false
        → Stands ls (plain (refusal_number_of (refusal (after nothing ls) (decode l)))) room'
    code-refused ls l rest e f = subst (λ (q : List ℕ). Stands ls q room') (ap (λ (o : Outcome). o.answer) (refused_frame (after nothing ls) l f)) (entry-line stream room code room' returned a b c ls l rest e)

    -- 2. An accepted end of load is answered with the report of its tables, whose verdict, count and six-volume are those of the thirteen checks.
    pub code-report : (before : List (List ℕ)) (end : List ℕ) (rest : List (List ℕ)) → lines stream ≡ before ++ end ∷ rest → Span before end [] → Stands before (report_of (loaded_by before)) room'
    code-report before end rest e s = subst (λ (q : List ℕ). Stands before q room') (end_reports before end s) (entry-line stream room code room' returned a b c before end rest e)

    -- 3. In the span of a held building:
    module _ (before : List (List ℕ)) (end : List ℕ) (since : List (List ℕ)) (s : Span before end since) (l : List ℕ) (rest : List (List ℕ)) (e : lines stream ≡ (before ++ end ∷ since) ++ l ∷ rest) where
      here : Stands (before ++ end ∷ since) (step (held before end since) l).answer room'
      unfolding held
      here = entry-line stream room code room' returned a b c (before ++ end ∷ since) l rest e

      -- an accepted correction is answered with the report that the bytes of a fresh load of the corrected tables are answered last;
      pub code-correction : accepts (held before end since) l ≡ true → is_correction (decode l) ≡ true → Stands (before ++ end ∷ since) (fresh_report (corrected_by before (since ++ (l ∷ [])))) room'
      code-correction t k = subst (λ (q : List ℕ). Stands (before ++ end ∷ since) q room') (same-report before end since s l t k) here

      -- and that is the report of demand 2 on the corrected tables;
      pub code-corrected : accepts (held before end since) l ≡ true → is_correction (decode l) ≡ true → Stands (before ++ end ∷ since) (report_of (corrected_by before (since ++ (l ∷ [])))) room'
      code-corrected t k = subst (λ (q : List ℕ). Stands (before ++ end ∷ since) q room') (told-report before end since s l t k) here

      -- an accepted question with the finding, its position and the part of the corrected tables, and the stamp that the span's corrections give;
      pub code-question : (n : ℕ) → decode l ≡ question n → accepts (held before end since) l ≡ true
          → Stands (before ++ end ∷ since) (told_in (corrected_by before since) n (stamp_of (corrections_of before since) n (get_or (loaded_by before).polygons n (one [])))) room'
      code-question n d t = subst (λ (q : List ℕ). Stands (before ++ end ∷ since) q room') (question_told before end since s l n d t) here

      -- an accepted 0C with what the list of edges of the corrected tables tells;
      pub code-across : (m n : ℕ) → decode l ≡ across m n → accepts (held before end since) l ≡ true → Stands (before ++ end ∷ since) (across_of m n (corrected_by before since)) room'
      code-across m n d t = subst (λ (q : List ℕ). Stands (before ++ end ∷ since) q room') (across-told before end since s l m n d t) here

      -- a correction numbered no higher than the last accepted one with 07, and nothing else.
      pub code-late : (number : ℕ) → Numbered (decode l) number → number ≤ last_number (corrections_of before since) → Stands (before ++ end ∷ since) (plain 7) room'
      unfolding step outcome row_number_of
      code-late number k h = subst (λ (q : List ℕ). Stands (before ++ end ∷ since) q room') (ap (λ (r : Option Refusal). (outcome r (held before end since) (decode l)).answer) (late_refused before end since s l number k h)) here

-- A stream without its refused frames leaves the same answers to all the others, and no more, in any room that was enough for the stream.
pub code_strike_out : (stream room : List ℕ) (code : ℤ) (room' : List ℕ) → length stream ≤ 65535 → length (lines stream) ≤ 1024 → 33 * length (lines stream) ≤ length room
    → Answers (struck_out stream).left room code room' → room' ≡ joined (accepted_answers nothing (lines stream)) ++ drop (length (answers (struck_out stream).left)) room
code_strike_out stream room code room' a b c returned =
    let l = struck_out stream in
    let few : 33 * length (lines l.left) ≤ length room = omega (arith, l.no_more) in
    let short : length l.left ≤ 65535 = omega (arith, l.no_longer) in
    let lean : length (lines l.left) ≤ 1024 = omega (arith, l.no_more) in
    (entry-bytes l.left room code room' returned short lean few).1 ∙ ap (λ (q : List ℕ). q ++ drop (length (answers l.left)) room) (strike_out stream l.left l.its_lines)

-- The bytes of a fresh load of the corrected tables are a stream that is answered, and its last answer is the fresh report.
pub fresh_load : (t : Tables) → answers (fresh_stream t) ≡ run nothing (load_lines t) ++ ended (fresh_report t)
fresh_load = fresh_answers

pub code_fresh : (before : List (List ℕ)) (end : List ℕ) (since : List (List ℕ)) → Span before end since → (room : List ℕ) (code : ℤ) (room' : List ℕ)
    → Answers (fresh_stream (corrected_by before since)) room code room' → 33 * 770 ≤ length room
    → Stands (load_lines (corrected_by before since)) (fresh_report (corrected_by before since)) room'
unfolding fresh_report
code_fresh before end since s room code room' returned h =
    let t = corrected_by before since in
    let ok = corrected_loadable before end since s in
    let few : length (lines (fresh_stream t)) ≤ 770 = fresh_few t ok in
    entry-line (fresh_stream t) room code room' returned (omega (arith, fresh_short t ok)) (omega arith) (omega arith) (load_lines t) (encode end_of_load) [] (fresh_lines t)
