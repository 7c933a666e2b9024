-- The loop over the lines of a stream.
use Rattle.std.specs.Prelude.{ℕ, suc, ◌+◌, ◌*◌, ◌-◌, ◌≤◌, ◌<◌, ◌≡◌, refl, List, [], ◌++◌, length, take, drop, get_or, replicate, ℤ, pos}
use Rattle.std.proofs.Common.{arith, sym, ap₂, ◌∙◌, subst, length-append}
use Rattle.std.proofs.Math.Path.{ap}
use Rattle.std.proofs.lemmas.Bool.{false≢true}
use Rattle.std.proofs.lemmas.List.{length-replicate}
use Rattle.std.proofs.lemmas.List.Edits.{sets}
use Rattle.std.proofs.Math.Seq.{length-sets}
use Rattle.whole.specs.held.Small.{Small}
use Rattle.whole.specs.laws.Places.{all_alike}
use Rattle.whole.specs.laws.Size.{small_zero}
use Rattle.whole.specs.laws.Stores.{sets_append}
use Rattle.lines.specs.Lines.{lines, ended}
use Rattle.lines.specs.held.Offsets.{line_end_of}
use Rattle.lines.specs.laws.LineLaws.{end_inside, line-cut, lines_done}
use Rattle.frame.specs.Frame.{Frame, decode}
use Rattle.space.specs.held.Points.{Coords}
use Rattle.shell.specs.declared.Shape.TheVariants.{Whole}
use Rattle.taken.specs.laws.Chains.{chained_fresh}
use Rattle.building.specs.declared.Arrays.{Arrays}
use Rattle.building.specs.held.Holds.{Sizes}
use Rattle.building.specs.laws.Load.{loaded-begun}
use Rattle.service.specs.Service.{State, step}
use Rattle.service.specs.Stream.{run, answers}
use Rattle.service.proofs.laws.Short.{step-short}
use Rattle.desk.specs.declared.Desk.{Desk}
use Rattle.modes.specs.declared.Mode.TheVariants.{Nothing, Loading, Holding}
use Rattle.modes.specs.held.Mode.{loads, holds}
use Rattle.desk.specs.held.Holds.{state_of, service, Valid, Did, does}
use Rattle.replies.specs.held.Answered.{idle_desk, Answered}

-- ---- one line

pub did_step : (st : State) (l : List ℕ) (f : Frame) (room room' : List ℕ) (at : ℕ) (a : Arrays) (d : Desk) → f ≡ decode l → Did (does st f) room at a room' d → Did (step st l) room at a room' d
unfolding step
did_step st l f room room' at a d e h = subst (λ (g : Frame). Did (does st g) room at a room' d) e h

-- ---- the loop

-- the loop over the lines: what is still to be written gives the whole
pub record Running (stream room₀ room : List ℕ) (a : Arrays) (d : Desk) (from : ℕ) : Type 0 where
  pub valid : Valid a d
  pub inside : from ≤ length stream + 1
  pub same : length room ≡ length room₀
  pub space : d.at + 33 * length (lines (drop from stream)) ≤ length room₀
  pub rest : sets room d.at (run (service a d) (lines (drop from stream))) ≡ sets room₀ 0 (answers stream)
  pub count : d.at + length (run (service a d) (lines (drop from stream))) ≡ length (answers stream)

running_start : (stream room : List ℕ) (a : Arrays) → Valid a idle_desk → 33 * length (lines stream) ≤ length room → Running stream room room a idle_desk 0
unfolding service state_of answers
running_start stream room a v h = record { valid = v; inside = omega arith; same = refl; space = omega arith; rest = refl; count = omega arith }

-- the same, where a call tells the desk
pub running_idle : (stream room : List ℕ) (a : Arrays) (d : Desk) → d ≡ idle_desk → Valid a idle_desk → 33 * length (lines stream) ≤ length room → Running stream room room a d 0
running_idle stream room a d e v h = subst (λ (q : Desk). Running stream room room a q 0) (sym e) (running_start stream room a v h)

module _ (stream room₀ room : List ℕ) (a : Arrays) (d : Desk) (from : ℕ) (r : Running stream room₀ room a d from) (h : from < length stream) where
  abbrev line : List ℕ
  line = take (line_end_of stream from - from) (drop from stream)

  abbrev later : List (List ℕ)
  later = lines (drop (line_end_of stream from + 1) stream)

  pub room_left : d.at + 33 ≤ length room
  room_left =
      let k : length (lines (drop from stream)) ≡ suc (length later) = ap length (line-cut stream from h) in
      omega (arith, r.space, r.same)

  module _ (a' : Arrays) (d' : Desk) (room' : List ℕ) (did : Did (step (service a d) line) room d.at a' room' d') where
    abbrev answer : List ℕ
    answer = ended (step (service a d) line).answer

    run_on : run (service a d) (lines (drop from stream)) ≡ answer ++ run (service a' d') later
    unfolding run
    run_on =
        ap (run (service a d)) (line-cut stream from h)
        ∙ ap (λ (st : State). answer ++ run st later) (sym did.next)

    turned : Running stream room₀ room' a' d' (line_end_of stream from + 1)
    turned =
        let k : length (lines (drop from stream)) ≡ suc (length later) = ap length (line-cut stream from h) in
        let s : length answer ≤ 33 = step-short (service a d) line in
        let e : line_end_of stream from ≤ length stream = end_inside stream from (omega arith) in
        let n : length (answer ++ run (service a' d') later) ≡ length answer + length (run (service a' d') later) = length-append answer (run (service a' d') later) in
        let m : length (run (service a d) (lines (drop from stream))) ≡ length (answer ++ run (service a' d') later) = ap length run_on in
        record {
          valid = did.valid;
          inside = omega arith;
          same = ap length did.wrote ∙ length-sets room d.at answer ∙ r.same;
          space = omega (arith, r.space, did.past);
          rest =
              ap₂ (λ (q : List ℕ) (i : ℕ). sets q i (run (service a' d') later)) did.wrote did.past
              ∙ sets_append answer (run (service a' d') later) room d.at
              ∙ ap (sets room d.at) (sym run_on)
              ∙ r.rest;
          count = omega (arith, r.count, did.past);
        }

-- the same, where the line's end is told by a call
pub running_turn : (stream room₀ room : List ℕ) (a : Arrays) (d : Desk) (from : ℕ) → Running stream room₀ room a d from → from < length stream → (end : ℕ) → end ≡ line_end_of stream from
    → (a' : Arrays) (d' : Desk) (room' : List ℕ) → Did (step (service a d) (take (end - from) (drop from stream))) room d.at a' room' d' → Running stream room₀ room' a' d' (end + 1)
running_turn stream room₀ room a d from r h end e a' d' room' did =
    subst (λ (n : ℕ). Running stream room₀ room' a' d' (n + 1)) (sym e)
    (turned stream room₀ room a d from r h a' d' room' (subst (λ (n : ℕ). Did (step (service a d) (take (n - from) (drop from stream))) room d.at a' room' d') e did))

pub running_end : (stream room₀ room : List ℕ) (a : Arrays) (d : Desk) (from : ℕ) → Running stream room₀ room a d from → length stream ≤ from → Answered stream room₀ room d.at
unfolding run
running_end stream room₀ room a d from r h =
    let e : run (service a d) (lines (drop from stream)) ≡ [] = ap (run (service a d)) (lines_done stream from h) in
    record {
      bytes = sym (ap (sets room d.at) e) ∙ r.rest;
      count = let n : length (run (service a d) (lines (drop from stream))) ≡ 0 = ap length e in omega (arith, r.count);
    }

-- ---- the arrays as they are made

pub valid_idle : (a : Arrays) → length a.rings.entries ≡ 1024 → length a.rings.starts ≡ 1025 → get_or a.rings.starts 0 0 ≡ 0 → length a.rings.firsts ≡ 257 → get_or a.rings.firsts 0 0 ≡ 0 → Sizes a → ((b : ℕ) → get_or a.table b 0 ≡ 0) → Valid a idle_desk
valid_idle a e s z g y k f =
    record {
      loaded = loaded-begun a.points.flat a.rings.entries a.rings.starts a.rings.firsts 0 0 0 Whole Whole a.points.coords e s g z y (omega arith);
      sizes = k;
      kept = λ q. absurd (nothing-held q);
      chained = λ q. absurd (nothing-loads q);
      fresh = λ q. chained_fresh a.points.flat a.table k.table f;
    }
  where
    nothing-held : Nothing ≡ Holding → ⊥
    nothing-held q = false≢true (ap holds q)

    nothing-loads : Nothing ≡ Loading → ⊥
    nothing-loads q = false≢true (ap loads q)

-- ---- arrays of nothing but zeros

pub fresh_coords : (n : ℕ) → n ≡ 1536 → Coords (replicate n (pos 0))
fresh_coords n e = record { room = length-replicate {A = ℤ} n (pos 0) ∙ e; small = λ i. subst (λ (z : ℤ). Small 100000 z) (sym (all_alike (pos 0) n i)) small_zero }
