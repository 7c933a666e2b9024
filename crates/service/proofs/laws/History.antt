-- What is held after corrections is what their history tells.
use Rattle.std.specs.Prelude.{ℕ, ◌≡◌, refl, Bool, true, List, [], ◌∷◌}
use Rattle.std.proofs.Common.{sym, ap, ◌∙◌, subst, true≢false}
use Rattle.std.proofs.Math.Bool.{false}
use Rattle.std.proofs.lemmas.Bool.{false≢true}
use Rattle.whole.specs.Lists.{given, first_given}
use Rattle.frame.specs.Frame.{Frame, begin, point, polygon, end_of_load, move, turn, question, across, broken, decode}
use Rattle.building.specs.Tables.{Tables}
use Rattle.building.specs.Corrections.{Correction, told, corrects}
use Rattle.building.specs.laws.History.{corrects-told}
use Rattle.service.specs.Service.{State, holding, is_malformed, is_misplaced_of, is_loading_of, is_holding_of, refusal, building_of, takes, step, is_accepted_of, accepts}
use Rattle.service.proofs.laws.Refusals.{refused_keeps, accepted_keeps}
use Rattle.service.specs.Stream.{after}
use Rattle.service.specs.Span.{is_begin, recorded, history, NoBegin}
use Rattle.building.specs.Corrections as C

-- an accepted frame that is no begin, while a building is held
takes_told : (t : Tables) (h : List Correction) (f : Frame) → is_accepted_of (refusal (holding (told t h)) f) ≡ true → is_begin f ≡ false
    → takes (holding (told t h)) f ≡ holding (told t (recorded f h))
unfolding is_accepted_of refusal first_given given is_malformed is_misplaced_of is_loading_of is_holding_of is_begin takes building_of recorded corrects
takes_told t h (begin tolerance) e n = absurd (true≢false n)
takes_told t h (point x y z) e n = absurd (false≢true e)
takes_told t h (polygon ring) e n = absurd (false≢true e)
takes_told t h end_of_load e n = absurd (false≢true e)
takes_told t h (move number i x y z) e n = ap holding (corrects-told t h (C.move number i (record { x = x; y = y; z = z })))
takes_told t h (turn number i) e n = ap holding (corrects-told t h (C.turn number i))
takes_told t h (question i) e n = refl
takes_told t h (across i j) e n = refl
takes_told t h broken e n = refl

-- what is held after some lines without an accepted begin, told from the accepted corrections
pub after-told : (t : Tables) (h : List Correction) (ls : List (List ℕ)) → NoBegin (holding (told t h)) ls
    → after (holding (told t h)) ls ≡ holding (told t (history (holding (told t h)) ls h))
unfolding after history NoBegin
after-told t h [] n = refl
after-told t h (l ∷ ls) n = go (accepts st l) refl (λ h' n'. after-told t h' ls n')
  where
    st : State
    st = holding (told t h)

    go : (b : Bool) → accepts st l ≡ b → ((h' : List Correction) → NoBegin (holding (told t h')) ls → after (holding (told t h')) ls ≡ holding (told t (history (holding (told t h')) ls h')))
        → after st (l ∷ ls) ≡ holding (told t (history st (l ∷ ls) h))
    go true e ih =
        let h' = recorded (decode l) h in
        let m : is_begin (decode l) ≡ false = rw e at n.0 in
        let q : (step st l).next ≡ holding (told t h') = accepted_keeps st l e ∙ takes_told t h (decode l) (unfold accepts in e) m in
        rw (e, history) (subst (λ (s : State). after s ls ≡ holding (told t (history s ls h'))) (sym q) (ih h' (subst (λ (s : State). NoBegin s ls) q n.1)))
    go false e ih =
        let q : (step st l).next ≡ st = refused_keeps st l e in
        rw (e, history) (subst (λ (s : State). after s ls ≡ holding (told t (history s ls h))) (sym q) (ih h (subst (λ (s : State). NoBegin s ls) q n.1)))
