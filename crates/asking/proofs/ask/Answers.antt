-- `asking::ask` meets its contract.
use mir.Syntax.{w64}
use mir.Facts.{to_z-of_z}
use Rattle.asking.specs.laws.Dids.{did_question}
use Rattle.desk.specs.laws.Dids.{did_refused}
use Rattle.frame.specs.Frame.{question}
use Prim.Native.Nat.{ℕ, ◌/◌, ◌%◌}
use lib.IntN.{ℤ, pos}
use lib.ListN.{get_or}
use borrow.Author.Rules.{rules}
use mathlib.Core.List.{List}
use mathlib.Core.Path.{sym, ap, ◌∙◌}
use Rattle.asking.proofs.ask.Goals as goal

pub returns-in-Err : goal.returns-in-Err
returns-in-Err c = λ a sf ff pf v.
    let g = c.args in
    did_refused a g.d v (question g.p) c.in-Err.refusal g.room.now _ _ (c.in-Err.ensures.is a tt v) (c.refuse.ensures a v)

pub returns : goal.returns
returns c = λ a sf ff pf v.
    let g = c.args in
    let q = c.in_default.ensures in
    did_question a g.d v g.p (q.is a tt v) q.fit _ _ _ _
    (c.number_of-finding.ensures ∙ ap (λ (l : List ℕ). get_or l g.p 0 % 16) (sym ff))
    (c.position_of-position.ensures ∙ ap (λ (l : List ℕ). get_or l g.p 0 / 16) (sym ff))
    (ap (λ (l : List ℕ). get_or l g.p 0) (sym sf))
    (to_z-of_z {w = w64} {z = get_or g.parts.now g.p (pos 0)} (record { sfits = search rules }) ∙ ap (λ (l : List ℤ). get_or l g.p (pos 0)) (sym pf))
    g.room.now _ _ c.put_told-at.ensures
