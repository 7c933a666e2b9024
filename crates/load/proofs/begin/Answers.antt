-- `load::begin` meets its contract.
use mathlib.Core.Path.{refl, sym, ap, ◌∙◌}
use Rattle.frame.specs.Frame.{begin}
use Rattle.desk.specs.held.Holds.{service, does}
use Rattle.load.specs.held.Load.{unchained}
use Rattle.load.specs.laws.Dids.{did_points, did_begin, did_begin-beyond}
use Rattle.load.proofs.begin.Goals as goal

pub returns-then-tolerance-gt1000 : goal.returns-then-tolerance-gt1000
returns-then-tolerance-gt1000 c = λ a e v.
    let g = c.args in
    did_points a a.points g.table.now refl e (does (service a g.d) (begin g.tolerance)) g.room.now g.d.at _ _
    (did_begin-beyond a g.d v g.tolerance c.if-tolerance-gt1000.true g.room.now _ _ (c.refuse.ensures a v))

pub returns : goal.returns
returns c = λ a e v.
    let g = c.args in
    did_begin a g.d v g.tolerance c.if-tolerance-gt1000.false _ (c.clear_chains.ensures ∙ ap (unchained g.d.mode) (sym e)) g.room.now _ _ c.put_plain-at.ensures
