-- What is left to show of `lists`.
use mathlib.Core.Path.{sym, ap, ◌∙◌}
use native.Mathlib.Omega.{arith}
use mathlib.Core.Bool.{Bool, ◌||◌, or-false}
use lib.Dec.{eqb}
use Rattle.whole.specs.laws.Search.{any_end}
use Rattle.whole.specs.Lists.{lists}
use Rattle.ring.specs.laws.Rings.{found_more}
use Rattle.ring.proofs.lists.Goals as goal

pub loop-x-preserved : goal.loop-x-preserved
loop-x-preserved c = let l = c.loop-x in
    let a = c.args in
    found_more (eqb a.n) a.ring.now l.x-index l.found c.loop-x-test.true l.invariant

pub returns : goal.returns
unfolding lists
returns c = let l = c.loop-x in
    let a = c.args in
    sym (or-false l.found) ∙ ap (λ (t : Bool). l.found || t) (sym (any_end (eqb a.n) a.ring.now l.x-index (omega arith))) ∙ l.invariant
