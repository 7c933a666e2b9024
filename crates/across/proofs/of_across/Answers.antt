-- `across::of_across` meets its contract.
use Rattle.across.specs.laws.Rows.{across-misplaced, first_absent, second-absent, equal-absent, across-accepted}
use mathlib.Core.Path.{sym, ◌∙◌}
use Rattle.across.proofs.of_across.Goals as goal
use Rattle.across.proofs.of_across.Goals.{then-points-m-via-then-points-m, then-points-m-via-else-points-m+then-points-n, then-points-m-via-else-points-m+else-points-n+then-m-n}

pub returns-then-not-is_holding : goal.returns-then-not-is_holding
returns-then-not-is_holding c = let a = c.args in across-misplaced a.d a.m a.n (sym c.is_holding.ensures ∙ c.if-not-is_holding.true)

pub returns-then-points-m : goal.returns-then-points-m
returns-then-points-m c =
    let a = c.args in
    let l = sym c.is_holding.ensures ∙ c.if-not-is_holding.false in
    elim c.then-points-m.branch [
      | then-points-m-via-then-points-m w ↦ first_absent a.d a.m a.n l w.if-points-m.true
      | then-points-m-via-else-points-m+then-points-n w ↦ second-absent a.d a.m a.n l w.if-points-m.false w.if-points-n.true
      | then-points-m-via-else-points-m+else-points-n+then-m-n w ↦ equal-absent a.d a.m a.n l w.if-points-m.false w.if-points-n.false w.if-m-n.true
    ]

pub returns : goal.returns
returns c = let a = c.args in across-accepted a.d a.m a.n (sym c.is_holding.ensures ∙ c.if-not-is_holding.false) c.if-points-m.false c.if-points-n.false c.if-m-n.false
