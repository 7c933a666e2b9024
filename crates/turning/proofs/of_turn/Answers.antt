-- `turning::of_turn` meets its contract.
use Rattle.turning.specs.laws.Rows.{turn-misplaced, turn-late, turn-absent, turn-accepted}
use mathlib.Core.Path.{sym, ◌∙◌}
use Rattle.turning.proofs.of_turn.Goals as goal

pub returns-then-not-is_holding : goal.returns-then-not-is_holding
returns-then-not-is_holding c = turn-misplaced c.args.d c.args.number c.args.p (sym c.is_holding.ensures ∙ c.if-not-is_holding.true)

pub returns-then-number-d : goal.returns-then-number-d
returns-then-number-d c = turn-late c.args.d c.args.number c.args.p (sym c.is_holding.ensures ∙ c.if-not-is_holding.false) c.if-number-d.true

pub returns-then-d-p : goal.returns-then-d-p
returns-then-d-p c = turn-absent c.args.d c.args.number c.args.p (sym c.is_holding.ensures ∙ c.if-not-is_holding.false) c.if-number-d.false c.if-d-p.true

pub returns : goal.returns
returns c = turn-accepted c.args.d c.args.number c.args.p (sym c.is_holding.ensures ∙ c.if-not-is_holding.false) c.if-number-d.false c.if-d-p.false
