-- `asking::of_question` meets its contract.
use Rattle.asking.specs.laws.Rows.{question_misplaced, question-absent, question-accepted}
use mathlib.Core.Path.{sym, ◌∙◌}
use Rattle.asking.proofs.of_question.Goals as goal

pub returns-then-not-is_holding : goal.returns-then-not-is_holding
returns-then-not-is_holding c = question_misplaced c.args.d c.args.p (sym c.is_holding.ensures ∙ c.if-not-is_holding.true)

pub returns-then-d-p : goal.returns-then-d-p
returns-then-d-p c = question-absent c.args.d c.args.p (sym c.is_holding.ensures ∙ c.if-not-is_holding.false) c.if-d-p.true

pub returns : goal.returns
returns c = question-accepted c.args.d c.args.p (sym c.is_holding.ensures ∙ c.if-not-is_holding.false) c.if-d-p.false
