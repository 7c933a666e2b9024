-- `ended::of_end` meets its contract.
use Rattle.ended.specs.laws.Rows.{end_misplaced, end_accepted}
use mathlib.Core.Path.{sym, ◌∙◌}
use Rattle.ended.proofs.of_end.Goals as goal

pub returns-then-not-is_loading : goal.returns-then-not-is_loading
returns-then-not-is_loading c = end_misplaced c.args.d (sym c.is_loading.ensures ∙ c.if-not-is_loading.true)

pub returns : goal.returns
returns c = end_accepted c.args.d (sym c.is_loading.ensures ∙ c.if-not-is_loading.false)
