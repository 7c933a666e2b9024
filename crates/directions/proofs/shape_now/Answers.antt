-- `directions::shape_now` meets its contract.
use mathlib.Core.Path.{sym, ◌∙◌}
use Rattle.directions.proofs.Now.{early-now, late_now}
use Rattle.directions.proofs.shape_now.Goals as goal

pub returns-then-is_early : goal.returns-then-is_early
returns-then-is_early c = early-now _ _ (sym c.is_early.ensures ∙ c.if-is_early.true)

pub returns : goal.returns
returns c = late_now _ _ _ (sym c.is_early.ensures ∙ c.if-is_early.false) c.alike.ensures
