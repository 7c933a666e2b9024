-- `directions::is_early` meets its contract.
use Rattle.shell.specs.held.Kept.{early}
use borrow.Author.Rules.{rules}
use Rattle.directions.proofs.is_early.Goals as goal

pub returns-in-Few : goal.returns-in-Few
unfolding early
returns-in-Few c = search rules

pub returns-in_default : goal.returns-in_default
unfolding early
returns-in_default c = search rules
