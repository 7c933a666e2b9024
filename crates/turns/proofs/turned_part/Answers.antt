-- `turns::turned_part` meets its contract: the part of a closed ring changes its sign, and that of an open one is summed.
use Rattle.std.proofs.Common.{sym, ◌∙◌}
use borrow.Author.Tests.{not-true}
use Rattle.ring.specs.Entries.{is_unclosed}
use Rattle.turns.specs.laws.Turned.{negated_fits, negated-is}
use Rattle.turns.proofs.turned_part.Goals as goal

pub overflow_sub-result : goal.overflow_sub-result
overflow_sub-result c = negated_fits c.args.points.now.coords c.requires.known c.args.before c.requires.before_value (not-true (is_unclosed c.args.ring.now) (sym c.is_closed.ensures ∙ c.if-is_closed.true)) c.ranges.before

pub returns-then-is_closed : goal.returns-then-is_closed
returns-then-is_closed c = negated-is c.args.points.now.coords c.requires.known c.args.before c.requires.before_value (not-true (is_unclosed c.args.ring.now) (sym c.is_closed.ensures ∙ c.if-is_closed.true)) c.ranges.before
