-- What is left to show of `Columns::first_crossed`.
use Rattle.std.proofs.Common.{◌≡◌, arith, sym, ◌∙◌}
use Rattle.crossing.proofs.laws.Pairs.{clear-found, clear-end}
use Rattle.crossing.proofs.Columns.first_crossed.Goals as goal

pub returns-then-clashes-clause-first : goal.returns-then-clashes-clause-first
returns-then-clashes-clause-first c = clear-found _ _ _ c.loop-i.invariant (omega arith) c.loop-i-test.true (sym c.clashes.ensures ∙ c.if-clashes.true)

pub returns-clause-first : goal.returns-clause-first
returns-clause-first c = let z : c.args.self.now.m ≡ c.loop-i.i = omega arith in z ∙ clear-end _ _ _ c.loop-i.invariant (omega arith) (omega arith)
