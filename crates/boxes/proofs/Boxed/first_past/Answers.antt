-- What is left to show of `Boxed::first_past`.
use Rattle.std.proofs.Common.{◌≡◌, arith, sym, ◌∙◌}
use Rattle.crossing.proofs.laws.Pairs.{clear-found}
use Rattle.boxes.proofs.Nexts.{clear-near}
use Rattle.boxes.proofs.Boxed.first_past.Goals as goal

pub returns-then-clashes_boxed-clause-first : goal.returns-then-clashes_boxed-clause-first
returns-then-clashes_boxed-clause-first c = clear-found _ _ _ c.loop-i.invariant (omega arith) (omega arith) (sym c.clashes_boxed.ensures ∙ c.if-clashes_boxed.true)

pub returns-clause-first : goal.returns-clause-first
returns-clause-first c = let z : c.args.near ≡ c.loop-i.i = omega arith in z ∙ clear-near _ c.requires c.loop-i.invariant (omega arith)
