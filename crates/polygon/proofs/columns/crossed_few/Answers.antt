-- `polygon::columns::crossed_few` meets its contract. Two columns are filled, and the edges between them are those of the definition.
use mathlib.Core.Path.{◌∙◌}
use Rattle.polygon.proofs.Filled.{spread_is, crossed_is}
use Rattle.polygon.proofs.columns.crossed_few.Goals as goal

pub first_crossed-requires : goal.first_crossed-requires
first_crossed-requires c = let h = c.requires.in_bounds in
    spread_is c.args.points.now.coords h.1 h.0 c.fill.ensures c.fill-2.ensures

pub returns-clause-first : goal.returns-clause-first
returns-clause-first c = let h = c.requires.in_bounds in
    c.first_crossed.ensures.first ∙ crossed_is c.args.points.now.coords h.1 h.0 c.fill.ensures c.fill-2.ensures
