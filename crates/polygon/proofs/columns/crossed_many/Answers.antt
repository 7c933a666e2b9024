-- `polygon::columns::crossed_many` meets its contract. As `crossed_few`, in larger room.
use native.Mathlib.Omega.{arith}
use mathlib.Core.Path.{◌∙◌}
use Rattle.polygon.proofs.Filled.{spread_is, crossed_is}
use Rattle.polygon.proofs.columns.crossed_many.Goals as goal

pub first_crossed-requires : goal.first_crossed-requires
first_crossed-requires c = let h = c.requires.in_bounds in
    record { spread = spread_is c.args.points.now.coords h.1 (omega arith) c.fill.ensures c.fill-2.ensures; le_m = (omega arith, omega arith) }

pub returns-clause-first : goal.returns-clause-first
returns-clause-first c = let h = c.requires.in_bounds in
    c.first_crossed.ensures.first ∙ crossed_is c.args.points.now.coords h.1 (omega arith) c.fill.ensures c.fill-2.ensures
