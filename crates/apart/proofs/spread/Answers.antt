-- `apart::spread` meets its contract.
use Rattle.bits.specs.laws.Words.{spread_small}
use Rattle.apart.proofs.Lowest.{unnamed}
use Rattle.apart.proofs.Sweeps.{spread-up, spread-still, spread-down}
use Rattle.apart.proofs.spread.Goals as goal

pub returns-then-is_none : goal.returns-then-is_none
returns-then-is_none c = λ _. spread-up _ _ _ _ _ c.sweep_up-last.ensures _ (spread_small 64 _) c.lowest_below.ensures.1 (unnamed _ _ _ c.is_none.ensures c.if-is_none.true)

pub returns-then-not-sweep_down : goal.returns-then-not-sweep_down
returns-then-not-sweep_down c = λ _. spread-still _ _ _ _ _ c.sweep_up-last.ensures _ _ c.sweep_down.ensures c.if-not-sweep_down.true

pub returns : goal.returns
returns c = λ e. spread-down _ _ _ _ _ c.sweep_up-last.ensures _ _ c.sweep_down.ensures _ (spread_small 64 _) c.lowest_below-2.ensures.1 (unnamed _ _ _ c.is_none-2.ensures e)
