-- `apart::unreached` meets its contract.
use Rattle.bits.specs.laws.Words.{spread_small}
use Rattle.apart.proofs.Lowest.{lowest_of-spread}
use Rattle.apart.proofs.unreached.Goals as goal

pub returns-then-spread : goal.returns-then-spread
returns-then-spread c = let r = c.lowest_below.ensures in
    (r.0, λ _. lowest_of-spread _ _ _ _ _ c.seeded-marks.ensures (c.spread.ensures c.if-spread.true) (spread_small 64 _) r.1)
