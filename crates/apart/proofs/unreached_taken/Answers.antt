-- `apart::unreached_taken` meets its contract.
use Rattle.bits.specs.laws.Words.{spread_small}
use Rattle.apart.proofs.Lowest.{lowest_of-spread, flood_spreads}
use Rattle.apart.proofs.unreached_taken.Goals as goal

pub returns : goal.returns
returns c = let r = c.lowest_below.ensures in
    (r.0, λ _. lowest_of-spread _ _ _ _ _ c.seeded-marks.ensures (flood_spreads _ _ _ _ c.take.ensures) (spread_small 64 _) r.1)
