-- `taken::lifted` meets its contract: within the bound the sum is not negative.
use Rattle.taken.specs.laws.Buckets.{lift-seen}
use Rattle.taken.proofs.lifted.Goals as goal

pub returns : goal.returns
returns c = rw (lift-seen c.requires)
