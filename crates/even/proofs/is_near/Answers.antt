-- `even::is_near` meets its contract.
use mathlib.Core.Path.{ap₂}
use lib.Dec.{leb}
use Rattle.even.proofs.is_near.Goals as goal

pub returns : goal.returns
returns c = ap₂ leb c.off.ensures c.reach_of.ensures
