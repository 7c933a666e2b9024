-- `misplaced::corners::two_nested` meets its contract. Either in the other.
use mathlib.Core.Path.{ap₂}
use mathlib.Core.Bool.{◌||◌}
use Rattle.misplaced.proofs.corners.two_nested.Goals as goal

pub returns : goal.returns
returns c = ap₂ ◌||◌ c.stands_in-within.ensures c.stands_in-around.ensures
