-- `apart::seeded` meets its contract.
use mathlib.Core.Path.{sym, subst}
use Rattle.reach.specs.laws.Marks.{words-blank}
use Rattle.apart.specs.held.Reaching.{Seeded}
use Rattle.apart.proofs.Lowest.{seed_first}
use Rattle.apart.proofs.seeded.Goals as goal

pub returns : goal.returns
returns c = subst Seeded (sym c.mark.ensures.1) (seed_first _ (words-blank 4))
