-- `links::trace` meets its contract.
use Rattle.links.proofs.Trails.{trace-floods}
use Rattle.reach.specs.laws.Marks.{words_marks}
use Rattle.links.proofs.trace.Goals as goal

pub returns : goal.returns
returns c = λ a b. trace-floods _ _ _ _ _ (words_marks 16 _ c.told-marks).size c.cross.ensures c.walks.ensures a b
