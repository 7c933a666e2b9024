-- `links::blank` meets its contract.
use Rattle.reach.specs.laws.Marks.{words-blank}
use Rattle.links.proofs.blank.Goals as goal

pub returns : goal.returns
returns c = words-blank 16
