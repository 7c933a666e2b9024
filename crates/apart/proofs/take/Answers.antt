-- `apart::take` meets its contract.
use Rattle.apart.proofs.Chains.{lists-blank}
use Rattle.apart.proofs.take.Goals as goal

pub lists-requires : goal.lists-requires
lists-requires c = (c.requires.0, lists-blank _)
