-- `apart::lists` meets its contract.
use Rattle.apart.specs.held.Reaching.{Listed}
use Rattle.apart.proofs.lists.Given as goal

abbrev pub invariant-loop-i : goal.invariant-loop-i
invariant-loop-i l = Listed l.words l.places.head l.places.chain l.i
