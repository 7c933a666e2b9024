-- What is left to show of `take_all`.
use Rattle.whole.specs.laws.Places.{all_alike}
use Rattle.apart.proofs.Queues.{take_none, take_more, take_done}
use Prim.Native.Nat.{ℕ}
use lib.ListN.{length-replicate}
use Rattle.apart.proofs.take_all.Goals as goal

pub loop-from-init : goal.loop-from-init
loop-from-init c = take_none _ _ _ c.requires.2 (length-replicate {A = ℕ} 256 0) (all_alike 0 256 0)

pub loop-from-preserved : goal.loop-from-preserved
loop-from-preserved c = take_more _ _ _ _ _ _ c.loop-from.invariant c.loop-from-test.true _ _ _ (rw c.from-p.ensures at c.visit.ensures)

pub returns : goal.returns
returns c = take_done _ _ _ _ _ _ c.loop-from.invariant c.loop-from-test.false
