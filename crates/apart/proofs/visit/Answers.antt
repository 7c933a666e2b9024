-- What is left to show of `visit`.
use Prim.Native.Nat.{◌-◌}
use Rattle.apart.proofs.Queues.{visit-more}
use native.Mathlib.Omega.{arith}
use Rattle.apart.proofs.visit.Goals as goal

pub loop-j-preserved : goal.loop-j-preserved
loop-j-preserved c = let r = c.requires in
    let taken = c.loop-j-test.true in
    rw c.from-j-in-loop-j.ensures
    (visit-more _ _ _ _ _ _ _ _ _ c.loop-j.invariant (c.loop-j.j - 1) _ _ (omega (arith, taken)) r.3 c.mate.ensures c.node_of-q.ensures.0 _ _ _ _ c.note.ensures (r.1.nexts (c.loop-j.j - 1) (omega (arith, c.loop-j.invariant.within, taken))))
