-- What is left to show of `sweep_up`.
use Prim.Native.Nat.{◌+◌, ◌*◌}
use native.Mathlib.Omega.{arith}
use mathlib.Core.Path.{◌≡◌, ◌∙◌}
use Rattle.bits.specs.laws.Words.{spread_small}
use Rattle.reach.specs.laws.Marks.{words_marks}
use Rattle.apart.proofs.Sweeps.{up_none, up_still, up_marked}
use Rattle.apart.proofs.sweep_up.Goals as goal
use Rattle.apart.proofs.sweep_up.Goals.{then-join, else-join}

pub loop-i-init : goal.loop-i-init
loop-i-init c = (c.told-marks, up_none _ _)

pub loop-i-preserved : goal.loop-i-preserved
loop-i-preserved c = let l = c.loop-i.invariant in
    let j = c.join.ensures in
    let next : 2 * (c.loop-i.i + 1) ≡ 2 * c.loop-i.i + 2 = omega arith in (
      j.0 ∙ l.0,
      elim c.if-join.branch [
        | then-join w ↦ rw (next, w.last-is) (up_marked _ _ _ _ _ _ _ _ _ (words_marks 4 _ l.0).size (spread_small 64 _) l.1 (omega arith) c.node_of-p.ensures.0 c.node_of-q.ensures.0 (omega arith) (omega arith) j.1)
        | else-join w ↦ rw (next, w.last-is) (up_still _ _ _ _ _ _ _ _ _ (words_marks 4 _ l.0).size (spread_small 64 _) l.1 (omega arith) c.node_of-p.ensures.0 c.node_of-q.ensures.0 (omega arith) (omega arith) j.1 w.if-join.false)
      ],
    )
