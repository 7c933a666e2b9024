-- What is left to show of `sweep_down`.
use Prim.Native.Nat.{◌*◌, ◌/◌}
use native.Mathlib.Omega.{arith}
use mathlib.Core.Path.{◌≡◌, ◌∙◌}
use Rattle.bits.specs.laws.Words.{spread_small}
use Rattle.reach.specs.laws.Marks.{words_marks}
use Rattle.apart.proofs.Sweeps.{down-none, down_more}
use Rattle.apart.proofs.sweep_down.Goals as goal

pub loop-i-init : goal.loop-i-init
loop-i-init c = let whole : 2 * (c.args.from / 2) ≡ c.args.from = omega (arith, c.requires.1) in
    (c.told-marks, rw whole (down-none _ _ _ c.requires.1))

pub loop-i-preserved : goal.loop-i-preserved
loop-i-preserved c = let l = c.loop-i.invariant in
    let j = c.join-some.ensures in
    (j.0 ∙ l.0, down_more _ _ _ _ _ _ _ _ _ _ _ (words_marks 4 _ l.0).size (spread_small 64 _) l.1 (omega arith) c.requires.0 c.node_of-p.ensures.0 c.node_of-q.ensures.0 (omega arith) (omega arith) j.1)
