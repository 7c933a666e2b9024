-- What is left to show of `pass`.
use Prim.Native.Nat.{◌+◌, ◌*◌}
use mathlib.Core.Path.{◌≡◌}
use native.Mathlib.Omega.{arith}
use Rattle.reach.specs.laws.Marks.{words_marks}
use Rattle.links.proofs.Firsts.{begin_more, begin_done}
use Rattle.links.proofs.pass.Goals as goal

pub loop-i-preserved : goal.loop-i-preserved
loop-i-preserved c = let at = c.loop-i in
    let next : 2 * (at.i + 1) ≡ 2 * at.i + 2 = omega arith in (
      omega arith,
      omega arith,
      λ es f. rw next
          (begin_more es _ _ f (omega arith) (omega arith) _ _ _ _ _ _ (words_marks 16 _ at.invariant.0).size (words_marks 16 _ at.invariant.1) (words_marks 16 c.meet.new.seen (omega arith)).size (words_marks 16 c.meet.new.marks (omega arith)) (at.invariant.2 es f) (rw (c.key_of-k.ensures, c.node_of.ensures.0, c.node_of-in-loop-i.ensures.0) at c.meet.ensures) (rw (c.key_of-k.ensures, c.node_of-in-loop-i-2.ensures.0, c.node_of-in-loop-i-3.ensures.0) at c.meet-in-loop-i.ensures)),
    )

pub returns : goal.returns
returns c = let at = c.loop-i.invariant in
    λ es k. begin_done es _ _ _ _ k (omega arith) (omega arith) (at.2 es k)
