-- What is left to show of `Tables::cross`.
use Prim.Native.Nat.{◌+◌, ◌*◌}
use native.Mathlib.Omega.{arith}
use mathlib.Core.Path.{◌≡◌}
use Rattle.links.proofs.Crossings.{out_pair, inn_pair, crossed}
use Rattle.links.proofs.Tables.cross.Goals as goal

pub loop-i-preserved : goal.loop-i-preserved
loop-i-preserved c = let l = c.loop-i.invariant in
    let a = c.across.ensures in
    let b = c.across-in-loop-i.ensures in
    let next : 2 * (c.loop-i.i + 1) ≡ 2 * c.loop-i.i + 2 = omega arith in
    (rw (next, b.0, a.0) (out_pair _ _ _ (omega arith) (omega arith) l.0), rw (next, b.1, a.1) (inn_pair _ _ _ (omega arith) (omega arith) l.1))

pub returns : goal.returns
returns c = let l = c.loop-i.invariant in crossed _ _ _ _ l.0 l.1 (omega arith) (omega arith)
