-- What is left to show of `copy_ring`.
use Rattle.rings.specs.laws.Copied.{copied_none, copied_more, copied_all}
use Rattle.frame.specs.Frame.{numbers}
use native.Mathlib.Omega.{arith}
use lib.ListN.{drop}
use Rattle.rings.proofs.copy_ring.Goals as goal

pub loop-i-init : goal.loop-i-init
loop-i-init c = copied_none (numbers (drop 2 c.args.line.now)) c.args.entries.now c.args.from (omega arith)

pub loop-i-preserved : goal.loop-i-preserved
loop-i-preserved c = let n = c.requires.0.count in
    copied_more c.loop-i.invariant (omega arith) c.entry.result c.entry.ensures

pub returns : goal.returns
returns c = let n = c.requires.0.count in
    copied_all c.loop-i.invariant (omega arith)
