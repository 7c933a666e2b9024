-- What is left to show of `names_absent`.
use Rattle.whole.specs.laws.Search.{any_here, any_next, any_end}
use borrow.Author.Tests.{le-leb, lt-leb}
use Rattle.frame.specs.Frame.{numbers}
use native.Mathlib.Omega.{arith}
use lib.Dec.{leb}
use lib.ListN.{drop, get_or}
use mathlib.Core.Path.{sym, ◌∙◌}
use Rattle.rings.proofs.names_absent.Goals as goal

pub returns-then-points-e : goal.returns-then-points-e
returns-then-points-e c = let t = leb c.args.points in
    let e = c.entry.ensures in
    let n = c.requires.count in
    sym (any_here t (numbers (drop 2 c.args.line.now)) c.loop-i.i 0 (omega arith) (le-leb c.args.points (get_or (numbers (drop 2 c.args.line.now)) c.loop-i.i 0) (omega arith))) ∙ c.loop-i.invariant

pub loop-i-preserved : goal.loop-i-preserved
loop-i-preserved c = let t = leb c.args.points in
    let e = c.entry.ensures in
    let n = c.requires.count in
    sym (any_next t (numbers (drop 2 c.args.line.now)) c.loop-i.i 0 (omega arith) (lt-leb c.args.points (get_or (numbers (drop 2 c.args.line.now)) c.loop-i.i 0) (omega arith))) ∙ c.loop-i.invariant

pub returns : goal.returns
returns c = let n = c.requires.count in
    sym (any_end (leb c.args.points) (numbers (drop 2 c.args.line.now)) c.loop-i.i (omega arith)) ∙ c.loop-i.invariant
