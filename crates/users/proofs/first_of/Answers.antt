-- What is left to show of `first_of`.
use Prim.Native.Nat.{◌+◌, ◌-◌, ◌/◌}
use native.Mathlib.Omega.{arith}
use Rattle.users.proofs.Search.{halving-up, halving-down, halving_done}
use Rattle.users.proofs.first_of.Goals as goal

pub loop-lo-init : goal.loop-lo-init
loop-lo-init c = c.requires.1

pub loop-lo-preserved-then-key_of-e : goal.loop-lo-preserved-then-key_of-e
loop-lo-preserved-then-key_of-e c = let lp = c.loop-lo in
    let key = c.key_of.ensures in
    halving-up c.args.words.now c.args.e c.requires.0 lp.lo lp.hi lp.invariant (lp.lo + (lp.hi - lp.lo) / 2) (omega arith) (omega (arith, c.loop-lo-test.true)) (omega (arith, key, c.if-key_of-e.true))

pub loop-lo-preserved : goal.loop-lo-preserved
loop-lo-preserved c = let lp = c.loop-lo in
    let key = c.key_of.ensures in
    halving-down c.args.words.now c.args.e c.requires.0 lp.lo lp.hi lp.invariant (lp.lo + (lp.hi - lp.lo) / 2) (omega arith) (omega (arith, c.loop-lo-test.true)) (omega (arith, key, c.if-key_of-e.false))

pub returns : goal.returns
returns c = let lp = c.loop-lo in
    let a = c.args in
    halving_done a.words.now a.e lp.lo lp.hi lp.invariant c.loop-lo-test.false
