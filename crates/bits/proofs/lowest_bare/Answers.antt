-- What is left to show of `lowest_bare`.
use native.Mathlib.Omega.{arith}
use Rattle.bits.specs.laws.Words.{full-more, full-stop, full_end}
use Rattle.bits.proofs.lowest_bare.Goals as goal

pub returns-then-k-lt64 : goal.returns-then-k-lt64
returns-then-k-lt64 c = let k = c.trailing_ones-k.ensures in
    full-stop 64 _ _ _ c.loop-i.invariant c.loop-i-test.true k.0 k.1 c.if-k-lt64.true

pub loop-i-preserved : goal.loop-i-preserved
loop-i-preserved c = let k = c.trailing_ones-k.ensures in
    full-more 64 _ _ _ c.loop-i.invariant c.loop-i-test.true k.0 k.1 (λ h. omega (arith, c.if-k-lt64.false))

pub returns : goal.returns
returns c = full_end 64 _ _ c.loop-i.invariant (omega arith)
