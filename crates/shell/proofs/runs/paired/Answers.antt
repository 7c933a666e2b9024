-- What is left to show of `runs::paired`.
use Prim.Native.Nat.{◌+◌, ◌*◌, ◌-◌}
use native.Mathlib.Omega.{arith}
use mathlib.Core.Path.{◌≡◌, sym}
use mathlib.Core.Bool.{and_assoc, true≢false}
use borrow.Author.Tests.{eq-eqb, ne_eqb}
use lib.ListN.{length}
use Rattle.shell.specs.laws.Keys.{pair-next, pair-last, unpaired}
use Rattle.shell.proofs.runs.paired.Goals as goal

pub loop-p-preserved : goal.loop-p-preserved
loop-p-preserved c = let next : 2 * (c.loop-p.p + 1) ≡ 2 * c.loop-p.p + 2 = omega arith in
    rw (next, ← and_assoc _ _ _)
    (pair-next c.args.words.now c.requires (2 * c.loop-p.p) c.loop-p.two c.loop-p.invariant (omega arith) _ _ c.key_of-a.ensures c.key_of-b.ensures (omega arith) _ c.key_of-c.ensures (omega arith))

pub returns-then-n-eq0 : goal.returns-then-n-eq0
returns-then-n-eq0 c = let l = c.args.words.now in
    ((λ _. (unpaired l c.requires (2 * c.loop-p.p) c.loop-p.two c.loop-p.invariant (omega arith) (omega arith)).0 (eq-eqb _ _ (omega arith))), (λ e. absurd (true≢false e)))

pub returns-then-n-eq1 : goal.returns-then-n-eq1
returns-then-n-eq1 c = let l = c.args.words.now in
    ((λ e. absurd (true≢false (sym e))), (λ _. (unpaired l c.requires (2 * c.loop-p.p) c.loop-p.two c.loop-p.invariant (omega arith) (omega arith)).1 (ne_eqb _ _ (omega arith))))

pub returns : goal.returns
returns c = let l = c.args.words.now in
    let last : 2 * c.loop-p.p ≡ length l - 2 = omega arith in
    pair-last l c.requires (length l - 2) c.loop-p.two (rw last at c.loop-p.invariant) (omega arith) _ _ c.key_of.ensures c.key_of-2.ensures (omega arith) (omega arith)
