-- What is left to show of `first_off`.
use native.Mathlib.Nat.{le_trans, le_of_eq, lt_of_lt_of_le}
use native.Mathlib.Omega.{arith}
use Prim.Native.Nat.{ℕ}
use mathlib.Core.Path.{◌≡◌, sym, subst}
use lib.ListN.{length}
use Rattle.even.specs.held.Offs.{Within}
use Rattle.space.specs.held.Points.{as_point}
use Rattle.even.proofs.Ways.{within_none, within_more}
use Rattle.even.proofs.first_off.Goals as goal

pub loop-i-init : goal.loop-i-init
loop-i-init c = within_none c.args.points.now.flat (as_point c.args.n) c.args.ring.now c.args.reach 0 (omega arith)

pub off-requires : goal.off-requires
off-requires c = record { first_bound = (c.requires.listed.each 0 (omega arith), c.requires.listed.each c.loop-i.i c.loop-i-test.true); near = c.requires.near }

pub returns-then-reach-off-clause-next : goal.returns-then-reach-off-clause-next
returns-then-reach-off-clause-next c = record { within = c.loop-i.invariant; beyond = λ _. lt_of_lt_of_le c.if-reach-off.true (le_of_eq c.off.ensures) }

pub loop-i-preserved : goal.loop-i-preserved
loop-i-preserved c = within_more c.loop-i.invariant c.loop-i-test.true (le_trans (le_of_eq (sym c.off.ensures)) c.if-reach-off.false)

pub returns-clause-next : goal.returns-clause-next
returns-clause-next c = let e : c.loop-i.i ≡ length c.args.ring.now = omega arith in
    record {
      within = subst (λ (m : ℕ). Within c.args.points.now.flat (as_point c.args.n) c.args.ring.now c.args.reach 0 m) e c.loop-i.invariant;
      beyond = λ l. absurd (omega (arith, l));
    }
