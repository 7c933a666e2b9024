-- What is left to show of `first_uneven`.
use Prim.Native.Nat.{ℕ, ◌*◌}
use native.Mathlib.Nat.{le_trans, le_of_eq}
use native.Mathlib.Omega.{arith}
use mathlib.Core.Path.{◌≡◌, refl, ◌∙◌, ap, sym}
use Rattle.std.specs.Prelude.{Option, unwrap_or}
use lib.ListN.{length}
use lib.Dec.{ltb}
use Rattle.wide.specs.Value.{value}
use Rattle.space.specs.held.Points.{as_point}
use Rattle.even.proofs.Ways.{even_start, even_end, even-found, even-near, even-next, even_skip}
use Rattle.even.proofs.first_uneven.Goals as goal
use Rattle.even.proofs.first_uneven.Goals.{else-reach-size-via-then-reach-size+else-is_beyond, else-reach-size-via-else-reach-size}

pub reach_of-reach-requires : goal.reach_of-reach-requires
reach_of-reach-requires c = record { tolerance_bound = c.requires.in_bounds.1; near = c.requires.near }

pub first_off-requires : goal.first_off-requires
first_off-requires c = record { listed = c.requires.listed; in_bounds = c.requires.in_bounds.0; near = c.requires.near }

pub returns-in_err-from-clause-first : goal.returns-in_err-from-clause-first
returns-in_err-from-clause-first c = ap (λ (r : Option ℕ). unwrap_or r (length c.args.ring.now)) c.from_residual.ensures
    ∙ even_end c.args.tolerance (as_point c.args.n) c.args.points.now.coords c.requires.listed (even_skip c.args.tolerance (as_point c.args.n) c.args.points.now.coords c.requires.listed (even_start _ _ _ _) c.reach_of-reach.ensures c.in_err-from.ensures.next.within) refl

pub limit_of-limit-requires : goal.limit_of-limit-requires
limit_of-limit-requires c = record { tolerance_bound = c.requires.in_bounds.1; near = c.requires.near }

pub loop-i-init : goal.loop-i-init
loop-i-init c = even_skip c.args.tolerance (as_point c.args.n) c.args.points.now.coords c.requires.listed (even_start _ _ _ _) c.reach_of-reach.ensures c.in_ok-from.ensures.next.within

pub off-size-requires : goal.off-size-requires
off-size-requires c = record { first_bound = (c.requires.listed.each 0 (omega arith), c.requires.listed.each c.loop-i.i c.loop-i-test.true); near = c.requires.near }

pub returns-then-is_beyond-clause-first : goal.returns-then-is_beyond-clause-first
returns-then-is_beyond-clause-first c = let limit = c.limit_of-limit in
    even-found c.args.tolerance (as_point c.args.n) c.args.points.now.coords c.requires.listed c.loop-i.i c.loop-i-test.true c.loop-i.invariant (value limit.result) limit.ensures _ (c.is_beyond.ensures ∙ ap (λ (m : ℕ). ltb (value limit.result) (m * m)) c.off-size.ensures) c.if-is_beyond.true

pub loop-i-preserved : goal.loop-i-preserved
loop-i-preserved c = let limit = c.limit_of-limit in
    elim c.else-reach-size.branch [
      | else-reach-size-via-then-reach-size+else-is_beyond w ↦
          even-next c.args.tolerance (as_point c.args.n) c.args.points.now.coords c.requires.listed c.loop-i.i c.loop-i-test.true c.loop-i.invariant (value limit.result) limit.ensures _ (w.is_beyond.ensures ∙ ap (λ (m : ℕ). ltb (value limit.result) (m * m)) c.off-size.ensures) w.if-is_beyond.false
      | else-reach-size-via-else-reach-size w ↦
          even-near c.args.tolerance (as_point c.args.n) c.args.points.now.coords c.requires.listed c.loop-i.i c.loop-i-test.true c.loop-i.invariant (le_trans (le_of_eq (sym c.off-size.ensures)) (le_trans w.if-reach-size.false (le_of_eq c.reach_of-reach.ensures)))
    ]

pub returns-clause-first : goal.returns-clause-first
returns-clause-first c = let e : c.loop-i.i ≡ length c.args.ring.now = omega arith in
    sym e ∙ even_end c.args.tolerance (as_point c.args.n) c.args.points.now.coords c.requires.listed c.loop-i.invariant e
