-- What is left to show of `eight_beside`.
use Rattle.std.proofs.Common.{arith, ap, ◌∙◌, pos, ℤ}
use Rattle.std.specs.Int.{w64}
use Rattle.std.specs.Int.Signed.{lt_z}
use Rattle.whole.specs.laws.Size.{call_is}
use Rattle.plane.specs.Plane.{side}
use Rattle.plane.specs.laws.Numbers.{spot_back}
use Rattle.boxes.proofs.Siding.{close_at, held_more, beside_is}
use Rattle.boxes.proofs.eight_beside.Goals as goal

pub loop-k-preserved : goal.loop-k-preserved
loop-k-preserved c =
    let h = close_at c.args.columns.now c.loop-k.k (omega arith) in
    let z = call_is w64 c.side-s.type_inv (c.side-s.ensures ∙ (λ t. side (c.edge-e.ensures t).0 (c.edge-e.ensures t).1 (spot_back _ h t))) in
    (held_more c.loop-k.invariant.0 _ (ap (λ (x : ℤ). lt_z (pos 0) x) z), held_more c.loop-k.invariant.1 _ (ap (λ (x : ℤ). lt_z x (pos 0)) z))

pub returns : goal.returns
returns c = beside_is _ _ (omega arith) c.loop-k.invariant.0 c.loop-k.invariant.1
