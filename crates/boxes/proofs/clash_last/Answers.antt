-- `boxes::clash_last` meets its contract. The last edge is the neighbour before the first.
use Rattle.std.proofs.Common.{◌+◌, ◌-◌, arith, ap₂, ◌∙◌, eq-eqb}
use Rattle.plane.specs.Plane.{share_more_of}
use Rattle.crossing.proofs.laws.Pairs.{clash-last}
use Rattle.boxes.proofs.clash_last.Goals as goal

pub returns : goal.returns
returns c = let m = c.args.columns.now.m in
    c.share_more.ensures ∙ ap₂ share_more_of c.edge.ensures c.edge-2.ensures
    ∙ clash-last m 0 (m - 1) _ _ (omega arith) (λ z. omega arith) (eq-eqb (m - 1 + 1) m (omega arith))
