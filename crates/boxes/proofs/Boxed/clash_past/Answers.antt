-- `boxes::Boxed::clash_past` meets its contract. The boxes first; the edges are no neighbours.
use Rattle.std.proofs.Common.{arith, sym, ap₂, ◌∙◌}
use Rattle.plane.specs.Plane.{share}
use Rattle.crossing.proofs.laws.Pairs.{clash-other}
use Rattle.boxes.proofs.Nearness.{parted-edges}
use Rattle.boxes.proofs.Boxed.clash_past.Goals as goal

pub returns-then-parted : goal.returns-then-parted
returns-then-parted c = let h = c.requires in sym (parted-edges c.args.self.now.boxes c.args.i h.2 c.args.k h.0 h.1 (omega arith) (sym c.parted.ensures ∙ c.if-parted.true))

pub returns : goal.returns
returns c = c.share.ensures ∙ ap₂ share c.edge.ensures c.edge-2.ensures ∙ clash-other _ _ _ _ _ (omega arith) (λ z. omega arith) (c.requires.2.each c.args.k (omega arith))
