-- `boxes::Boxed::clashes_eight` meets its contract. Where all boxes are parted, or all edges lie beside the line, there is nothing to find.
use Rattle.std.proofs.Common.{arith}
use Rattle.boxes.proofs.Nearness.{parted-row, beside-row}
use Rattle.boxes.proofs.Boxed.clashes_eight.Goals as goal

pub returns-then-eight_parted : goal.returns-then-eight_parted
returns-then-eight_parted c = let h = c.requires in
    parted-row c.args.self.now.boxes c.args.i h.5 c.eight_parted.ensures c.if-eight_parted.true h.0 c.args.e (omega arith) (omega arith) (omega arith) (omega arith)

pub returns-then-lie_beside : goal.returns-then-lie_beside
returns-then-lie_beside c = let h = c.requires in
    beside-row c.args.self.now.boxes c.args.i h.5 c.lie_beside.ensures c.if-lie_beside.true h.0 c.args.e (omega arith) (omega arith) (omega arith) (omega arith)
