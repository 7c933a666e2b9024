-- `boxes::Boxed::next_near` meets its contract. Edges of parted blocks are parted.
use Rattle.std.proofs.Common.{arith}
use Rattle.boxes.proofs.Nearness.{parted-blocks}
use Rattle.boxes.proofs.Boxed.next_near.Goals as goal

pub returns : goal.returns
returns c = let s = c.args.self.now.boxes in
    (omega arith, omega arith, parted-blocks s.on_u.blocks s.on-v.blocks c.args.e c.near-c.result c.near-c.ensures.2 _ (omega arith) (omega arith))
