-- `eight` meets its contract: the eight bytes are the field.
use Rattle.std.proofs.Common.{arith}
use Rattle.fields.specs.laws.Lanes.{hex_of_4}
use Rattle.fields.proofs.Arrays.{hex_4, hex_none}
use Rattle.fields.proofs.eight.Goals as goal

pub eight_of-requires : goal.eight_of-requires
eight_of-requires c = let l = c.args.line.now in
    hex_4 _ (hex_of_4 l _ _ _ _ c.requires.hex (omega arith) (omega arith) (omega arith) (omega arith))
    (hex_4 _ (hex_of_4 l _ _ _ _ c.requires.hex (omega arith) (omega arith) (omega arith) (omega arith)) hex_none)
