-- `four` meets its contract: the four bytes are the field.
use Rattle.std.proofs.Common.{arith}
use Rattle.fields.specs.laws.Lanes.{hex_of_4}
use Rattle.fields.proofs.Arrays.{hex_4, hex_none}
use Rattle.fields.proofs.four.Goals as goal

pub four_of-requires : goal.four_of-requires
four_of-requires c = hex_4 _ (hex_of_4 c.args.line.now _ _ _ _ c.requires.hex (omega arith) (omega arith) (omega arith) (omega arith)) hex_none
