-- `digit_value` meets its contract: what the bits of the byte give is the number of the digit.
use Rattle.hexadecimal.specs.laws.Digits.{digit_is}
use Rattle.fields.proofs.digit_value.Goals as goal

pub returns : goal.returns
returns c = rw c.from.ensures (digit_is c.args.b c.requires)
