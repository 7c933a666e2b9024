-- `digit_of` meets its contract: 7 more from 10 on.
use Rattle.hexadecimal.specs.laws.Digits.{digit_by}
use Rattle.answer.proofs.digit_of.Goals as goal

pub returns : goal.returns
returns c = digit_by c.args.n c.requires
