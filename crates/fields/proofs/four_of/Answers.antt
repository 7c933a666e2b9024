-- `four_of` meets its contract: what its steps give is the number of the digits.
use Rattle.std.proofs.Common.{arith, ap, ◌∙◌}
use Rattle.hexadecimal.specs.Hex.{number}
use Rattle.fields.specs.laws.Lanes.{number_of_4}
use Rattle.fields.proofs.Arrays.{word_4, list_4, first_4}
use Rattle.fields.proofs.four_of.Goals as goal

pub returns : goal.returns
returns c =
    let s = c.args.digits in
    let e = word_4 s (c.from-w.ensures ∙ c.from_le_bytes.ensures) in
    rw e (number_of_4 _ _ _ _ (first_4 s (omega arith) c.requires) ∙ ap number (list_4 s (omega arith)), omega arith)
