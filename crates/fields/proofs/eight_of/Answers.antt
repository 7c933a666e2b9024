-- `eight_of` meets its contract: what its steps give is the number of the digits.
use Rattle.std.proofs.Common.{arith, ap, ◌∙◌}
use Rattle.hexadecimal.specs.Hex.{number}
use Rattle.fields.specs.laws.Lanes.{values_few_8, number_of_8}
use Rattle.fields.proofs.Arrays.{word_8, list_8, first_4, next_4}
use Rattle.fields.proofs.eight_of.Goals as goal

pub overflow_mul-y : goal.overflow_mul-y
overflow_mul-y c =
    let s = c.args.digits in
    let e = word_8 s c.from_le_bytes-w.ensures in
    let h = values_few_8 _ _ _ _ _ _ _ _ (first_4 s (omega arith) c.requires) (next_4 s (omega arith) c.requires) in
    rw e (omega arith)

pub overflow_add-y : goal.overflow_add-y
overflow_add-y c =
    let s = c.args.digits in
    let e = word_8 s c.from_le_bytes-w.ensures in
    let h = values_few_8 _ _ _ _ _ _ _ _ (first_4 s (omega arith) c.requires) (next_4 s (omega arith) c.requires) in
    rw e (omega arith)

pub returns : goal.returns
returns c =
    let s = c.args.digits in
    let e = word_8 s c.from_le_bytes-w.ensures in
    rw e
    (number_of_8 _ _ _ _ _ _ _ _ (first_4 s (omega arith) c.requires) (next_4 s (omega arith) c.requires) ∙ ap number (list_8 s (omega arith)), omega arith)
