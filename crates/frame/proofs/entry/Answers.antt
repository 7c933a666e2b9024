-- `entry` meets its contract: the i-th point number is the field of four digits at 2 + 4i.
use native.Mathlib.Omega.{arith}
use mathlib.Core.Path.{◌∙◌}
use borrow.Author.Rules.{rules}
use Rattle.frame.specs.laws.Decoded.{entry-inside, entry_is}
use Rattle.frame.proofs.entry.Goals as goal

pub overflow_mul-i : goal.overflow_mul-i
overflow_mul-i c = omega (arith, entry-inside c.args.line.now c.args.i c.requires)

pub overflow_add-i : goal.overflow_add-i
overflow_add-i c = omega (arith, entry-inside c.args.line.now c.args.i c.requires)

pub unsigned-requires : goal.unsigned-requires
unsigned-requires c = let a = c.args in
    let h = entry-inside a.line.now a.i c.requires in
    record { hex = c.requires.hex; inside = omega arith; short = search rules }

pub returns : goal.returns
returns c = let a = c.args in
    c.unsigned.ensures.0 ∙ entry_is a.line.now a.i c.requires
