-- What is left to show of `each_digit`.
use native.Mathlib.Omega.{arith}
use borrow.Author.Rules.{rules}
use Rattle.hexadecimal.specs.Hex.{number, number_from}
use Rattle.hexadecimal.specs.laws.Digits.{number-turn, number_more, number_fits, all_hex-at}
use Rattle.fields.proofs.each_digit.Goals as goal

pub loop-i-init : goal.loop-i-init
unfolding number number_from
loop-i-init c = search rules

pub overflow_mul-v : goal.overflow_mul-v
overflow_mul-v c = omega (arith, number_fits c.loop-i.i c.loop-i.v (omega arith) c.loop-i.invariant.1)

pub digit_value-requires : goal.digit_value-requires
digit_value-requires c = all_hex-at _ _ c.requires.hex (omega arith)

pub overflow_add-v : goal.overflow_add-v
overflow_add-v c = let l = c.loop-i in
    omega (arith, number_fits l.i l.v (omega arith) l.invariant.1)

pub loop-i-preserved : goal.loop-i-preserved
loop-i-preserved c = let l = c.loop-i in
    let a = c.args in
    let p = c.requires in
    let e = number-turn a.line.now a.at l.i (omega arith) in
    (rw (e, ← l.invariant.0, c.digit_value.ensures.0), number_more l.i l.v c.digit_value.result l.invariant.1 c.digit_value.ensures.1)
