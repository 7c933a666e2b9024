-- What is left to show of `put_digits`.
use Rattle.std.proofs.Common.{◌≡◌, ◌∙◌, arith}
use Rattle.hexadecimal.specs.Hex.{digits}
use Rattle.answer.specs.laws.Room.{put_turn}
use Rattle.answer.proofs.put_digits.Goals as goal

pub loop-i-preserved : goal.loop-i-preserved
loop-i-preserved c = rw c.digit_of.ensures (put_turn _ _ _ _ (omega arith)) ∙ c.loop-i.invariant

pub returns : goal.returns
unfolding digits
returns c = let e : c.loop-i.i ≡ 0 = omega arith in
    rw e at c.loop-i.invariant
