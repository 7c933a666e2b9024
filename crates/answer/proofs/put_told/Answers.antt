-- `put_told` meets its contract, field by field; the part goes out as its 64 bits.
use mathlib.Core.Path.{refl, ◌∙◌}
use Rattle.hexadecimal.specs.Hex.{bits64}
use Rattle.answer.specs.Answer.{told}
use Rattle.answer.specs.laws.Room.{put_first, put_then, put_end}
use Rattle.answer.proofs.Bits.{bits_are}
use Rattle.answer.proofs.put_told.Goals as goal

pub returns : goal.returns
unfolding told
returns c = let a = c.args in
    let b = c.cast_unsigned.ensures ∙ bits_are a.part c.ranges.part in
    let e = rw b at c.put_digits-5.ensures in
    put_end
    (put_then 16 (bits64 a.part)
    (put_then 8 a.stamp
    (put_then 4 a.position
    (put_then 2 a.finding
    (put_first 2 0 c.put_digits.ensures)
    (rw c.from.ensures at c.put_digits-2.ensures))
    c.put_digits-3.ensures)
    (rw c.from-2.ensures at c.put_digits-4.ensures))
    e)
    refl
