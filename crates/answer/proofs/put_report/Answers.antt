-- `put_report` meets its contract, field by field; the six-volume goes out as its 64 bits.
use mathlib.Core.Path.{refl, ◌∙◌}
use Rattle.hexadecimal.specs.Hex.{bits64}
use Rattle.answer.specs.Answer.{reported}
use Rattle.answer.specs.laws.Room.{put_first, put_then, put_end}
use Rattle.answer.proofs.Bits.{bits_are}
use Rattle.answer.proofs.put_report.Goals as goal

pub returns : goal.returns
unfolding reported
returns c = let a = c.args in
    let b = c.cast_unsigned.ensures ∙ bits_are a.volume c.ranges.volume in
    let e = rw b at c.put_digits-6.ensures in
    put_end
    (put_then 16 (bits64 a.volume)
    (put_then 4 a.faulty
    (put_then 4 a.b
    (put_then 4 a.a
    (put_then 2 a.check
    (put_first 2 0 c.put_digits.ensures)
    (rw c.from.ensures at c.put_digits-2.ensures))
    c.put_digits-3.ensures)
    c.put_digits-4.ensures)
    c.put_digits-5.ensures)
    e)
    refl
