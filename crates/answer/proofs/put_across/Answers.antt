-- `put_across` meets its contract, field by field.
use mathlib.Core.Path.{refl}
use Rattle.answer.specs.Answer.{across}
use Rattle.answer.specs.laws.Room.{put_first, put_then, put_end}
use Rattle.answer.proofs.put_across.Goals as goal

pub returns : goal.returns
unfolding across
returns c = let a = c.args in
    put_end
    (put_then 4 a.second
    (put_then 4 a.lowest
    (put_then 4 a.users
    (put_first 2 0 c.put_digits.ensures)
    c.put_digits-2.ensures)
    c.put_digits-3.ensures)
    c.put_digits-4.ensures)
    refl
