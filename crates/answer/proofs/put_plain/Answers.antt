-- `put_plain` meets its contract: two digits and a line feed.
use mathlib.Core.Path.{refl}
use Rattle.answer.specs.Answer.{plain}
use Rattle.answer.specs.laws.Room.{put_first, put_end}
use Rattle.answer.proofs.put_plain.Goals as goal

pub returns : goal.returns
unfolding plain
returns c = put_end (put_first 2 c.args.n (rw c.from.ensures at c.put_digits.ensures)) refl
