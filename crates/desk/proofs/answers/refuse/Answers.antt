-- `desk::answers::refuse` meets its contract.
use Rattle.desk.specs.laws.Dids.{did_digits}
use Rattle.desk.proofs.answers.refuse.Goals as goal

pub returns : goal.returns
returns c = λ a v. did_digits a c.args.d v c.args.r c.refusal_number-number.result c.refusal_number-number.ensures c.args.room.now _ _ c.put_plain-at.ensures
