-- `bits::count` meets its contract.
use Rattle.std.specs.Prelude.{◌≡◌, map, sum}
use Rattle.std.specs.Int.Count.{ones}
use Rattle.std.proofs.Common.{rules, ◌∙◌}
use Rattle.bits.specs.laws.Words.{ones_each}
use Rattle.bits.proofs.count.Goals as goal

pub returns : goal.returns
returns c = let e : c.sum.result ≡ sum (map ones c.args.marks.now) = search rules in e ∙ ones_each c.args.marks.now (λ i. (c.type_inv.marks i).fits)
