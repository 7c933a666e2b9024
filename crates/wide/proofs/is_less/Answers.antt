-- `wide::is_less` meets its contract. By the order of two words, in the base 2^64.
use Rattle.std.specs.Prelude.{◌≡◌, ◌^◌, ◌<◌, Bool, nat_lt, ◌&&◌, ◌||◌, ◌==◌}
use Rattle.std.proofs.Common.{rules, arith, ◌∙◌}
use Rattle.wide.specs.declared.Wide.{Wide}
use Rattle.wide.specs.Value.{value}
use Rattle.wide.specs.laws.Order.{order}
use Rattle.wide.proofs.is_less.Goals as goal

-- an answer by the high words, and where they are one by the low words
by_words : {r : Bool} (a b : Wide) → a.low < 2 ^ 64 → b.low < 2 ^ 64 → r ≡ (nat_lt a.high b.high || a.high == b.high && nat_lt a.low b.low) → r ≡ nat_lt (value a) (value b)
by_words a b h l e = e ∙ order (2 ^ 64) a.high a.low b.high b.low h l

pub returns : goal.returns
returns c = by_words c.args.a c.args.b (omega arith) (omega arith) (search rules)
