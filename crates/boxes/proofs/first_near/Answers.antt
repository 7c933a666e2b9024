-- `boxes::first_near` meets its contract. The last and the first, then edges that follow one another.
use Rattle.std.proofs.Common.{arith, sym, ◌∙◌}
use Rattle.boxes.proofs.Nexts.{near_next, near_last}
use Rattle.boxes.proofs.first_near.Goals as goal

pub returns-then-columns-lt3 : goal.returns-then-columns-lt3
returns-then-columns-lt3 c = near_next _ c.first_next.ensures (λ h. absurd (omega (arith, h, c.if-columns-lt3.true)))

pub returns-then-clash_last : goal.returns-then-clash_last
returns-then-clash_last c = near_last _ c.if-columns-lt3.false (sym c.clash_last.ensures ∙ c.if-clash_last.true)

pub returns-then-clash_nexts : goal.returns-then-clash_nexts
returns-then-clash_nexts c = near_next _ c.first_next-then-clash_nexts.ensures (λ h. sym c.clash_last.ensures ∙ c.if-clash_last.false)
