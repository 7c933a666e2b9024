-- What is left to show of `each_hex`.
use Rattle.std.proofs.Common.{sym, ◌∙◌}
use Rattle.hexadecimal.specs.laws.Digits.{hex_turn, hex_end}
use Rattle.hexadecimal.proofs.each_hex.Goals as goal

pub loop-b-preserved : goal.loop-b-preserved
loop-b-preserved c = let l = c.loop-b in
    hex_turn _ l.b-index l.good c.is_hex-good.result c.loop-b-test.true c.is_hex-good.ensures ∙ l.invariant

pub returns : goal.returns
returns c = sym (hex_end _ _ _ c.loop-b-test.false) ∙ c.loop-b.invariant
