-- What is left to show of `alike`.
use mathlib.Core.Path.{sym, ◌∙◌}
use Rattle.directions.proofs.Now.{alike_skip, alike_hit, alike_end, ends-alike, no_alike}
use native.Mathlib.Omega.{arith}
use Rattle.directions.proofs.alike.Goals as goal

pub returns-then-a-b : goal.returns-then-a-b
returns-then-a-b c = let s = c.in-Some.ensures.steps in
    ends-alike _ _ _ _ c.key_of-k.ensures (sym c.loop-pair.invariant.1 ∙ alike_hit _ _ _ _ s.1.0 (s.1.1 ∙ c.loop-pair.invariant.0) (sym c.heading-a.ensures ∙ (c.if-a-b.true ∙ c.heading-b.ensures)))

pub loop-pair-preserved : goal.loop-pair-preserved
loop-pair-preserved c = let s = c.in-Some.ensures.steps in
    (s.0 ∙ c.loop-pair.invariant.0, sym (alike_skip _ _ _ _ s.1.0 (s.1.1 ∙ c.loop-pair.invariant.0) (λ e. c.if-a-b.false (c.heading-a.ensures ∙ (e ∙ sym c.heading-b.ensures)))) ∙ c.loop-pair.invariant.1)

pub returns : goal.returns
returns c = let s = c.in-None.ensures.steps in
    no_alike _ _ (sym c.loop-pair.invariant.1 ∙ alike_end c.args.turned.now _ (omega (arith, s.1.0, c.loop-pair.invariant.0)))
