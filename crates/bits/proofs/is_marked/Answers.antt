-- `bits::is_marked` meets its contract.
use Prim.Native.Nat.{ℕ}
use mathlib.Core.Path.{ap, ◌∙◌}
use lib.Dec.{eqb}
use Rattle.bits.specs.laws.Words.{mark-at}
use Rattle.bits.proofs.is_marked.Goals as goal

pub returns : goal.returns
returns c = let a = c.args in
    c.is_set.ensures ∙ ap (λ (b : ℕ). eqb b 1) (mark-at a.marks.now a.p c.requires)
