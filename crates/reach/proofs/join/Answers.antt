-- `reach::join` meets its contract.
use mathlib.Core.Path.{refl, sym, ◌∙◌}
use Rattle.bits.specs.held.Bits.{marks_of}
use Rattle.bits.specs.laws.Words.{spread_small}
use Rattle.reach.specs.laws.Joins.{joint-none}
use Rattle.reach.proofs.join.Goals as goal

pub returns : goal.returns
returns c = let a = c.args in
    (refl, joint-none (marks_of a.marks.now) (spread_small 64 a.marks.now) a.x a.y (sym c.if-a.false ∙ c.is_marked-a.ensures) (sym c.if-b-2.false ∙ c.is_marked-b.ensures))
