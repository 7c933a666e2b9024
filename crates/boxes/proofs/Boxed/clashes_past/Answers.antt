-- What is left to show of `Boxed::clashes_past`.
use Rattle.std.proofs.Common.{refl, sym, arith, ◌∙◌}
use Rattle.boxes.proofs.Nearness.{parted-row, or_next}
use Rattle.boxes.proofs.Boxed.clashes_past.Goals as goal

pub loop-j-preserved : goal.loop-j-preserved
loop-j-preserved c = let n = c.next_near-j.ensures in (
  omega arith,
  n.1,
  sym (parted-row c.args.self.now.boxes c.args.i c.requires.2 n.2 refl (omega arith) c.next_near-j.result n.0 (omega arith) (omega arith) n.1)
      ∙ or_next _ _ _ c.clashes_eight.ensures c.if-clashes_eight.false ∙ c.loop-j.invariant.2,
)
