-- `boxes::Boxed::clashes_boxed` meets its contract. Neighbours do not clash; the others are told by their boxes.
use Rattle.std.proofs.Common.{◌+◌, ◌<◌, arith, sym, ◌∙◌}
use Rattle.std.proofs.Math.Logic.{⊎_elim}
use Rattle.boxes.proofs.Nearness.{or_end}
use Rattle.boxes.proofs.Around.{row_past, row-left, row-short}
use Rattle.boxes.proofs.Boxed.clashes_boxed.Goals as goal

pub returns-then-end-i : goal.returns-then-end-i
returns-then-end-i c = let short : c.args.self.now.columns.m < c.args.i + 3 = ⊎_elim (λ z. omega arith) (λ z. omega arith) c.end_of-end.ensures.2 in
    sym (row-short c.requires.0 c.requires.1 short)

pub returns : goal.returns
returns c = let e = c.end_of-end in
    or_end _ _ _ c.clashes_past.ensures (row-left c.requires.0 e.result (omega arith) e.ensures.2) ∙ row_past c.requires.0 (omega arith)
