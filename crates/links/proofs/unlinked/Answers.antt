-- `links::unlinked` meets its contract.
use native.Mathlib.Omega.{arith}
use mathlib.Core.Path.{sym, ◌∙◌}
use Rattle.reach.specs.laws.Marks.{words_marks}
use Rattle.reach.specs.laws.Joins.{flood_on}
use Rattle.links.proofs.Counts.{begun-linked, traced_linked}
use Rattle.links.proofs.unlinked.Goals as goal

pub returns-then-count-words : goal.returns-then-count-words
returns-then-count-words c = let p = c.pass in
    (tt, λ k. begun-linked _ _ k _ (p.ensures _ k) (words_marks 16 p.new.marks (omega arith)) (sym c.count.ensures ∙ c.if-count-words.true))

pub returns-then-count-words-2 : goal.returns-then-count-words-2
returns-then-count-words-2 c = let p = c.pass in
    (tt, λ k. traced_linked _ _ k _ _ (p.ensures _ k) (c.trace.ensures k.steps k.nexts) (words_marks 16 c.trace.new.marks (omega arith)) (sym c.count-2.ensures ∙ c.if-count-words-2.true))

pub returns : goal.returns
returns c = let p = c.pass in
    let r = c.lowest_cut.ensures in (
      r.0,
      λ k.
          let b = p.ensures _ k in
          record {
            from = b.from;
            seeds = b.seeds;
            to = _;
            marks = words_marks 16 c.trace.new.marks (omega arith);
            flood = flood_on _ _ _ _ b.grown (c.trace.ensures k.steps k.nexts);
            least = r.1;
          },
    )
