-- What is left to show of `count_lines`.
use Rattle.std.proofs.Common.{◌≡◌, ◌+◌, length, sym, ap, ◌∙◌, arith, length-append, eqb-true}
use Rattle.std.proofs.lemmas.Bool.{eqb-false}
use Rattle.std.specs.Slice.Iter.{chunks_rest}
use Rattle.lines.specs.held.Offsets.{feeds}
use Rattle.lines.specs.laws.LineLaws.{count_none}
use Rattle.lines.proofs.Parts.{feeds_append, feeds-length, lines_by_feeds}
use Rattle.lines.proofs.count_lines.Goals as goal

pub returns-then-is_empty : goal.returns-then-is_empty
returns-then-is_empty c = sym (count_none _ (eqb-true _ 0 (sym c.is_empty.ensures ∙ c.if-is_empty.true)))

pub loop-part-preserved : goal.loop-part-preserved
loop-part-preserved c =
    let s = c.in-Some.ensures.steps in
    let e : length (chunks_rest c.loop-part.part-iterator) ≡ length c.in-Some.part.now + length (chunks_rest c.next.new.self) = ap length s.1.0 ∙ length-append c.in-Some.part.now _ in
    let f : feeds (chunks_rest c.loop-part.part-iterator) ≡ feeds c.in-Some.part.now + feeds (chunks_rest c.next.new.self) = ap feeds s.1.0 ∙ feeds_append c.in-Some.part.now _ in
    record { size = s.0 ∙ c.loop-part.invariant.size; few = omega (arith, feeds-length c.in-Some.part.now); all = omega arith }

pub returns : goal.returns
returns c =
    let s = c.args.stream.now in
    let z = c.in-None.ensures.steps.1.0 in
    let n : length s ≡ 0 → ⊥ = eqb-false _ 0 (sym c.is_empty.ensures ∙ c.if-is_empty.false) in
    omega (arith, lines_by_feeds s (omega arith), feeds-length (chunks_rest c.loop-part.part-iterator))
