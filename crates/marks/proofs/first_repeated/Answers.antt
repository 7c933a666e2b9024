-- What is left to show of `first_repeated`.
use Rattle.std.specs.Prelude.{ℕ, ◌+◌, ◌-◌, ◌<◌, ◌≡◌, List, length, get_or, take}
use Rattle.std.proofs.Common.{arith, sym, ◌∙◌, get_or-take, length-take-le}
use Rattle.marks.proofs.Passed.{passed_none, passed_more, passed_found, passed_done}
use Rattle.marks.proofs.first_repeated.Goals as goal

-- the entries before the closing one
entry : (ring : List ℕ) (last i x : ℕ) → last ≡ length ring - 1 → i < length (take last ring) → x ≡ get_or (take last ring) i 0 → (i + 1 < length ring) × (x ≡ get_or ring i 0)
entry ring last i x e h is =
    let n = length-take-le last ring (omega arith) in
    (omega arith, is ∙ get_or-take last ring i 0 (omega arith))

pub loop-i-init : goal.loop-i-init
loop-i-init c = passed_none c.args.ring.now

pub returns-then-is_set-clause-first : goal.returns-then-is_set-clause-first
returns-then-is_set-clause-first c = let l = c.loop-i in
    let e = entry _ _ _ _ c.saturating_sub-last.ensures c.loop-i-test.true c.from-x.ensures in
    passed_found c.args.ring.now l.marks l.i _ c.requires e.0 e.1 l.invariant (sym c.if-is_set.true ∙ c.is_set.ensures)

pub loop-i-preserved : goal.loop-i-preserved
loop-i-preserved c = let l = c.loop-i in
    let e = entry _ _ _ _ c.saturating_sub-last.ensures c.loop-i-test.true c.from-x.ensures in
    let s = c.with_set-marked in
    passed_more c.args.ring.now l.marks l.i _ c.requires e.0 e.1 l.invariant s.result (sym c.if-is_set.false ∙ c.is_set.ensures) s.ensures

pub returns-clause-first : goal.returns-clause-first
returns-clause-first c = let l = c.loop-i in
    let n = length-take-le c.saturating_sub-last.result c.args.ring.now (omega arith) in
    let e : length c.args.ring.now - 1 ≡ l.i = omega (arith, c.saturating_sub-last.ensures) in
    e ∙ passed_done c.args.ring.now l.marks l.i (omega arith) l.invariant
