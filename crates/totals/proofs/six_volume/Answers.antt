-- What is left to show of `six_volume`.
use Rattle.std.specs.Prelude.{ℕ, ◌<◌, refl, List, length, take, ℤ, pos}
use Rattle.std.proofs.Common.{arith, ◌∙◌, get_or-take, length-take-le, to_z-of_z}
use Rattle.std.specs.Int.{w64}
use Rattle.whole.specs.Lists.{sum_of}
use Rattle.totals.specs.held.Scans.{Summable}
use Rattle.totals.specs.laws.Scans.{sum_fits, sum-next}
use Rattle.totals.proofs.six_volume.Goals as goal

pub loop-part-init : goal.loop-part-init
unfolding sum_of
loop-part-init c = refl

-- a part of the first n is one of all
inside : (parts : List ℤ) (n i : ℕ) → Summable parts n → i < length (take n parts) → i < n
inside parts n i s h = let e = length-take-le n parts (omega (arith, s.few, s.size)) in omega arith

pub overflow_add-total : goal.overflow_add-total
overflow_add-total c = let l = c.loop-part in
    let h = inside c.args.parts.now c.args.n l.part-index c.requires c.loop-part-test.true in
    sum_fits c.args.parts.now c.args.n l.part-index c.requires h _ _ l.invariant (to_z-of_z {w = w64} (record { sfits = omega arith }) ∙ get_or-take c.args.n c.args.parts.now l.part-index (pos 0) h)

pub loop-part-preserved : goal.loop-part-preserved
loop-part-preserved c = let l = c.loop-part in
    let h = inside c.args.parts.now c.args.n l.part-index c.requires c.loop-part-test.true in
    sum-next c.args.parts.now c.args.n l.part-index c.requires h _ _ l.invariant (to_z-of_z {w = w64} (record { sfits = omega arith }) ∙ get_or-take c.args.n c.args.parts.now l.part-index (pos 0) h)
