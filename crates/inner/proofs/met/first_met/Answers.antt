-- What is left to show of `met::first_met`.
use Prim.Native.Nat.{ℕ, ◌+◌}
use native.Mathlib.Omega.{arith}
use mathlib.Core.Path.{ap, ◌∙◌}
use Rattle.std.specs.Prelude.{Some}
use Rattle.space.specs.held.Points.{points_of}
use Rattle.holes.specs.held.Rings.{Ring}
use Rattle.inner.proofs.laws.Tables.{order, looked_none}
use Rattle.inner.proofs.laws.Met.{ring-some, found_here, found-later, never-past}
use Rattle.inner.proofs.met.first_met.Goals as goal
use Rattle.inner.proofs.met.first_met.Goals.{In-loop-q}

pub loop-q-init : goal.loop-q-init
loop-q-init c = let a = c.args in looked_none (points_of a.points.now.flat) a.rings.now.entries a.rings.now.starts a.from a.to

-- ---- ring q
here : (c : In-loop-q) → let a = c.args in Ring a.rings.now.entries a.rings.now.starts c.loop-q.q
here c = c.requires.lies.rings.each c.loop-q.q c.loop-q.invariant.low c.loop-q-test.true

pub met_in-requires : goal.met_in-requires
met_in-requires c = let a = c.args in
    record { ring = (here c, ring-some (points_of a.points.now.flat) a.rings.now.entries a.rings.now.starts a.from a.to c.requires.lies.rings c.requires.fact c.requires.number_value c.loop-q.invariant c.loop-q-test.true) }

pub entries_of-requires : goal.entries_of-requires
entries_of-requires c = let l = c.loop-q in
    let r = here ((goal.at.entries_of-requires c).In-loop-q) in
    record { starts_len = (r.starts_size, omega (arith, r.few, l.invariant.low), omega (arith, r.few)); from_bound = (order c.requires.lies.rings l.q l.invariant.low (omega (arith, c.loop-q-test.true)), omega (arith, r.forward, r.inside)) }

pub overflow_add-result : goal.overflow_add-result
overflow_add-result c = let a = c.args in
    let l = c.loop-q in
    let r = here ((goal.at.overflow_add-result c).In-loop-q) in
    omega (arith, c.entries_of.ensures, r.forward, r.inside, c.in-Some.ensures.few, r.known.few)

pub returns-in-Some : goal.returns-in-Some
returns-in-Some c = let a = c.args in
    let e = c.in-Some.ensures in
    ap (λ (n : ℕ). Some n)
    (ap (λ (n : ℕ). n + c.in-Some.at) c.entries_of.ensures
    ∙ found_here (points_of a.points.now.flat) a.rings.now.entries a.rings.now.starts a.from a.to c.requires.lies.rings c.requires.fact c.requires.number_value c.loop-q.invariant c.loop-q-test.true e.first (omega (arith, e.few)))

pub loop-q-preserved : goal.loop-q-preserved
loop-q-preserved c = let a = c.args in
    found-later (points_of a.points.now.flat) a.rings.now.entries a.rings.now.starts a.from a.to c.requires.lies.rings c.requires.fact c.requires.number_value c.loop-q.invariant c.loop-q-test.true c.in_default.ensures.first (omega arith)

pub returns : goal.returns
returns c = let a = c.args in
    absurd (never-past (points_of a.points.now.flat) a.rings.now.entries a.rings.now.starts a.from a.to c.requires.lies.rings c.requires.fact c.requires.number_value c.loop-q.invariant c.loop-q-test.false)
