-- `rays::crosses` meets its contract. Heights first, then the side.
use mathlib.Core.Path.{◌∙◌, ap}
use mir.Syntax.{w64}
use Rattle.whole.specs.laws.Size.{small_back, call_is}
use Rattle.whole.specs.laws.Tests.{le_flag}
use lib.IntN.{ℤ, pos}
use lib.Signed.{lt_z}
use Rattle.plane.specs.held.Edges.{as_spot}
use Rattle.rays.proofs.laws.Heights.{both-low, both_high, going_up, going_down}
use Rattle.rays.proofs.crosses.Goals as goal

pub returns-then-high : goal.returns-then-high
returns-then-high c = let e = c.args.e in
    let q = c.requires.0 in
    let ends = c.requires.1 in
    both-low (as_spot c.args.q) (as_spot e.a) (as_spot e.b)
    (le_flag (small_back w64 tt ends.from.on-v) (small_back w64 tt q.on-v) c.if-low.true)
    (le_flag (small_back w64 tt ends.to.on-v) (small_back w64 tt q.on-v) c.if-high.true)

pub returns-then-low : goal.returns-then-low
returns-then-low c = let e = c.args.e in
    let q = c.requires.0 in
    let ends = c.requires.1 in
    ap (lt_z (pos 0)) (call_is w64 c.side.type_inv c.side.ensures)
    ∙ going_up (as_spot c.args.q) (as_spot e.a) (as_spot e.b)
    (le_flag (small_back w64 tt ends.from.on-v) (small_back w64 tt q.on-v) c.if-low.true)
    (le_flag (small_back w64 tt ends.to.on-v) (small_back w64 tt q.on-v) c.if-high.false)

pub returns-then-high-2 : goal.returns-then-high-2
returns-then-high-2 c = let e = c.args.e in
    let q = c.requires.0 in
    let ends = c.requires.1 in
    ap (λ (z : ℤ). lt_z z (pos 0)) (call_is w64 c.side-then-high-2.type_inv c.side-then-high-2.ensures)
    ∙ going_down (as_spot c.args.q) (as_spot e.a) (as_spot e.b)
    (le_flag (small_back w64 tt ends.from.on-v) (small_back w64 tt q.on-v) c.if-low.false)
    (le_flag (small_back w64 tt ends.to.on-v) (small_back w64 tt q.on-v) c.if-high-2.true)

pub returns : goal.returns
returns c = let e = c.args.e in
    let q = c.requires.0 in
    let ends = c.requires.1 in
    both_high (as_spot c.args.q) (as_spot e.a) (as_spot e.b)
    (le_flag (small_back w64 tt ends.from.on-v) (small_back w64 tt q.on-v) c.if-low.false)
    (le_flag (small_back w64 tt ends.to.on-v) (small_back w64 tt q.on-v) c.if-high-2.false)
