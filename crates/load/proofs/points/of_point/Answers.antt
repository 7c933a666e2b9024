-- `load::points::of_point` meets its contract.
use Rattle.desk.specs.laws.Rows.{handed, loads_is}
use lib.ListN.{take}
use Rattle.space.specs.held.Points.{points_of}
use Rattle.space.specs.Space.{Point}
use Rattle.places.specs.Points.{is_far_of, stands_else_of}
use Rattle.load.specs.laws.Rows.{point_misplaced, point-beyond, point-full, point-taken, point-accepted}
use native.Mathlib.Omega.{arith}
use mathlib.Core.Path.{sym, ◌∙◌}
use Rattle.load.proofs.points.of_point.Goals as goal

pub returns-then-not-is_loading : goal.returns-then-not-is_loading
returns-then-not-is_loading c = let g = c.args in point_misplaced g.points.now g.d g.x g.y g.z (sym c.is_loading.ensures ∙ c.if-not-is_loading.true)

pub returns-then-is_far : goal.returns-then-is_far
returns-then-is_far c =
    let g = c.args in
    let r = c.ranges in
    let loads = sym c.is_loading.ensures ∙ c.if-not-is_loading.false in
    let far = sym c.is_far.ensures ∙ c.if-is_far.true in
    point-beyond g.points.now g.d g.x g.y g.z loads (sym (handed is_far_of r.x r.y r.z) ∙ far)

pub returns-then-n-ge512 : goal.returns-then-n-ge512
returns-then-n-ge512 c =
    let g = c.args in
    let r = c.ranges in
    let loads = sym c.is_loading.ensures ∙ c.if-not-is_loading.false in
    let near = sym c.is_far.ensures ∙ c.if-is_far.false in
    point-full g.points.now g.d g.x g.y g.z loads (sym (handed is_far_of r.x r.y r.z) ∙ near) c.if-n-ge512.true

pub is_taken-requires : goal.is_taken-requires
is_taken-requires c = let l = c.is_loading in
    record { points_len = (omega arith, (c.requires.few, c.requires.chained (loads_is c.args.d.mode (sym l.ensures ∙ c.if-not-is_loading.false)))); z_value = sym c.is_far.ensures ∙ c.if-is_far.false }

pub returns-then-is_taken : goal.returns-then-is_taken
returns-then-is_taken c =
    let g = c.args in
    let r = c.ranges in
    let n = g.d.held.points in
    let loads = sym c.is_loading.ensures ∙ c.if-not-is_loading.false in
    let near = sym c.is_far.ensures ∙ c.if-is_far.false in
    let taken = sym c.is_taken.ensures ∙ c.if-is_taken.true in
    point-taken g.points.now g.d g.x g.y g.z loads (sym (handed is_far_of r.x r.y r.z) ∙ near) c.if-n-ge512.false
    (sym (handed (λ (q : Point). stands_else_of n q (take n (points_of g.points.now))) r.x r.y r.z) ∙ taken)

pub returns : goal.returns
returns c =
    let g = c.args in
    let r = c.ranges in
    let n = g.d.held.points in
    let loads = sym c.is_loading.ensures ∙ c.if-not-is_loading.false in
    let near = sym c.is_far.ensures ∙ c.if-is_far.false in
    let free = sym c.is_taken.ensures ∙ c.if-is_taken.false in
    point-accepted g.points.now g.d g.x g.y g.z loads (sym (handed is_far_of r.x r.y r.z) ∙ near) c.if-n-ge512.false
    (sym (handed (λ (q : Point). stands_else_of n q (take n (points_of g.points.now))) r.x r.y r.z) ∙ free)
