-- What is left to show of `is_taken`.
use Prim.Native.Nat.{suc}
use native.Mathlib.Omega.{arith}
use mathlib.Core.Path.{◌≡◌, sym, ap, ◌∙◌}
use lib.ListN.{take}
use Rattle.space.specs.Space.{Point}
use Rattle.space.specs.held.Points.{points_of}
use Rattle.places.specs.held.Places.{point3}
use Rattle.places.specs.Points.{stands_else_of}
use Rattle.places.specs.laws.Places.{point_bits}
use Rattle.taken.specs.laws.Buckets.{told_below}
use Rattle.taken.specs.laws.Chains.{walk_start, walk-found, walk_more, walk_end, link-few}
use Rattle.taken.proofs.is_taken.Goals as goal

pub offset_bounds-table-b : goal.offset_bounds-table-b
offset_bounds-table-b c = record { fits = omega (arith, told_below _ c.bucket-b.ensures) }

pub bounds-table-b : goal.bounds-table-b
bounds-table-b c = omega (arith, told_below _ c.bucket-b.ensures)

pub loop-i-init : goal.loop-i-init
loop-i-init c = let a = c.args in
    walk_start a.points.now a.table.now a.n (point3 _ _ _) c.requires.points_len.0 c.requires.points_len.1.0 c.requires.points_len.1.1 _ c.bucket-b.ensures

pub returns-then-same_place : goal.returns-then-same_place
returns-then-same_place c = let l = c.loop-i in
    let a = c.args in
    let f = c.ranges in
    let e : l.k ≡ suc c.in-Some.i = omega arith in
    sym (sym (ap (λ (p : Point). stands_else_of a.n p (take a.n (points_of a.points.now))) (point_bits f.x f.y f.z))
    ∙ walk-found a.points.now a.table.now a.n (point3 _ _ _) c.requires.points_len.0 c.requires.points_len.1.0 c.requires.points_len.1.1 l.k c.in-Some.i l.invariant e (sym c.same_place.ensures ∙ c.if-same_place.true))

pub loop-i-smaller : goal.loop-i-smaller
loop-i-smaller c = let l = c.loop-i in
    let a = c.args in
    let e : l.k ≡ suc c.in-Some.i = omega arith in
    omega (arith, link-few a.points.now a.table.now a.n (point3 _ _ _) c.requires.points_len.0 c.requires.points_len.1.0 c.requires.points_len.1.1 l.k c.in-Some.i l.invariant e)

pub loop-i-preserved : goal.loop-i-preserved
loop-i-preserved c = let l = c.loop-i in
    let a = c.args in
    let e : l.k ≡ suc c.in-Some.i = omega arith in
    walk_more a.points.now a.table.now a.n (point3 _ _ _) c.requires.points_len.0 c.requires.points_len.1.0 c.requires.points_len.1.1 l.k c.in-Some.i l.invariant e (sym c.same_place.ensures ∙ c.if-same_place.false)

pub returns : goal.returns
returns c = let l = c.loop-i in
    let a = c.args in
    let f = c.ranges in
    let e : l.k ≡ 0 = omega arith in
    sym (sym (ap (λ (p : Point). stands_else_of a.n p (take a.n (points_of a.points.now))) (point_bits f.x f.y f.z))
    ∙ walk_end a.points.now a.table.now a.n (point3 _ _ _) c.requires.points_len.0 c.requires.points_len.1.0 c.requires.points_len.1.1 l.k e l.invariant)
