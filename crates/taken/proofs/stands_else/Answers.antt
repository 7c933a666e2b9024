-- What is left to show of `stands_else`.
use Rattle.space.specs.Space.{Point}
use mathlib.Core.Path.{◌≡◌, sym, ap, ◌∙◌}
use native.Mathlib.Omega.{arith}
use lib.ListN.{take}
use Rattle.space.specs.held.Points.{points_of}
use Rattle.places.specs.Points.{stands_else_of}
use Rattle.places.specs.held.Places.{point3}
use Rattle.taken.specs.laws.Else.{else_start, else_here, else_next, else_end}
use Rattle.places.specs.laws.Places.{point_bits}
use Rattle.taken.proofs.stands_else.Goals as goal

pub loop-i-init : goal.loop-i-init
loop-i-init c = let a = c.args in
    else_start a.points.now a.count a.n (point3 _ _ _) c.requires.0 c.requires.1

pub returns-then-else_at : goal.returns-then-else_at
returns-then-else_at c = let l = c.loop-i in
    let a = c.args in
    let f = c.ranges in
    let e = ap (λ (p : Point). stands_else_of a.n p (take a.count (points_of a.points.now))) (point_bits f.x f.y f.z) in
    sym (sym e ∙ sym l.invariant ∙ else_here a.points.now a.count a.n (point3 _ _ _) c.requires.0 c.requires.1 l.i c.loop-i-test.true (sym c.else_at.ensures ∙ c.if-else_at.true))

pub loop-i-preserved : goal.loop-i-preserved
loop-i-preserved c = let l = c.loop-i in
    let a = c.args in
    sym (else_next a.points.now a.count a.n (point3 _ _ _) c.requires.0 c.requires.1 l.i c.loop-i-test.true (sym c.else_at.ensures ∙ c.if-else_at.false)) ∙ l.invariant

pub returns : goal.returns
returns c = let l = c.loop-i in
    let a = c.args in
    let e : l.i ≡ a.count = omega arith in
    let f = c.ranges in
    let g = ap (λ (p : Point). stands_else_of a.n p (take a.count (points_of a.points.now))) (point_bits f.x f.y f.z) in
    sym (sym g ∙ sym l.invariant ∙ else_end a.points.now a.count a.n (point3 _ _ _) c.requires.0 c.requires.1 l.i e)
