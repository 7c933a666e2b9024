-- What is left to show of `facing::one_faces`.
use native.Mathlib.Omega.{arith}
use Prim.Native.Nat.{ℕ, ◌-◌, ◌≤◌}
use mathlib.Core.List.{List}
use lib.ListN.{length}
use mathlib.Core.Path.{◌∙◌, sym, ap, subst}
use mathlib.Core.Bool.{not}
use lib.IntN.{ℤ}
use mir.Syntax.{w64}
use mir.Val.{to_z, of_z}
use Rattle.whole.specs.Lists.{any}
use Rattle.whole.specs.held.Spans.{span}
use Rattle.whole.specs.laws.Size.{small_back, back_small}
use Rattle.space.specs.held.Points.{points_of, Known}
use Rattle.ring.specs.held.Rings.{ring_at}
use Rattle.holes.specs.Holes.{component_of, is_opposite}
use Rattle.holes.specs.laws.Passes.{rest_all, rest-here, rest-next, rest_end}
use Rattle.misplaced.proofs.facing.one_faces.Goals as goal

pub loop-q-init : goal.loop-q-init
loop-q-init c = rest_all _ _ _ _

pub faces-requires : goal.faces-requires
faces-requires c = let l = c.loop-q in
    let h = c.requires.rings.each l.q (omega arith) c.loop-q-test.true in
    record {
      known = subst Known (sym c.ring-ring.ensures) h.known;
      in_bounds = (subst (λ (r : List ℕ). 1 ≤ length r) (sym c.ring-ring.ensures) (c.requires.filled.each l.q (omega arith) c.loop-q-test.true), back_small w64 tt c.requires.small);
    }

pub returns-then-faces : goal.returns-then-faces
returns-then-faces c = let a = c.args in
    rest-here (λ q. component_of a.axis (points_of a.points.now.flat) (ring_at a.rings.now.entries a.rings.now.starts q)) (λ d. not (is_opposite (to_z w64 (of_z w64 a.c)) d)) a.p a.to c.loop-q.invariant c.loop-q-test.true (ap (λ (r : List ℕ). not (is_opposite (to_z w64 (of_z w64 a.c)) (component_of a.axis (points_of a.points.now.flat) r))) (sym c.ring-ring.ensures) ∙ sym c.faces.ensures ∙ c.if-faces.true)
    ∙ ap (λ (z : ℤ). any (λ d. not (is_opposite z d)) (span (λ q. component_of a.axis (points_of a.points.now.flat) (ring_at a.rings.now.entries a.rings.now.starts q)) a.p (a.to - a.p))) (small_back w64 tt c.requires.small)

pub loop-q-preserved : goal.loop-q-preserved
loop-q-preserved c = let a = c.args in
    rest-next (λ q. component_of a.axis (points_of a.points.now.flat) (ring_at a.rings.now.entries a.rings.now.starts q)) (λ d. not (is_opposite (to_z w64 (of_z w64 a.c)) d)) a.p a.to c.loop-q.invariant c.loop-q-test.true (ap (λ (r : List ℕ). not (is_opposite (to_z w64 (of_z w64 a.c)) (component_of a.axis (points_of a.points.now.flat) r))) (sym c.ring-ring.ensures) ∙ sym c.faces.ensures ∙ c.if-faces.false)

pub returns : goal.returns
returns c = let a = c.args in
    rest_end (λ q. component_of a.axis (points_of a.points.now.flat) (ring_at a.rings.now.entries a.rings.now.starts q)) (λ d. not (is_opposite (to_z w64 (of_z w64 a.c)) d)) a.p a.to c.loop-q.invariant (omega arith)
    ∙ ap (λ (z : ℤ). any (λ d. not (is_opposite z d)) (span (λ q. component_of a.axis (points_of a.points.now.flat) (ring_at a.rings.now.entries a.rings.now.starts q)) a.p (a.to - a.p))) (small_back w64 tt c.requires.small)
