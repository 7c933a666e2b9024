-- `misplaced::is_misplaced` meets its contract. One corner a ring tells, and the parts are asked one after the other.
use native.Mathlib.Omega.{arith}
use Prim.Native.Nat.{◌-◌, ◌+◌, ◌≤◌}
use mathlib.Core.Path.{◌∙◌, sym, ap, subst}
use mathlib.Core.Bool.{not}
use lib.IntN.{ℤ}
use mir.Syntax.{w64}
use Rattle.whole.specs.Lists.{any, any_two}
use Rattle.whole.specs.held.Small.{Small}
use Rattle.whole.specs.held.Spans.{span}
use Rattle.whole.specs.laws.Size.{call_is}
use Rattle.space.specs.held.Points.{points_of, as_point}
use Rattle.fan.specs.held.Fan.{spot_in}
use Rattle.ring.specs.held.Rings.{ring_at}
use Rattle.holes.specs.Holes.{component, component_of, is_opposite}
use Rattle.holes.specs.held.Rings.{spots_at}
use Rattle.holes.specs.held.Corners.{nested}
use Rattle.holes.specs.laws.Tables.{rings-from, filled-from}
use Rattle.misplaced.specs.laws.Parts.{misplaced_tells, component_small, or_one, or_two, or_three}
use Rattle.misplaced.proofs.is_misplaced.Goals as goal

pub one_outside-requires : goal.one_outside-requires
one_outside-requires c = record { rings = (c.requires.lies.rings, c.requires.lies.some); filled = c.requires.filled.0 }

pub returns-then-one_outside : goal.returns-then-one_outside
returns-then-one_outside c = let a = c.args in
    or_one (any_two (nested (spot_in a.points.now.flat c.left_by-plane.result.u c.left_by-plane.result.v 0)) (span (spots_at a.points.now.flat c.left_by-plane.result.u c.left_by-plane.result.v a.rings.now.entries a.rings.now.starts) (a.from + 1) (a.to - (a.from + 1)))) (any (λ d. not (is_opposite (component a.axis (as_point a.n)) d)) (span (λ r. component_of a.axis (points_of a.points.now.flat) (ring_at a.rings.now.entries a.rings.now.starts r)) (a.from + 1) (a.to - (a.from + 1)))) (sym c.one_outside.ensures ∙ c.if-one_outside.true)
    ∙ sym (misplaced_tells c.args.points.now.coords a.axis c.left_by-plane.ensures.0 c.left_by-plane.ensures.1 a.rings.now.entries a.rings.now.starts a.from a.to c.requires.lies.rings c.requires.lies.some c.requires.filled.0 c.requires.filled.1 c.requires.to_value (component a.axis (as_point a.n)))

pub some_nested-requires : goal.some_nested-requires
some_nested-requires c = let more : c.args.from ≤ c.args.from + 1 = omega arith in
    record { rings = rings-from c.requires.lies.rings (c.args.from + 1) more; filled = filled-from c.requires.filled.0 (c.args.from + 1) more }

pub returns-then-some_nested : goal.returns-then-some_nested
returns-then-some_nested c = let a = c.args in
    or_two (any (λ d. not (is_opposite (component a.axis (as_point a.n)) d)) (span (λ r. component_of a.axis (points_of a.points.now.flat) (ring_at a.rings.now.entries a.rings.now.starts r)) (a.from + 1) (a.to - (a.from + 1)))) (sym c.one_outside.ensures ∙ c.if-one_outside.false) (sym c.some_nested.ensures ∙ c.if-some_nested.true)
    ∙ sym (misplaced_tells c.args.points.now.coords a.axis c.left_by-plane.ensures.0 c.left_by-plane.ensures.1 a.rings.now.entries a.rings.now.starts a.from a.to c.requires.lies.rings c.requires.lies.some c.requires.filled.0 c.requires.filled.1 c.requires.to_value (component a.axis (as_point a.n)))

pub one_faces-requires : goal.one_faces-requires
one_faces-requires c = let more : c.args.from ≤ c.args.from + 1 = omega arith in
    record { rings = rings-from c.requires.lies.rings (c.args.from + 1) more; filled = filled-from c.requires.filled.0 (c.args.from + 1) more; small = subst (λ (z : ℤ). Small 10160000000000 z) (sym (call_is w64 c.component-c.type_inv c.component-c.ensures)) (component_small c.args.axis c.requires.near) }

pub returns : goal.returns
returns c = let a = c.args in
    let e = c.one_faces.ensures ∙ ap (λ (z : ℤ). any (λ d. not (is_opposite z d)) (span (λ r. component_of a.axis (points_of a.points.now.flat) (ring_at a.rings.now.entries a.rings.now.starts r)) (a.from + 1) (a.to - (a.from + 1)))) (call_is w64 c.component-c.type_inv c.component-c.ensures) in
    or_three (sym c.one_outside.ensures ∙ c.if-one_outside.false) (sym c.some_nested.ensures ∙ c.if-some_nested.false) e
    ∙ sym (misplaced_tells c.args.points.now.coords a.axis c.left_by-plane.ensures.0 c.left_by-plane.ensures.1 a.rings.now.entries a.rings.now.starts a.from a.to c.requires.lies.rings c.requires.lies.some c.requires.filled.0 c.requires.filled.1 c.requires.to_value (component a.axis (as_point a.n)))
