-- `normal::normal_of` meets its contract. The laws of three and of four corners, and for any other ring the sum over its steps.
use native.Mathlib.Omega.{arith}
use mathlib.Core.Bool.{true, not}
use mathlib.Core.Path.{◌≡◌, refl, ◌∙◌, sym, ap, ap₂}
use lib.ListN.{get_or}
use Rattle.space.specs.held.Points.{points_of}
use Rattle.space.specs.Space.{plus}
use Rattle.normal.specs.laws.Triangle.{triangle_normal}
use Rattle.normal.specs.laws.Quad.{quad_normal}
use Rattle.ring.specs.laws.Rings.{unclosed_is}
use Rattle.normal.specs.laws.Sums.{cross-of}
use Rattle.normal.proofs.normal_of.Goals as goal

pub normal_of_three-requires : goal.normal_of_three-requires
normal_of_three-requires c = (c.requires.known.each 0 (omega arith), c.requires.known.each 1 (omega arith), c.requires.known.each 2 (omega arith))

pub returns-in-len4 : goal.returns-in-len4
returns-in-len4 c = let h = c.args.points.now.coords in
    let k = c.requires.known in
    let l = c.args.ring.now in
    c.normal_of_three.ensures
    ∙ cross-of h (get_or l 0 0) (get_or l 1 0) (get_or l 2 0) (k.each 0 (omega arith)) (k.each 1 (omega arith)) (k.each 2 (omega arith)) refl refl
    ∙ sym (triangle_normal (points_of c.args.points.now.flat) l (omega arith) (unclosed_is c.is_closed.ensures (let e : c.is_closed.result ≡ true = cc in ap not e)))

pub normal_of_four-requires : goal.normal_of_four-requires
normal_of_four-requires c = (c.requires.known.each 0 (omega arith), c.requires.known.each 1 (omega arith), c.requires.known.each 2 (omega arith), c.requires.known.each 3 (omega arith))

pub returns-in-len5 : goal.returns-in-len5
returns-in-len5 c = let h = c.args.points.now.coords in
    let k = c.requires.known in
    let l = c.args.ring.now in
    c.normal_of_four.ensures
    ∙ ap₂ plus
    (cross-of h (get_or l 0 0) (get_or l 1 0) (get_or l 2 0) (k.each 0 (omega arith)) (k.each 1 (omega arith)) (k.each 2 (omega arith)) refl refl)
    (cross-of h (get_or l 0 0) (get_or l 2 0) (get_or l 3 0) (k.each 0 (omega arith)) (k.each 2 (omega arith)) (k.each 3 (omega arith)) refl refl)
    ∙ sym (quad_normal (points_of c.args.points.now.flat) l (omega arith) (unclosed_is c.is_closed.ensures (let e : c.is_closed.result ≡ true = cc in ap not e)))
