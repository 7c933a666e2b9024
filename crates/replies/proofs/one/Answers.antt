-- `replies::one` meets its contract.
use native.Mathlib.Omega.{arith}
use mir.Syntax.{w64}
use Rattle.desk.specs.laws.Dids.{did_refused}
use Rattle.across.specs.laws.Dids.{valid_sorted}
use Rattle.replies.specs.laws.Loop.{did_step}
use Rattle.desk.specs.held.Holds.{service}
use Rattle.service.proofs.laws.Handlers.{of_broken}
use Rattle.service.specs.declared.Refusal.TheVariants.{Malformed}
use Rattle.frame.specs.Frame.{begin, point, polygon, end_of_load, move, turn, question, broken, decode, numbers}
use Rattle.frame.specs.laws.Decoded.{polygon-count, polygon_few, polygon-listed, polygon_ring}
use Rattle.frame.specs.held.Meaning.{meaning}
use Rattle.frame.specs.declared.Fields.TheVariants.{Polygon}
use Rattle.frame.specs.declared.Fields.{Fields}
use Rattle.std.specs.Prelude.{Some}
use lib.ListN.{drop}
use mir.Facts.{to_z-of_z}
use mathlib.Core.Path.{◌≡◌, refl, sym, ap, ◌∙◌}
use Rattle.rings.specs.laws.Dids.{ends_of}
use Rattle.replies.proofs.one.Goals as goal

pub add_polygon-requires : goal.add_polygon-requires
add_polygon-requires c = let g = c.args in
    let v = c.requires.1 in
    let e : meaning (Some (Polygon c.in-Polygon.n)) g.line.now ≡ decode g.line.now = sym (ap (λ (q : Fields). meaning (Some q) g.line.now) c.in-Polygon.is) ∙ c.in-Some.ensures in
    (c.requires.0, (record { count = polygon-count g.line.now _ e; few = polygon_few g.line.now _ e; listed = polygon-listed g.line.now _ e }, ends_of v.loaded))

pub ask-requires-in-Across : goal.ask-requires-in-Across
ask-requires-in-Across c = let g = c.args in
    (c.requires.0, valid_sorted g.arrays.now g.d c.requires.1)

pub returns-in-Begin : goal.returns-in-Begin
unfolding meaning
returns-in-Begin c = let g = c.args in
    let v = c.requires.1 in
    let w = g.arrays.now in
    did_step (service w g.d) g.line.now (begin c.in-Begin.tolerance) g.room.now _ g.d.at _ _ (sym (ap (λ (q : Fields). meaning (Some q) g.line.now) c.in-Begin.is) ∙ c.in-Some.ensures) (c.begin.ensures w refl v)

pub returns-in-Point : goal.returns-in-Point
unfolding meaning
returns-in-Point c = let g = c.args in
    let v = c.requires.1 in
    let w = g.arrays.now in
    did_step (service w g.d) g.line.now _ g.room.now _ g.d.at _ _
    ((λ i. point (to_z-of_z {w = w64} {z = c.in-Point.x} (record { sfits = omega arith }) i) (to_z-of_z {w = w64} {z = c.in-Point.y} (record { sfits = omega arith }) i) (to_z-of_z {w = w64} {z = c.in-Point.z} (record { sfits = omega arith }) i)) ∙ sym (ap (λ (q : Fields). meaning (Some q) g.line.now) c.in-Point.is) ∙ c.in-Some.ensures)
    (c.add_point.ensures.did w refl refl v _ refl)

pub returns-in-Polygon : goal.returns-in-Polygon
returns-in-Polygon c = let g = c.args in
    let v = c.requires.1 in
    let w = g.arrays.now in
    let e : meaning (Some (Polygon c.in-Polygon.n)) g.line.now ≡ decode g.line.now = sym (ap (λ (q : Fields). meaning (Some q) g.line.now) c.in-Polygon.is) ∙ c.in-Some.ensures in
    did_step (service w g.d) g.line.now (polygon (numbers (drop 2 g.line.now))) g.room.now _ g.d.at _ _ (sym (polygon_ring g.line.now _ e)) (c.add_polygon.ensures w refl v)

pub returns-in-EndOfLoad : goal.returns-in-EndOfLoad
unfolding meaning
returns-in-EndOfLoad c = let g = c.args in
    let v = c.requires.1 in
    let w = g.arrays.now in
    did_step (service w g.d) g.line.now end_of_load g.room.now _ g.d.at _ _ (sym (ap (λ (q : Fields). meaning (Some q) g.line.now) c.in-EndOfLoad.is) ∙ c.in-Some.ensures) c.end_load.ensures.did

pub returns-in-Move : goal.returns-in-Move
unfolding meaning
returns-in-Move c = let g = c.args in
    let v = c.requires.1 in
    let w = g.arrays.now in
    did_step (service w g.d) g.line.now _ g.room.now _ g.d.at _ _
    ((λ i. move c.in-Move.number (c.from.ensures i) (to_z-of_z {w = w64} {z = c.in-Move.x} (record { sfits = omega arith }) i) (to_z-of_z {w = w64} {z = c.in-Move.y} (record { sfits = omega arith }) i) (to_z-of_z {w = w64} {z = c.in-Move.z} (record { sfits = omega arith }) i)) ∙ sym (ap (λ (q : Fields). meaning (Some q) g.line.now) c.in-Move.is) ∙ c.in-Some.ensures)
    c.move_point.ensures.did

pub returns-in-Turn : goal.returns-in-Turn
unfolding meaning
returns-in-Turn c = let g = c.args in
    let v = c.requires.1 in
    let w = g.arrays.now in
    did_step (service w g.d) g.line.now _ g.room.now _ g.d.at _ _ ((λ i. turn c.in-Turn.number (c.from-in-Turn.ensures i)) ∙ sym (ap (λ (q : Fields). meaning (Some q) g.line.now) c.in-Turn.is) ∙ c.in-Some.ensures) c.turn_polygon.ensures.did

pub returns-in-Question : goal.returns-in-Question
unfolding meaning
returns-in-Question c = let g = c.args in
    let v = c.requires.1 in
    let w = g.arrays.now in
    did_step (service w g.d) g.line.now _ g.room.now _ g.d.at _ _ ((λ i. question (c.from-in-Question.ensures i)) ∙ sym (ap (λ (q : Fields). meaning (Some q) g.line.now) c.in-Question.is) ∙ c.in-Some.ensures) (c.ask.ensures w refl refl refl v)

pub returns-in-Across : goal.returns-in-Across
unfolding meaning
returns-in-Across c = let g = c.args in
    let v = c.requires.1 in
    let w = g.arrays.now in
    did_step (service w g.d) g.line.now _ g.room.now _ g.d.at _ _ (sym (ap (λ (q : Fields). meaning (Some q) g.line.now) c.in-Across.is) ∙ c.in-Some.ensures) (c.ask-in-Across.ensures w refl v)

pub returns-in_default : goal.returns-in_default
unfolding meaning
returns-in_default c = let g = c.args in
    let v = c.requires.1 in
    let w = g.arrays.now in
    did_step (service w g.d) g.line.now broken g.room.now _ g.d.at _ _ c.in_default.ensures
    (did_refused w g.d v broken Malformed g.room.now _ _ (of_broken (service w g.d)) (c.refuse.ensures w v))
