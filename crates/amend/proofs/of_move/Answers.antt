-- `amend::of_move` meets its contract.
use Rattle.desk.specs.laws.Rows.{handed}
use Rattle.amend.specs.laws.Rows.{move_misplaced, move-late, move-absent, move-beyond, move_taken, move-accepted}
use lib.ListN.{take}
use Rattle.space.specs.held.Points.{points_of}
use Rattle.space.specs.Space.{Point}
use Rattle.places.specs.Points.{is_far_of, stands_else_of}
use mathlib.Core.Path.{sym, ◌∙◌}
use Rattle.amend.proofs.of_move.Goals as goal

pub returns-then-not-is_holding : goal.returns-then-not-is_holding
returns-then-not-is_holding c = let g = c.args in move_misplaced g.points.now g.d g.number g.p g.x g.y g.z (sym c.is_holding.ensures ∙ c.if-not-is_holding.true)

pub returns-then-number-d : goal.returns-then-number-d
returns-then-number-d c =
    let g = c.args in
    let holds = sym c.is_holding.ensures ∙ c.if-not-is_holding.false in
    move-late g.points.now g.d g.number g.p g.x g.y g.z holds c.if-number-d.true

pub returns-then-n-p : goal.returns-then-n-p
returns-then-n-p c =
    let g = c.args in
    let holds = sym c.is_holding.ensures ∙ c.if-not-is_holding.false in
    move-absent g.points.now g.d g.number g.p g.x g.y g.z holds c.if-number-d.false c.if-n-p.true

pub returns-then-is_far : goal.returns-then-is_far
returns-then-is_far c =
    let g = c.args in
    let r = c.ranges in
    let holds = sym c.is_holding.ensures ∙ c.if-not-is_holding.false in
    let far = sym c.is_far.ensures ∙ c.if-is_far.true in
    move-beyond g.points.now g.d g.number g.p g.x g.y g.z holds c.if-number-d.false c.if-n-p.false (sym (handed is_far_of r.x r.y r.z) ∙ far)

pub returns-then-stands_else : goal.returns-then-stands_else
returns-then-stands_else c =
    let g = c.args in
    let r = c.ranges in
    let holds = sym c.is_holding.ensures ∙ c.if-not-is_holding.false in
    let near = sym c.is_far.ensures ∙ c.if-is_far.false in
    let taken = sym c.stands_else.ensures ∙ c.if-stands_else.true in
    move_taken g.points.now g.d g.number g.p g.x g.y g.z holds c.if-number-d.false c.if-n-p.false (sym (handed is_far_of r.x r.y r.z) ∙ near)
    (sym (handed (λ (q : Point). stands_else_of g.p q (take g.d.held.points (points_of g.points.now))) r.x r.y r.z) ∙ taken)

pub returns : goal.returns
returns c =
    let g = c.args in
    let r = c.ranges in
    let holds = sym c.is_holding.ensures ∙ c.if-not-is_holding.false in
    let near = sym c.is_far.ensures ∙ c.if-is_far.false in
    let free = sym c.stands_else.ensures ∙ c.if-stands_else.false in
    move-accepted g.points.now g.d g.number g.p g.x g.y g.z holds c.if-number-d.false c.if-n-p.false (sym (handed is_far_of r.x r.y r.z) ∙ near)
    (sym (handed (λ (q : Point). stands_else_of g.p q (take g.d.held.points (points_of g.points.now))) r.x r.y r.z) ∙ free)
