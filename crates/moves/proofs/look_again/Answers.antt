-- What is left to show of `look_again`.
use Rattle.std.proofs.Common.{◌≡◌, ℕ, arith, subst}
use Rattle.building.specs.laws.Beside.{beside_none, beside_more}
use Rattle.moves.specs.held.Steps.{Looked}
use Rattle.moves.specs.laws.Steps.{looked_none}
use Rattle.moves.specs.laws.Spans.{looked-joined}
use Rattle.moves.proofs.look_again.Goals as goal

pub loop-p-init : goal.loop-p-init
loop-p-init c = let g = c.args in
    let a = g.arrays.now in
    record { passed = omega arith; looked = looked_none g.s.tolerance a.points.flat a.rings.entries a.rings.starts a.rings.firsts g.number g.n; beside = beside_none }

pub loop-p-preserved : goal.loop-p-preserved
loop-p-preserved c = let g = c.args in
    let a = g.arrays.now in
    let i = c.loop-p.invariant in
    let e = c.look_through.ensures in
    record {
      passed = omega arith;
      looked = looked-joined g.s.tolerance a.points.flat a.rings.entries a.rings.starts a.rings.firsts g.number g.n c.loop-p.p (rw (i.beside.points, i.beside.rings) at e.looked) (omega arith) i.looked;
      beside = beside_more i.beside e.beside;
    }

pub returns : goal.returns
returns c = let g = c.args in
    let a = g.arrays.now in
    let l = c.loop-p.arrays in
    let e : c.loop-p.p ≡ g.s.polygons = omega arith in
    record {
      looked = subst (λ (m : ℕ). Looked g.s.tolerance a.points.flat a.rings.entries a.rings.starts a.rings.firsts g.number g.n m a.stamps a.findings a.parts l.stamps l.findings l.parts) e c.loop-p.invariant.looked;
      beside = c.loop-p.invariant.beside;
    }
