-- What is left to show of `fans_in`.
use native.Mathlib.Omega.{arith}
use Prim.Native.Nat.{◌-◌, ◌≤◌}
use mathlib.Core.Bool.{true, false, ◌&&◌, ◌||◌}
use mathlib.Core.Path.{◌≡◌, refl, sym, ap, ap₂, ◌∙◌}
use lib.ListN.{length}
use lib.IntN.{pos}
use lib.Signed.{lt_z}
use mir.Syntax.{w64}
use Rattle.whole.specs.laws.Bools.{or_left, or_right}
use Rattle.whole.specs.laws.Size.{call_is}
use Rattle.plane.specs.Plane.{side}
use Rattle.fan.specs.held.Fan.{every, fans}
use Rattle.fan.specs.laws.Every.{every-next, every_less}
use Rattle.fan.proofs.fans_in.Invariants.{at}
use Rattle.fan.proofs.fans_in.Goals as goal

pub loop-i-init : goal.loop-i-init
unfolding every
loop-i-init c = (refl, refl)

pub returns-then-not-up-down : goal.returns-then-not-up-down
returns-then-not-up-down c = let a = c.args in
    let l = c.loop-i in
    let none : (l.up || l.down) ≡ false = c.if-not-up-down.true in
    let e : l.i ≤ length a.ring.now - 3 = omega arith in
    sym (ap₂ ◌||◌ (every_less (fans true (at a.points.now.flat a.ring.now a.plane)) l.i (length a.ring.now - 3) e (sym l.invariant.0 ∙ or_left l.up l.down none)) (every_less (fans false (at a.points.now.flat a.ring.now a.plane)) l.i (length a.ring.now - 3) e (sym l.invariant.1 ∙ or_right l.up l.down none)))

pub loop-i-preserved : goal.loop-i-preserved
loop-i-preserved c = let a = c.args in
    let l = c.loop-i in
    let p = call_is w64 c.side-c.type_inv (c.side-c.ensures ∙ (λ t. side (c.spot-first.ensures.place t) (c.spot-p.ensures.place t) (c.spot-q.ensures.place t))) in
    let q = call_is w64 c.side-d.type_inv (c.side-d.ensures ∙ (λ t. side (c.spot-first.ensures.place t) (c.spot-second.ensures.place t) (c.spot-q.ensures.place t))) in (
      (λ t. l.invariant.0 t && (lt_z (pos 0) (p t) && lt_z (pos 0) (q t))) ∙ every-next (fans true (at a.points.now.flat a.ring.now a.plane)) l.i,
      (λ t. l.invariant.1 t && (lt_z (p t) (pos 0) && lt_z (q t) (pos 0))) ∙ every-next (fans false (at a.points.now.flat a.ring.now a.plane)) l.i,
    )

pub returns : goal.returns
returns c = let a = c.args in
    let l = c.loop-i in
    let e : l.i ≡ length a.ring.now - 3 = omega arith in
    ap₂ ◌||◌ (l.invariant.0 ∙ ap (every (fans true (at a.points.now.flat a.ring.now a.plane))) e) (l.invariant.1 ∙ ap (every (fans false (at a.points.now.flat a.ring.now a.plane))) e)
