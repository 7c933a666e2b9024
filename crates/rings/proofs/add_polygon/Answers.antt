-- `rings::add_polygon` meets its contract.
use Rattle.ring.specs.declared.Rings.{Rings}
use Rattle.desk.specs.held.Holds.{service, does}
use Rattle.rings.specs.laws.Dids.{did_rings, did_polygon}
use Rattle.desk.specs.laws.Dids.{did_refused}
use Rattle.frame.specs.Frame.{polygon, numbers}
use lib.Seq.{sets}
use lib.ListN.{drop, get_or, set}
use Prim.Native.Nat.{ℕ, ◌+◌}
use native.Mathlib.Omega.{arith}
use mathlib.Core.Path.{◌≡◌, sym, ap, ◌∙◌}
use Rattle.rings.proofs.add_polygon.Goals as goal

pub returns : goal.returns
returns c = λ a e v.
    let g = c.args in
    let k = c.requires.1.0 in
    let o = c.in_default.ensures in
    let h = o.fit in
    let r = c.from-first.ensures in
    let u : c.from-used.result ≡ get_or g.rings.now.starts (get_or g.rings.now.firsts g.d.held.polygons 0) 0 = c.from-used.ensures ∙ ap (λ (q : ℕ). get_or g.rings.now.starts q 0) r in
    did_polygon a g.d v (numbers (drop 2 g.line.now)) (o.is a (ap (λ (w : Rings). w.starts) e, ap (λ (w : Rings). w.firsts) e) v) h.0
    (rw e h.1) (omega (arith, k.count, k.few)) _
    (c.copy_ring.ensures ∙ ap (λ (q : ℕ). sets g.rings.now.entries q (numbers (drop 2 g.line.now))) u ∙ ap (λ (w : Rings). sets w.entries (get_or w.starts (get_or w.firsts g.d.held.polygons 0) 0) (numbers (drop 2 g.line.now))) (sym e))
    (c.close.ensures ∙ (λ i. set g.rings.now.starts (r i + 1) (u i + k.count i)) ∙ ap (λ (w : Rings). set w.starts (get_or w.firsts g.d.held.polygons 0 + 1) (get_or w.starts (get_or w.firsts g.d.held.polygons 0) 0 + k.count 1)) (sym e))
    (c.close-2.ensures ∙ ap (λ (q : ℕ). set g.rings.now.firsts (g.d.held.polygons + 1) (q + 1)) r ∙ ap (λ (w : Rings). set w.firsts (g.d.held.polygons + 1) (get_or w.firsts g.d.held.polygons 0 + 1)) (sym e))
    g.room.now _ _ c.put_plain-at.ensures

pub returns-in-Err : goal.returns-in-Err
returns-in-Err c = λ a e v.
    let g = c.args in
    did_rings (does (service a g.d) (polygon (numbers (drop 2 g.line.now)))) g.room.now g.d.at a _ _ g.rings.now e
    (did_refused a g.d v (polygon (numbers (drop 2 g.line.now))) c.in-Err.refusal g.room.now _ _ (c.in-Err.ensures.is a (ap (λ (w : Rings). w.starts) e, ap (λ (w : Rings). w.firsts) e) v) (c.refuse.ensures a v))
