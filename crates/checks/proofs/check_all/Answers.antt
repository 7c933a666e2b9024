-- `checks::check_all` meets its contract, by the law of end of load (`did_loaded`): the edge table is that of the rings, and the verdict
-- too where none of them is broken.
use Rattle.std.proofs.Common.{◌≡◌, ◌∙◌, ap, ℕ, List, length, arith, leb-true, leb-false}
use Rattle.whole.specs.held.Stored.{zeroed}
use Rattle.building.specs.held.Holds.{Sizes}
use Rattle.std.specs.Prelude.{replicate}
use Rattle.shell.specs.held.Kept.{Built}
use Rattle.checks.specs.laws.Steps.{zeroed-fill}
use Rattle.checks.specs.laws.Check.{Low, low_of, early-is_broken, none_broken, table-length, did_loaded, built-listed, built-shaped}
use Rattle.checks.specs.laws.Writes.{table-own, scalars_own, shown_own}
use Rattle.checks.proofs.check_all.Goals as goal
use Rattle.checks.proofs.check_all.Goals.{Start, After-is_none-sound, After-built-kept}

sizes : (c : Start) → Sizes c.args.arrays.now
sizes c = record { stamps = omega arith; findings = omega arith; parts = omega arith; table = omega arith; turned = omega arith }

low : (c : After-is_none-sound) → Low c.check_rings.new.arrays.findings c.args.s.polygons c.is_none-sound.result
low c = low_of c.lowest_early-early.result c.lowest_early-early.ensures c.is_none-sound.ensures

built : (c : After-built-kept) → let a = c.args.arrays.now in Built a.rings.entries a.rings.starts a.rings.firsts c.args.s.polygons a.table c.built-kept.new.table c.built-kept.result.count c.is_none-sound.result c.built-kept.result.fixed
built c = let b = c.check_rings.ensures.beside in
    rw (b.rings, b.table) at c.built-kept.ensures

stamps : (c : After-built-kept) → c.fill.new.self ≡ zeroed c.args.arrays.now.stamps 256
stamps c = c.fill.ensures.after (λ y e. e) ∙ ap (λ (l : List ℕ). replicate (length l) 0) c.check_rings.ensures.stamps ∙ zeroed-fill c.args.arrays.now.stamps (omega arith)

turned : (c : After-built-kept) → c.fill-2.new.self ≡ zeroed c.args.arrays.now.turned 256
turned c = c.fill-2.ensures.after (λ y e. e) ∙ ap (λ (l : List ℕ). replicate (length l) 0) c.check_rings.ensures.beside.turned ∙ zeroed-fill c.args.arrays.now.turned (omega arith)

size : (c : After-built-kept) → length c.built-kept.new.table ≡ 1024
size c = let a = c.args.arrays.now in
    table-length a.rings.entries a.rings.starts a.rings.firsts c.args.s.polygons a.table _ c.requires.loaded.layout (omega arith) (built c).table_is

pub built-kept-requires : goal.built-kept-requires
built-kept-requires c = let ld = c.requires.loaded in
    let sz = sizes ((goal.at.built-kept-requires c).Start) in
    let l = low ((goal.at.built-kept-requires c).After-is_none-sound) in
    let r = c.check_rings.ensures.beside.rings in
    (rw r ld.layout, λ t. rw r (none_broken ld sz.findings sz.parts c.check_rings.ensures.checked l.low l.early (leb-true _ _ (l.sound_is ∙ t))))

pub held_shape-requires : goal.held_shape-requires
held_shape-requires c = let p = (goal.at.held_shape-requires c).After-built-kept in
    omega (arith, (built-listed c.args.arrays.now c.args.s c.requires.loaded (sizes ((goal.at.held_shape-requires c).Start)) c.args.arrays.now.table _ _ _ _ _ (built p) (turned p)).room, size p)

pub returns : goal.returns
returns c = let a = c.args.arrays.now in
    let s = c.args.s in
    let ld = c.requires.loaded in
    let sz = sizes ((goal.at.returns c).Start) in
    let p = (goal.at.returns c).After-built-kept in
    let ch = c.check_rings.ensures.checked in
    let l = low ((goal.at.returns c).After-is_none-sound) in
    let b = built p in
    let h = c.held_shape.ensures in
    record {
      did = did_loaded a _ s ld sz c.check_rings.ensures.beside.points c.check_rings.ensures.beside.rings ch (stamps p) (turned p) (size p) _ _ _
          (built-listed a s ld sz a.table _ _ _ _ _ b (turned p))
          (built-shaped a s ld sz a.table _ _ _ _ _ b (turned p) (λ t. none_broken ld sz.findings sz.parts ch l.low l.early (leb-true _ _ (l.sound_is ∙ t))) (λ t. early-is_broken ld sz.findings sz.parts ch l.low l.early (leb-false _ _ (l.sound_is ∙ t)))) h.1 h.0;
      points = c.check_rings.ensures.beside.points;
      rings = c.check_rings.ensures.beside.rings;
      load_writes = record {
        stamps = stamps p;
        turned = turned p;
        each = ch;
        low = l.low;
        early = l.early;
        table = table-own a s h.0 (rw l.sound_is b);
        scalars = scalars_own a s h.0;
        shown = shown_own a s h.0 _ _ h.1;
      };
    }
