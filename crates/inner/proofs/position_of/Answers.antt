-- `inner::position_of` meets its contract. 06 is met among all entries, 03 and 05 in the ring that fails first.
use native.Mathlib.Nat.{le_refl}
use Prim.Native.Nat.{ℕ, ◌-◌, ◌≤◌}
use native.Mathlib.Omega.{arith}
use Rattle.std.specs.Prelude.{Option, unwrap_or}
use mathlib.Core.Path.{◌≡◌, sym, ap, ◌∙◌}
use lib.ListN.{length}
use Rattle.space.specs.Space.{Point, places}
use Rattle.space.specs.held.Points.{points_of}
use Rattle.space.specs.laws.Sizes.{near_same}
use Rattle.normal.specs.laws.Sizes.{normal-near}
use Rattle.even.specs.Even.{uneven_at}
use Rattle.ring.specs.Polygon.{entries_from}
use Rattle.ring.specs.held.Rings.{ring_at, polygon_of}
use Rattle.inner.specs.Finding.{finding}
use Rattle.whole.specs.held.Spans.{span}
use Rattle.polygon.specs.Ring.{finding_number_of, finding_position_of}
use Rattle.inner.specs.laws.Rows.{rings_finding}
use Rattle.inner.proofs.laws.Checks.{position_06, position_early}
use Rattle.inner.proofs.laws.Met.{placed_as}
use Rattle.inner.proofs.laws.Tables.{order, start-few, entries-count, rings_are, all-filled}
use Rattle.inner.proofs.position_of.Goals as goal
use Rattle.inner.proofs.position_of.Goals.{Else-number-eq6, Then-number-eq6}

-- of 06 no ring fails alone
long : (c : Then-number-eq6) → 1 ≤ length (polygon_of c.args.rings.now.entries c.args.rings.now.starts c.args.from c.args.to).outer
long c = let h = c.requires.lies in
    let k = c.requires.number_value in
    (all-filled h.rings h.some (points_of c.args.points.now.flat) (position_06 c.args.tolerance (points_of c.args.points.now.flat) (polygon_of c.args.rings.now.entries c.args.rings.now.starts c.args.from c.args.to) k.1 (sym k.0 ∙ c.if-number-eq6.true)).0).each c.args.from (le_refl c.args.from) h.some

-- ---- the needs
pub normal_of-outer-requires : goal.normal_of-outer-requires
normal_of-outer-requires c = record { ring = (c.requires.lies.rings.each c.args.from (le_refl c.args.from) c.requires.lies.some, long c) }

pub entries_of-all-requires : goal.entries_of-all-requires
entries_of-all-requires c = let h = c.requires.lies in
    record { starts_len = ((h.rings.each c.args.from (le_refl c.args.from) h.some).starts_size, omega (arith, h.rings.few, h.some), h.rings.few); from_bound = (order h.rings c.args.to (omega (arith, h.some)) (le_refl c.args.to), start-few h.rings c.args.to h.some (le_refl c.args.to)) }

pub first_uneven-requires : goal.first_uneven-requires
first_uneven-requires c = record { lies = c.requires.lies; in_bounds = (long ((goal.at.first_uneven-requires c).Then-number-eq6), c.requires.tolerance_bound); near = near_same c.normal_of-outer.ensures (normal-near c.args.points.now.coords (c.requires.lies.rings.each c.args.from (le_refl c.args.from) c.requires.lies.some).known) }

pub returns-then-number-eq6 : goal.returns-then-number-eq6
returns-then-number-eq6 c = let k = c.requires.number_value in
    c.unwrap_or.ensures ∙ ap (unwrap_or c.first_uneven.result) (c.entries_of-all.ensures ∙ sym (entries-count c.requires.lies.rings c.requires.lies.some)) ∙ c.first_uneven.ensures.first
    ∙ ap (λ (m : Point). uneven_at c.args.tolerance m (places (points_of c.args.points.now.flat) (entries_from (polygon_of c.args.rings.now.entries c.args.rings.now.starts c.args.from c.args.to)))) c.normal_of-outer.ensures
    ∙ sym (position_06 c.args.tolerance (points_of c.args.points.now.flat) (polygon_of c.args.rings.now.entries c.args.rings.now.starts c.args.from c.args.to) k.1 (sym k.0 ∙ c.if-number-eq6.true)).1

-- 03 and 05 are what the rings show one by one
early : (c : Else-number-eq6) → finding c.args.tolerance (points_of c.args.points.now.flat) (polygon_of c.args.rings.now.entries c.args.rings.now.starts c.args.from c.args.to) ≡ rings_finding (points_of c.args.points.now.flat) 0 (span (ring_at c.args.rings.now.entries c.args.rings.now.starts) c.args.from (c.args.to - c.args.from))
early c = let k = c.requires.number_value in
    position_early c.args.tolerance (points_of c.args.points.now.flat) (polygon_of c.args.rings.now.entries c.args.rings.now.starts c.args.from c.args.to) k.1 (λ e. c.if-number-eq6.false (k.0 ∙ e)) ∙ ap (rings_finding (points_of c.args.points.now.flat) 0) (sym (rings_are c.requires.lies.rings c.requires.lies.some))

pub first_met-requires : goal.first_met-requires
first_met-requires c = let k = c.requires.number_value in
    record { lies = c.requires.lies; fact = placed_as (finding c.args.tolerance (points_of c.args.points.now.flat) (polygon_of c.args.rings.now.entries c.args.rings.now.starts c.args.from c.args.to)) k.0 k.1 c.if-number-eq6.false; number_value = k.0 ∙ ap finding_number_of (early c) }

pub returns : goal.returns
returns c = c.unwrap_or-2.ensures ∙ ap (λ (r : Option ℕ). unwrap_or r 0) c.first_met.ensures ∙ ap finding_position_of (sym (early ((goal.at.returns c).Else-number-eq6)))
