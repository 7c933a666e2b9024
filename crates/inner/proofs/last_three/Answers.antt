-- `inner::last_three` meets its contract. Each return is the row whose test holds where no earlier one does.
use native.Mathlib.Nat.{le_refl}
use native.Mathlib.Omega.{arith}
use Prim.Native.Nat.{◌≤◌}
use mathlib.Core.Path.{◌≡◌, sym, ap, ◌∙◌}
use mathlib.Core.Bool.{false}
use mathlib.Core.List.{map}
use lib.ListN.{length, get_or}
use Rattle.space.specs.declared.Axis.{Axis}
use Rattle.space.specs.Space.{Point, places}
use Rattle.space.specs.held.Points.{points_of, as_point, Near}
use Rattle.space.specs.laws.Sizes.{near_same}
use Rattle.normal.specs.Normal.{normal}
use Rattle.normal.specs.laws.Sizes.{normal-near}
use Rattle.plane.specs.Plane.{largest_axis_of}
use Rattle.even.specs.Even.{is_uneven, uneven_at}
use Rattle.ring.specs.Polygon.{rings_of, entries_from}
use Rattle.ring.specs.held.Rings.{polygon_of}
use Rattle.holes.specs.Holes.{seen, component, component_of, is_shared, is_misplaced_of}
use Rattle.polygon.specs.Ring.{finding_position_of}
use Rattle.inner.proofs.laws.Tables.{start-few, entries-count, all-filled, all_closed}
use Rattle.inner.proofs.Order.{found_uneven, even_is, found-shared, found-misplaced, found_none}
use Rattle.inner.proofs.last_three.Goals as goal
use Rattle.inner.proofs.last_three.Goals.{After-is_misplaced, After-is_shared, After-largest_axis-axis, After-normal_of-n, In_default, Start}

long : (s : Start) → 1 ≤ length (polygon_of s.args.rings.now.entries s.args.rings.now.starts s.args.from s.args.to).outer
long s = (all-filled s.requires.lies.rings s.requires.lies.some (points_of s.args.points.now.flat) s.requires.to_value).each s.args.from (le_refl s.args.from) s.requires.lies.some

near : (c : After-normal_of-n) → Near 10160000000000 (as_point c.normal_of-n.result)
near c = near_same c.normal_of-n.ensures (normal-near c.args.points.now.coords (c.requires.lies.rings.each c.args.from (le_refl c.args.from) c.requires.lies.some).known)

few : (s : Start) → get_or s.args.rings.now.starts s.args.to 0 ≤ 1024
few s = start-few s.requires.lies.rings s.args.to s.requires.lies.some (le_refl s.args.to)

-- ---- what each check told
normal_is : (c : After-normal_of-n) → uneven_at c.args.tolerance (as_point c.normal_of-n.result) (places (points_of c.args.points.now.flat) (entries_from (polygon_of c.args.rings.now.entries c.args.rings.now.starts c.args.from c.args.to))) ≡ uneven_at c.args.tolerance (normal (places (points_of c.args.points.now.flat) (polygon_of c.args.rings.now.entries c.args.rings.now.starts c.args.from c.args.to).outer)) (places (points_of c.args.points.now.flat) (entries_from (polygon_of c.args.rings.now.entries c.args.rings.now.starts c.args.from c.args.to)))
normal_is c = ap (λ (m : Point). uneven_at c.args.tolerance m (places (points_of c.args.points.now.flat) (entries_from (polygon_of c.args.rings.now.entries c.args.rings.now.starts c.args.from c.args.to)))) c.normal_of-n.ensures

even : (c : In_default) → is_uneven c.args.tolerance (normal (places (points_of c.args.points.now.flat) (polygon_of c.args.rings.now.entries c.args.rings.now.starts c.args.from c.args.to).outer)) (places (points_of c.args.points.now.flat) (entries_from (polygon_of c.args.rings.now.entries c.args.rings.now.starts c.args.from c.args.to))) ≡ false
even c = even_is c.args.tolerance (points_of c.args.points.now.flat) (polygon_of c.args.rings.now.entries c.args.rings.now.starts c.args.from c.args.to) (c.in_default.ensures.first ∙ ap (λ (m : Point). uneven_at c.args.tolerance m (places (points_of c.args.points.now.flat) (entries_from (polygon_of c.args.rings.now.entries c.args.rings.now.starts c.args.from c.args.to)))) c.normal_of-n.ensures) (omega arith)

axis-is : (c : After-largest_axis-axis) → c.largest_axis-axis.result ≡ largest_axis_of ((normal (places (points_of c.args.points.now.flat) (polygon_of c.args.rings.now.entries c.args.rings.now.starts c.args.from c.args.to).outer)))
axis-is c = c.largest_axis-axis.ensures ∙ ap largest_axis_of c.normal_of-n.ensures

shared_is : (c : After-is_shared) → is_shared (map (seen (largest_axis_of ((normal (places (points_of c.args.points.now.flat) (polygon_of c.args.rings.now.entries c.args.rings.now.starts c.args.from c.args.to).outer)))) (points_of c.args.points.now.flat)) (rings_of (polygon_of c.args.rings.now.entries c.args.rings.now.starts c.args.from c.args.to))) ≡ c.is_shared.result
shared_is c = ap (λ (x : Axis). is_shared (map (seen x (points_of c.args.points.now.flat)) (rings_of (polygon_of c.args.rings.now.entries c.args.rings.now.starts c.args.from c.args.to)))) (sym ((c.largest_axis-axis.ensures ∙ ap largest_axis_of c.normal_of-n.ensures))) ∙ sym c.is_shared.ensures

misplaced-is : (c : After-is_misplaced) → is_misplaced_of (seen (largest_axis_of ((normal (places (points_of c.args.points.now.flat) (polygon_of c.args.rings.now.entries c.args.rings.now.starts c.args.from c.args.to).outer)))) (points_of c.args.points.now.flat) (polygon_of c.args.rings.now.entries c.args.rings.now.starts c.args.from c.args.to).outer) (map (seen (largest_axis_of ((normal (places (points_of c.args.points.now.flat) (polygon_of c.args.rings.now.entries c.args.rings.now.starts c.args.from c.args.to).outer)))) (points_of c.args.points.now.flat)) (polygon_of c.args.rings.now.entries c.args.rings.now.starts c.args.from c.args.to).inner) (component (largest_axis_of ((normal (places (points_of c.args.points.now.flat) (polygon_of c.args.rings.now.entries c.args.rings.now.starts c.args.from c.args.to).outer)))) ((normal (places (points_of c.args.points.now.flat) (polygon_of c.args.rings.now.entries c.args.rings.now.starts c.args.from c.args.to).outer)))) (map (component_of (largest_axis_of ((normal (places (points_of c.args.points.now.flat) (polygon_of c.args.rings.now.entries c.args.rings.now.starts c.args.from c.args.to).outer)))) (points_of c.args.points.now.flat)) (polygon_of c.args.rings.now.entries c.args.rings.now.starts c.args.from c.args.to).inner) ≡ c.is_misplaced.result
misplaced-is c = let x = sym ((c.largest_axis-axis.ensures ∙ ap largest_axis_of c.normal_of-n.ensures)) in
    let m = sym c.normal_of-n.ensures in
    (λ i. is_misplaced_of (seen (x i) (points_of c.args.points.now.flat) (polygon_of c.args.rings.now.entries c.args.rings.now.starts c.args.from c.args.to).outer) (map (seen (x i) (points_of c.args.points.now.flat)) (polygon_of c.args.rings.now.entries c.args.rings.now.starts c.args.from c.args.to).inner) (component (x i) (m i)) (map (component_of (x i) (points_of c.args.points.now.flat)) (polygon_of c.args.rings.now.entries c.args.rings.now.starts c.args.from c.args.to).inner))
    ∙ sym c.is_misplaced.ensures

-- ---- the needs
pub normal_of-n-requires : goal.normal_of-n-requires
normal_of-n-requires c = record { ring = (c.requires.lies.rings.each c.args.from (le_refl c.args.from) c.requires.lies.some, long c) }

pub first_uneven-requires : goal.first_uneven-requires
first_uneven-requires c = record { lies = c.requires.lies; in_bounds = (long ((goal.at.first_uneven-requires c).Start), c.requires.tolerance_bound); near = near c }

pub overflow_cast-result : goal.overflow_cast-result
overflow_cast-result c = omega (arith, c.in-Some.ensures.few, entries-count c.requires.lies.rings c.requires.lies.some, few ((goal.at.overflow_cast-result c).Start))

pub returns-in-Some : goal.returns-in-Some
unfolding finding_position_of
returns-in-Some c = let at = goal.at.returns-in-Some c in
    let e = c.in-Some.ensures in
    record { found = found_uneven c.args.tolerance (points_of c.args.points.now.flat) (polygon_of c.args.rings.now.entries c.args.rings.now.starts c.args.from c.args.to) (e.first ∙ normal_is at.After-normal_of-n) e.few; few = omega (arith, e.few, entries-count c.requires.lies.rings c.requires.lies.some, few at.Start) }

pub largest_axis-axis-requires : goal.largest_axis-axis-requires
largest_axis-axis-requires c = near ((goal.at.largest_axis-axis-requires c).After-normal_of-n)

pub is_shared-requires : goal.is_shared-requires
is_shared-requires c = c.requires.lies

pub returns-then-is_shared : goal.returns-then-is_shared
unfolding finding_position_of
returns-then-is_shared c = record { found = found-shared c.args.tolerance (points_of c.args.points.now.flat) (polygon_of c.args.rings.now.entries c.args.rings.now.starts c.args.from c.args.to) (even ((goal.at.returns-then-is_shared c).In_default)) (shared_is ((goal.at.returns-then-is_shared c).After-is_shared) ∙ c.if-is_shared.true); few = omega arith }

pub is_misplaced-requires : goal.is_misplaced-requires
is_misplaced-requires c = let h = c.requires.lies in
    let e = c.requires.to_value in
    record { lies = h; filled = (all-filled h.rings h.some (points_of c.args.points.now.flat) e, all_closed h.rings h.some (points_of c.args.points.now.flat) e); to_value = sym c.is_shared.ensures ∙ c.if-is_shared.false; near = near ((goal.at.is_misplaced-requires c).After-normal_of-n) }

pub returns-then-is_misplaced : goal.returns-then-is_misplaced
unfolding finding_position_of
returns-then-is_misplaced c = record { found = found-misplaced c.args.tolerance (points_of c.args.points.now.flat) (polygon_of c.args.rings.now.entries c.args.rings.now.starts c.args.from c.args.to) (even ((goal.at.returns-then-is_misplaced c).In_default)) (shared_is ((goal.at.returns-then-is_misplaced c).After-is_shared) ∙ c.if-is_shared.false) (misplaced-is ((goal.at.returns-then-is_misplaced c).After-is_misplaced) ∙ c.if-is_misplaced.true); few = omega arith }

pub returns : goal.returns
unfolding finding_position_of
returns c = record { found = found_none c.args.tolerance (points_of c.args.points.now.flat) (polygon_of c.args.rings.now.entries c.args.rings.now.starts c.args.from c.args.to) (even ((goal.at.returns c).In_default)) (shared_is ((goal.at.returns c).After-is_shared) ∙ c.if-is_shared.false) (misplaced-is ((goal.at.returns c).After-is_misplaced) ∙ c.if-is_misplaced.false); few = omega arith }
