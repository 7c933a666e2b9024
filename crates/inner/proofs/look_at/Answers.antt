-- `inner::look_at` meets its contract. One ring is told as before; of several, what is told ring by ring, or else what is told of them together.
use native.Mathlib.Nat.{le_refl}
use native.Mathlib.Omega.{arith}
use Prim.Native.Nat.{ℕ}
use mathlib.Core.Path.{◌≡◌, sym, ap, ◌∙◌}
use mathlib.Core.List.{List}
use Rattle.whole.specs.Lists.{sum_of}
use Rattle.space.specs.held.Points.{points_of}
use Rattle.ring.specs.Polygon.{Polygon, rings_of}
use Rattle.ring.specs.held.Rings.{polygon_of}
use Rattle.volume.specs.Part.{part as ringPart}
use Rattle.inner.specs.Finding.{finding, part}
use Rattle.inner.specs.laws.Rows.{rings_finding}
use Rattle.inner.proofs.laws.Tables.{rings_are, one_is, part-back}
use Rattle.inner.proofs.Order.{told-early, all_sound, told-late}
use Rattle.inner.proofs.look_at.Goals as goal
use Rattle.inner.proofs.look_at.Goals.{After-look_at_rings-early}

-- ---- what the rings told one by one
found_is : (c : After-look_at_rings-early) → c.look_at_rings-early.result.finding ≡ rings_finding (points_of c.args.points.now.flat) 0 (rings_of (polygon_of c.args.rings.now.entries c.args.rings.now.starts c.args.from c.args.to))
found_is c = c.look_at_rings-early.ensures.finding_value ∙ ap (λ (l : List (List ℕ)). rings_finding (points_of c.args.points.now.flat) 0 l) (rings_are c.requires.lies.rings c.requires.lies.some)

part_is : (c : After-look_at_rings-early) → c.look_at_rings-early.result.part ≡ part (points_of c.args.points.now.flat) (polygon_of c.args.rings.now.entries c.args.rings.now.starts c.args.from c.args.to)
unfolding part
part_is c = c.look_at_rings-early.ensures.part_value ∙ ap (λ (l : List (List ℕ)). sum_of (ringPart (points_of c.args.points.now.flat)) l) (rings_are c.requires.lies.rings c.requires.lies.some)

-- ---- the needs
pub overflow_add-from : goal.overflow_add-from
overflow_add-from c = omega (arith, c.requires.lies.rings.few, c.requires.lies.some)

pub look_at_one-requires : goal.look_at_one-requires
look_at_one-requires c = record { ring = c.requires.lies.rings.each c.args.from (le_refl c.args.from) c.requires.lies.some; tolerance_bound = c.requires.tolerance_bound }

pub returns-then-to-from : goal.returns-then-to-from
returns-then-to-from c = let e = sym (one_is c.requires.lies.rings c.requires.lies.some c.if-to-from.true) in
    record { finding_value = c.look_at_one.ensures.finding_value ∙ ap (λ (p : Polygon). finding c.args.tolerance (points_of c.args.points.now.flat) p) e; few = c.look_at_one.ensures.few; part_value = c.look_at_one.ensures.part_value ∙ ap (part (points_of c.args.points.now.flat)) e }

pub look_at_rings-early-requires : goal.look_at_rings-early-requires
look_at_rings-early-requires c = record { lies = c.requires.lies }

pub returns-in_default : goal.returns-in_default
returns-in_default c = record { finding_value = told-early c.args.tolerance (points_of c.args.points.now.flat) (polygon_of c.args.rings.now.entries c.args.rings.now.starts c.args.from c.args.to) (found_is ((goal.at.returns-in_default c).After-look_at_rings-early)) c.in_default.not-Sound; few = c.look_at_rings-early.ensures.few; part_value = part_is ((goal.at.returns-in_default c).After-look_at_rings-early) }

pub last_three-finding-requires : goal.last_three-finding-requires
last_three-finding-requires c = record { lies = c.requires.lies; tolerance_bound = c.requires.tolerance_bound; to_value = all_sound c.args.tolerance (points_of c.args.points.now.flat) (polygon_of c.args.rings.now.entries c.args.rings.now.starts c.args.from c.args.to) (found_is ((goal.at.last_three-finding-requires c).After-look_at_rings-early)) c.in-Sound.is }

pub returns : goal.returns
returns c = record { finding_value = told-late c.args.tolerance (points_of c.args.points.now.flat) (polygon_of c.args.rings.now.entries c.args.rings.now.starts c.args.from c.args.to) (found_is ((goal.at.returns c).After-look_at_rings-early)) c.in-Sound.is c.last_three-finding.ensures.found; few = omega (arith, c.last_three-finding.ensures.few); part_value = part-back c.requires.lies.rings c.requires.lies.some c.args.points.now.coords (part_is ((goal.at.returns c).After-look_at_rings-early)) }
