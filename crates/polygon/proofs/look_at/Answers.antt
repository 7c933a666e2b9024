-- `polygon::look_at` meets its contract. An empty ring apart, the normal tells both.
use native.Mathlib.Omega.{arith}
use mir.Syntax.{w64}
use Rattle.whole.specs.laws.Size.{call_is}
use Rattle.space.specs.held.Points.{points_of}
use Rattle.polygon.proofs.Order.{found_short, found_early}
use Rattle.volume.specs.laws.Sums.{part_none}
use Rattle.polygon.proofs.look_at.Goals as goal

pub returns-then-ring-eq0 : goal.returns-then-ring-eq0
returns-then-ring-eq0 c = let a = c.args in
    record { finding_value = found_early (points_of a.points.now.flat) a.ring.now a.tolerance (found_short (points_of a.points.now.flat) a.ring.now (omega arith)) (λ z. cc); part_value = part_none (points_of a.points.now.flat) a.ring.now (omega arith) }

pub part_of-part-requires : goal.part_of-part-requires
part_of-part-requires c = record { known = c.requires.known; in_bounds = omega (arith, c.if-ring-eq0.false); n_value = c.normal_of-n.ensures }

pub returns : goal.returns
returns c = record { finding_value = c.first_failing-finding.ensures; part_value = call_is w64 c.part_of-part.type_inv c.part_of-part.ensures }
