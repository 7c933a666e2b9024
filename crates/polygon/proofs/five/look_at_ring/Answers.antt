-- `polygon::five::look_at_ring` meets its contract. As `look_at`, without 06.
use native.Mathlib.Omega.{arith}
use mir.Syntax.{w64}
use Rattle.whole.specs.laws.Size.{call_is}
use Rattle.space.specs.held.Points.{points_of}
use Rattle.polygon.proofs.Order.{found_short}
use Rattle.volume.specs.laws.Sums.{part_none}
use Rattle.polygon.proofs.five.look_at_ring.Goals as goal

pub returns-then-ring-eq0 : goal.returns-then-ring-eq0
returns-then-ring-eq0 c = let a = c.args in
    record { finding_value = found_short (points_of a.points.now.flat) a.ring.now (omega arith); part_value = part_none (points_of a.points.now.flat) a.ring.now (omega arith) }

pub part_of-part-requires : goal.part_of-part-requires
part_of-part-requires c = record { known = c.requires.known; in_bounds = omega (arith, c.if-ring-eq0.false); n_value = c.normal-n.ensures }

pub returns : goal.returns
returns c = record { finding_value = c.one_by_one-finding.ensures; part_value = call_is w64 c.part_of-part.type_inv c.part_of-part.ensures }
