-- `volume::part_of` meets its contract. The loop: a sum over the steps passed, each at most 6·10^15 in size.
use Prim.Native.Nat.{◌<◌}
use Rattle.whole.specs.laws.Sum.{Acc}
use Rattle.space.specs.held.Points.{points_of}
use Rattle.space.specs.laws.Sums.{rest}
use Rattle.volume.specs.Part.{part}
use Rattle.volume.specs.laws.Sums.{part_step}
use Rattle.volume.proofs.part_of.Given as goal

abbrev pub invariant-loop-next : goal.invariant-loop-next
invariant-loop-next l = (l.last < 512) × Acc (part_step (points_of l.points.flat) l.first) 6000000000000000 (part (points_of l.points.flat) l.ring) (rest l.ring) l.last l.next-index l.sum
