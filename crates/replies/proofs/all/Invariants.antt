-- `replies::all` meets its contract.
use Rattle.replies.specs.laws.Loop.{Running}
use lib.ListN.{length}
use Prim.Native.Nat.{◌+◌, ◌-◌}
use Rattle.replies.proofs.all.Given as goal

abbrev pub invariant-loop-from : goal.invariant-loop-from
invariant-loop-from l = Running l.stream l.initial.room l.room l.arrays l.d l.from

abbrev pub decreases-loop-from : goal.decreases-loop-from
decreases-loop-from l = length l.stream + 1 - l.from
