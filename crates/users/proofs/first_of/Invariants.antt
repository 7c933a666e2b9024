-- `users::first_of` meets its contract. The loop keeps: before lo stand words of edges below e, and from hi on none.
use Prim.Native.Nat.{◌-◌}
use Rattle.users.specs.held.Users.{Halving}
use Rattle.users.proofs.first_of.Given as goal

abbrev pub invariant-loop-lo : goal.invariant-loop-lo
invariant-loop-lo l = Halving l.words l.e l.lo l.hi

abbrev pub decreases-loop-lo : goal.decreases-loop-lo
decreases-loop-lo l = l.hi - l.lo
