-- framecheck::read_full: what is left of the room shrinks with each read that is not the end.
use Rattle.std.proofs.Common.{length, ◌-◌, ◌≤◌}
use Rattle.framecheck.proofs.read_full.Given as goal

abbrev pub invariant-loop-n : goal.invariant-loop-n
invariant-loop-n g l = l.n ≤ length l.stream

abbrev pub decreases-loop-n : goal.decreases-loop-n
decreases-loop-n g l = length l.initial.stream - l.n
