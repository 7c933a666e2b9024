-- `nearer` meets its contract. The invariant: the line that starts at `i` ends where the one that starts at `from` does.
use Rattle.std.specs.Prelude.{◌≡◌, ◌-◌, length}
use Rattle.lines.specs.held.Offsets.{line_end_of}
use Rattle.lines.proofs.nearer.Given as goal

abbrev pub invariant-loop-i : goal.invariant-loop-i
invariant-loop-i l = line_end_of l.stream l.i ≡ line_end_of l.stream l.from

abbrev pub decreases-loop-i : goal.decreases-loop-i
decreases-loop-i l = length l.stream - l.i
