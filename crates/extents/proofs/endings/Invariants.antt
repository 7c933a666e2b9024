-- `extents::endings` meets its contract. The loop: the first i ends are there.
use Rattle.std.proofs.Common.{not, nat_eq, ◌≡◌, ℕ, ◌+◌, ◌<◌, length, get_or}
use Rattle.extents.specs.held.Extents.{ending}
use Rattle.extents.proofs.endings.Given as goal

abbrev pub invariant-loop-i : goal.invariant-loop-i
invariant-loop-i g l = (length l.room ≡ 176) × ((j : ℕ) → j < l.i → get_or l.room j 0 ≡ ending (not (nat_eq g.row.HIGH 0)) (get_or l.ps j 0) (get_or l.ps (j + 1) 0))
