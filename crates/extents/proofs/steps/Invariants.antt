-- `extents::steps` meets its contract. The loop: the first i steps are there.
use Rattle.std.proofs.Common.{◌≡◌, ℕ, ◌<◌, length, get_or, pos}
use Rattle.extents.specs.held.Extents.{step}
use Rattle.extents.proofs.steps.Given as goal

abbrev pub invariant-loop-i : goal.invariant-loop-i
invariant-loop-i l = (length l.room ≡ 176) × ((j : ℕ) → j < l.i → get_or l.room j 0 ≡ step (get_or l.us j (pos 0)))
