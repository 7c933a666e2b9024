-- `extents::blocks` meets its contract. The loop: the first b blocks are there.
use Rattle.std.proofs.Common.{not, nat_eq, ◌≡◌, ℕ, ◌+◌, ◌*◌, ◌/◌, ◌<◌, length, get_or}
use Rattle.extents.specs.held.Extents.{Beyond}
use Rattle.extents.proofs.blocks.Given as goal

abbrev pub invariant-loop-b : goal.invariant-loop-b
invariant-loop-b g l =
    (length l.room ≡ 176)
    × ((k : ℕ) → k < 144 → get_or l.room k 0 ≡ get_or l.initial.room k 0)
    × ((k : ℕ) → k < 8 * l.b → Beyond (not (nat_eq g.row.HIGH 0)) (get_or l.room (144 + k / 8) 0) (get_or l.room k 0))
