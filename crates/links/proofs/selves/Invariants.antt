-- `links::selves` meets its contract.
use lib.ListN.{length, get_or}
use mathlib.Core.Path.{◌≡◌}
use Prim.Native.Nat.{ℕ, ◌<◌}
use Rattle.links.proofs.selves.Given as goal

abbrev pub invariant-loop-i : goal.invariant-loop-i
invariant-loop-i l = (length l.t ≡ 1024) × ((k : ℕ) → k < l.i → get_or l.t k 0 ≡ k)
