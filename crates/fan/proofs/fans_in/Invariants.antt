-- `fan::fans_in` meets its contract. The loop: what is gathered either way about is the test of all that were passed.
use Prim.Native.Nat.{ℕ}
use mathlib.Core.Bool.{true, false}
use mathlib.Core.List.{List}
use mathlib.Core.Path.{◌≡◌}
use lib.ListN.{get_or}
use lib.IntN.{ℤ}
use Rattle.plane.specs.Plane.{Spot}
use Rattle.fan.specs.declared.Plane.{Plane}
use Rattle.fan.specs.held.Fan.{spot_in, every, fans}
use Rattle.fan.proofs.fans_in.Given as goal

-- where entry i of the ring stands
abbrev pub at : List ℤ → List ℕ → Plane → ℕ → Spot
at flat ring plane i = spot_in flat plane.u plane.v (get_or ring i 0)

abbrev pub invariant-loop-i : goal.invariant-loop-i
invariant-loop-i l = (l.up ≡ every (fans true (at l.points.flat l.ring l.plane)) l.i) × (l.down ≡ every (fans false (at l.points.flat l.ring l.plane)) l.i)
