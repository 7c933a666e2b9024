-- `taken::stands_else` meets its contract. The loop keeps: what is left of the points tells of them all.
use mathlib.Core.Path.{◌≡◌}
use lib.ListN.{take, drop}
use Rattle.space.specs.held.Points.{points_of}
use Rattle.places.specs.Points.{stands_else_of}
use Rattle.places.specs.held.Places.{point3}
use Rattle.taken.specs.laws.Else.{else_from}
use Rattle.taken.proofs.stands_else.Given as goal

abbrev pub invariant-loop-i : goal.invariant-loop-i
invariant-loop-i l = else_from l.i l.n (point3 l.x l.y l.z) (drop l.i (take l.count (points_of l.points))) ≡ stands_else_of l.n (point3 l.x l.y l.z) (take l.count (points_of l.points))
