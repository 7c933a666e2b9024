-- `polygon::first_failing` meets its contract. What 01 to 05 tell is the finding; where they tell nothing, 06 does.
use mathlib.Core.Path.{◌≡◌, ◌∙◌, sym, ap}
use mathlib.Core.Bool.{false}
use Prim.Native.Nat.{◌≤◌}
use native.Mathlib.Omega.{arith}
use lib.ListN.{length}
use Rattle.space.specs.held.Points.{points_of, as_point}
use Rattle.space.specs.Space.{Point, places}
use Rattle.ring.specs.Entries.{is_unclosed}
use Rattle.normal.specs.Normal.{normal}
use Rattle.even.specs.Even.{uneven_at}
use Rattle.polygon.specs.laws.Checks.{ring_closed}
use Rattle.polygon.specs.declared.Finding.TheVariants.{Sound}
use Rattle.polygon.specs.Ring.{ring_finding}
use Rattle.polygon.specs.laws.Triangle.{triangle_even}
use Rattle.polygon.proofs.Order.{found_early, found_uneven, found-sound, even_is}
use Rattle.polygon.proofs.first_failing.Goals as goal
use Rattle.polygon.proofs.first_failing.Goals.{In-Sound, Start}

-- ---- what each check told
sound : (c : In-Sound) → Sound ≡ ring_finding (points_of c.args.points.now.flat) c.args.ring.now
sound c = sym c.in-Sound.is ∙ c.first_of_five.ensures

closed : (c : In-Sound) → let ring = c.args.ring.now in (4 ≤ length ring) × (is_unclosed ring ≡ false)
closed c = ring_closed (points_of c.args.points.now.flat) c.args.ring.now (sym (sound c))

normal_is : (c : Start) → let s = places (points_of c.args.points.now.flat) c.args.ring.now in uneven_at c.args.tolerance (as_point c.args.n) s ≡ uneven_at c.args.tolerance (normal s) s
normal_is c = ap (λ (n : Point). uneven_at c.args.tolerance n (places (points_of c.args.points.now.flat) c.args.ring.now)) c.requires.n_value

pub returns-in_default : goal.returns-in_default
returns-in_default c = found_early (points_of c.args.points.now.flat) c.args.ring.now c.args.tolerance c.first_of_five.ensures c.in_default.not-Sound

pub returns-then-ring-eq4 : goal.returns-then-ring-eq4
returns-then-ring-eq4 c = found-sound (points_of c.args.points.now.flat) c.args.ring.now c.args.tolerance (sound ((goal.at.returns-then-ring-eq4 c).In-Sound)) (triangle_even (points_of c.args.points.now.flat) c.args.ring.now c.if-ring-eq4.true (closed ((goal.at.returns-then-ring-eq4 c).In-Sound)).1 c.args.tolerance)

pub first_uneven_closed-requires : goal.first_uneven_closed-requires
first_uneven_closed-requires c = let h = closed ((goal.at.first_uneven_closed-requires c).In-Sound) in
    record { known = c.requires.known; in_bounds = (omega (arith, h.0), h.1, c.requires.tolerance_bound); n_value = c.requires.n_value }

pub returns-in-Some : goal.returns-in-Some
returns-in-Some c = let at = goal.at.returns-in-Some c in
    let e = c.in-Some.ensures in
    found_uneven (points_of c.args.points.now.flat) c.args.ring.now c.args.tolerance (sound at.In-Sound) (e.first ∙ normal_is at.Start) e.few

pub returns : goal.returns
returns c = let at = goal.at.returns c in
    found-sound (points_of c.args.points.now.flat) c.args.ring.now c.args.tolerance (sound at.In-Sound) (even_is (points_of c.args.points.now.flat) c.args.ring.now c.args.tolerance (c.in_default-first_uneven_closed.ensures.first ∙ normal_is at.Start) (omega arith))
