-- `places::place` meets its contract: three stores of numbers that fit either width.
use Rattle.std.proofs.Common.{◌≡◌, ◌+◌, ◌*◌, ◌∙◌, set, ℤ, of_z, to_z, w32, w64}
use Rattle.whole.specs.held.Small.{Small}
use Rattle.whole.specs.laws.Size.{small_fits, small_back, back_small}
use Rattle.places.specs.held.Places.{point3}
use Rattle.places.specs.laws.Near.{near-place}
use Rattle.places.proofs.place.Goals as goal

pub overflow_cast-points : goal.overflow_cast-points
overflow_cast-points c = small_fits {w = w32} tt (back_small w64 tt (near-place (point3 c.args.x c.args.y c.args.z) c.requires.z_value).x)

pub overflow_cast-points-2 : goal.overflow_cast-points-2
overflow_cast-points-2 c = small_fits {w = w32} tt (back_small w64 tt (near-place (point3 c.args.x c.args.y c.args.z) c.requires.z_value).y)

pub overflow_cast-points-3 : goal.overflow_cast-points-3
overflow_cast-points-3 c = small_fits {w = w32} tt (back_small w64 tt (near-place (point3 c.args.x c.args.y c.args.z) c.requires.z_value).z)

-- a coordinate as it is held
held : {z : ℤ} → Small 100000 z → to_z w32 (of_z w32 (to_z w64 (of_z w64 z))) ≡ z
held h = small_back w32 tt (back_small w64 tt h) ∙ small_back w64 tt h

pub returns : goal.returns
returns c =
    let near = near-place (point3 c.args.x c.args.y c.args.z) c.requires.z_value in
    let i = 3 * c.args.n in
    λ k. set (set (set c.args.points.now i (held near.x k)) (i + 1) (held near.y k)) (i + 2) (held near.z k)
