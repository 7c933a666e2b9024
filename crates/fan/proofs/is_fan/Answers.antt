-- `fan::is_fan` meets its contract. The plane keeps the two coordinates that the axis leaves.
use mathlib.Core.Path.{◌∙◌, ap₂}
use Prim.Native.Nat.{ℕ, ◌-◌}
use lib.ListN.{length, get_or}
use Rattle.fan.specs.held.Fan.{spot_in, is_fan_of}
use Rattle.fan.specs.laws.Planes.{fan_plane}
use Rattle.fan.proofs.is_fan.Goals as goal

pub returns : goal.returns
returns c = let a = c.args in
    c.fans_in.ensures
    ∙ ap₂ (λ (j k : ℕ). is_fan_of (λ i. spot_in a.points.now.flat j k (get_or a.ring.now i 0)) (length a.ring.now - 3)) c.left_by.ensures.0 c.left_by.ensures.1
    ∙ fan_plane a.axis a.points.now.flat a.ring.now (length a.ring.now - 3)
