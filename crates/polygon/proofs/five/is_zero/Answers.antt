-- `polygon::five::is_zero` meets its contract. A number is 0 exactly when its bits are.
use mathlib.Core.Bool.{◌&&◌}
use mathlib.Core.Path.{ap₂}
use Rattle.whole.specs.laws.Size.{small_fits}
use Rattle.normal.specs.Normal.{is_zero_of}
use Rattle.plane.specs.laws.Sizing.{zero_test}
use Rattle.polygon.proofs.five.is_zero.Goals as goal

pub returns : goal.returns
unfolding is_zero_of
returns c = let h = c.requires in
    ap₂ ◌&&◌ (ap₂ ◌&&◌ (zero_test (small_fits tt h.x)) (zero_test (small_fits tt h.y))) (zero_test (small_fits tt h.z))
