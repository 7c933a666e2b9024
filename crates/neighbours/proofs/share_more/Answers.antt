-- `neighbours::share_more` meets its contract. Both numbers are those of the definition.
use Rattle.std.specs.Prelude.{ℤ, pos, ◌&&◌}
use Rattle.std.specs.Int.{w64}
use Rattle.std.specs.Int.Signed.{lt_z}
use Rattle.std.proofs.Common.{ap, ap₂, ◌∙◌}
use Rattle.whole.specs.Lists.{same_z}
use Rattle.whole.specs.laws.Size.{call_is}
use Rattle.plane.specs.Plane.{share_more_of}
use Rattle.plane.specs.laws.Sizing.{zero_test}
use Rattle.neighbours.proofs.share_more.Goals as goal

pub returns : goal.returns
unfolding share_more_of
returns c =
    ap₂ ◌&&◌
    (zero_test (record { sfits = c.turn_off.type_inv }) ∙ ap (λ (z : ℤ). same_z z (pos 0)) c.turn_off.ensures)
    (ap (λ (z : ℤ). lt_z z (pos 0)) (call_is w64 c.ahead.type_inv c.ahead.ensures))
