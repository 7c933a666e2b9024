-- Which findings have a position.
use Rattle.std.specs.Prelude.{Bool, true, false}
use Rattle.polygon.specs.declared.Finding.{Finding}
use Rattle.polygon.specs.declared.Finding.TheVariants.{Sound, Short, Unclosed, Repeated, NoNormal, Crossed, Uneven, Shared, Misplaced}

unfoldable pub has_position_of : Finding → Bool
has_position_of Sound = false
has_position_of Short = false
has_position_of Unclosed = false
has_position_of (Repeated i) = true
has_position_of NoNormal = false
has_position_of (Crossed i) = true
has_position_of (Uneven i) = true
has_position_of Shared = false
has_position_of Misplaced = false
