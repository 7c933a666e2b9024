-- The arrays after polygons were looked at anew: what was told of the points and the rings is told of them still.
use Rattle.std.specs.Prelude.{refl}
use Rattle.std.proofs.Common.{◌∙◌}
use Rattle.building.specs.declared.Arrays.{Arrays}
use Rattle.building.specs.declared.Scalars.{Scalars}
use Rattle.building.specs.held.Holds.{Beside, LoadedIn}

pub beside_none : {a : Arrays} → Beside a a
beside_none = record { points = refl; rings = refl; table = refl; turned = refl }

pub beside_more : {a a' a'' : Arrays} → Beside a a' → Beside a' a'' → Beside a a''
beside_more b c = record { points = c.points ∙ b.points; rings = c.rings ∙ b.rings; table = c.table ∙ b.table; turned = c.turned ∙ b.turned }

pub beside_loaded : {a a' : Arrays} {s : Scalars} → Beside a a' → LoadedIn a s → LoadedIn a' s
beside_loaded b ld = rw (b.points, b.rings) ld
