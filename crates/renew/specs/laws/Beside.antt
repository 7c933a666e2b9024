-- A polygon looked at anew after others: the points and the rings are those of before.
use Rattle.std.specs.Prelude.{ℕ, List, ℤ}
use Rattle.building.specs.declared.Arrays.{Arrays}
use Rattle.building.specs.held.Holds.{Beside}
use Rattle.renew.specs.held.Renewed.{Refreshed}

pub refreshed_beside : {a a' : Arrays} → Beside a a' → {tolerance p : ℕ} {findings findings' : List ℕ} {parts parts' : List ℤ}
    → Refreshed tolerance a'.points.flat a'.rings.entries a'.rings.starts a'.rings.firsts p findings parts findings' parts'
    → Refreshed tolerance a.points.flat a.rings.entries a.rings.starts a.rings.firsts p findings parts findings' parts'
refreshed_beside b r = rw (b.points, b.rings) at r
