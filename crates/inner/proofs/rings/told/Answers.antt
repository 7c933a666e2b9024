-- `inner::rings::told` meets its contract. What was told stays; otherwise the ring's own finding is told, moved on where it has a position.
use mathlib.Core.Path.{refl}
use Rattle.inner.proofs.rings.told.Goals as goal

pub returns-in-Sound : goal.returns-in-Sound
returns-in-Sound c = record { told = record { had = λ h. absurd (h c.in-Sound.is); new = λ z. c.later.ensures.found }; few = c.later.ensures.few }

pub returns-in_default : goal.returns-in_default
returns-in_default c = record { told = record { had = λ h. refl; new = λ z. absurd (c.in_default.not-Sound z) }; few = c.requires.0 }
