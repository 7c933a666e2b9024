-- What a mode says.
use Rattle.std.specs.Prelude.{Bool, true, false}
use Rattle.modes.specs.declared.Mode.{Mode}
use Rattle.modes.specs.declared.Mode.TheVariants.{Nothing, Loading, Holding}

-- whether a load is running, whether a building is held
abbrev pub loads : Mode → Bool
loads Nothing = false
loads Loading = true
loads Holding = false

abbrev pub holds : Mode → Bool
holds Nothing = false
holds Loading = false
holds Holding = true
