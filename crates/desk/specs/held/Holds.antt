-- How the arrays and the scalars hold the service's state, and what a line does to them.
use Rattle.std.specs.Prelude.{ℕ, ◌+◌, ◌≡◌, List, length}
use Rattle.std.proofs.lemmas.List.Edits.{sets}
use Rattle.lines.specs.Lines.{ended}
use Rattle.frame.specs.Frame.{Frame}
use Rattle.taken.specs.held.Chains.{Chained}
use Rattle.building.specs.Tables.{Tables, Building}
use Rattle.building.specs.declared.Arrays.{Arrays}
use Rattle.building.specs.held.Holds.{tables_in, held_building, LoadedIn, Sizes, KeptIn}
use Rattle.service.specs.Service.{State, nothing, loading, holding, Outcome, outcome, refusal}
use Rattle.modes.specs.declared.Mode.{Mode}
use Rattle.modes.specs.declared.Mode.TheVariants.{Nothing, Loading, Holding}
use Rattle.desk.specs.declared.Desk.{Desk}

-- the state of a mode, over the tables of a load and a held building
unfoldable pub state_of : Mode → Tables → Building → State
state_of Nothing t b = nothing
state_of Loading t b = loading t
state_of Holding t b = holding b

-- the state that the arrays and the scalars hold
unfoldable pub service : Arrays → Desk → State
service a d = state_of d.mode (tables_in a d.held) (held_building a d.held)

-- what always holds of them; findings, parts and edges are kept while a building is held, and while a load runs the edges' room holds the
-- points by their places, of which there are none before the first load
pub record Valid (a : Arrays) (d : Desk) : Type 0 where
  pub loaded : LoadedIn a d.held
  pub sizes : Sizes a
  pub kept : d.mode ≡ Holding → KeptIn a d.held
  pub chained : d.mode ≡ Loading → Chained a.points.flat a.table d.held.points
  pub fresh : d.mode ≡ Nothing → Chained a.points.flat a.table 0

-- what comes back after an outcome, answered at a place of the room
pub record Did (o : Outcome) (room : List ℕ) (at : ℕ) (a : Arrays) (room' : List ℕ) (d : Desk) : Type 0 where
  pub valid : Valid a d
  pub next : service a d ≡ o.next
  pub wrote : room' ≡ sets room at (ended o.answer)
  pub past : d.at ≡ at + length (ended o.answer)

-- what a frame does to a state
abbrev pub does : State → Frame → Outcome
does st f = outcome (refusal st f) st f
