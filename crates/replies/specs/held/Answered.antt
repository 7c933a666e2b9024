-- How a call starts, and what it leaves in the room.
use Rattle.std.specs.Prelude.{ℕ, ◌≡◌, List, length}
use Rattle.std.proofs.lemmas.List.Edits.{sets}
use Rattle.shell.specs.declared.Shape.TheVariants.{Whole}
use Rattle.service.specs.Stream.{answers}
use Rattle.modes.specs.declared.Mode.TheVariants.{Nothing}
use Rattle.desk.specs.declared.Desk.{Desk}

-- "no load running and no building held"
abbrev pub idle_desk : Desk
idle_desk = record { mode = Nothing; held = record { tolerance = 0; points = 0; polygons = 0; last = 0; edges = 0; fixed = Whole; shape = Whole }; at = 0 }

-- the answers to a stream stand at the front of the room, and all else is as it was
pub record Answered (stream room room' : List ℕ) (r : ℕ) : Type 0 where
  pub bytes : room' ≡ sets room 0 (answers stream)
  pub count : r ≡ length (answers stream)
