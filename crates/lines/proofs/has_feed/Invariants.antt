-- `has_feed` meets its contract. The invariant: where none is found yet, all line feeds are still to come.
use Rattle.std.specs.Prelude.{◌≡◌, false, drop}
use Rattle.lines.specs.held.Offsets.{feeds}
use Rattle.lines.proofs.has_feed.Given as goal

abbrev pub invariant-loop-b : goal.invariant-loop-b
invariant-loop-b l = l.found ≡ false → feeds (drop l.b-index l.part) ≡ feeds l.part
