-- `boxes::clash_next` meets its contract. Edges that follow one another are neighbours.
use Rattle.std.proofs.Common.{refl, ap₂, ◌∙◌}
use Rattle.plane.specs.Plane.{share_more_of}
use Rattle.crossing.proofs.laws.Pairs.{clash_next_lem}
use Rattle.boxes.proofs.clash_next.Goals as goal

pub returns : goal.returns
returns c = c.share_more.ensures ∙ ap₂ share_more_of c.edge.ensures c.edge-2.ensures ∙ clash_next_lem _ _ _ _ _ refl
