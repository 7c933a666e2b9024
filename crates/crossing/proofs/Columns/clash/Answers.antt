-- `crossing::Columns::clash` meets its contract. Which pairs are neighbours is told by their numbers.
use Rattle.std.proofs.Common.{◌∙◌, ap₂}
use Rattle.plane.specs.Plane.{share, share_more_of}
use Rattle.crossing.proofs.laws.Pairs.{clash_next_lem, clash-last, clash-other}
use Rattle.crossing.proofs.Columns.clash.Goals as goal

pub returns-then-i-j : goal.returns-then-i-j
returns-then-i-j c = c.share_more.ensures ∙ ap₂ share_more_of c.edge-e.ensures c.edge-f.ensures ∙ clash_next_lem _ _ _ _ _ c.if-i-j.true

pub returns-then-i-j-2 : goal.returns-then-i-j-2
returns-then-i-j-2 c =
    c.share_more-then-i-j-2.ensures ∙ ap₂ share_more_of c.edge-f.ensures c.edge-e.ensures
    ∙ clash-last _ _ _ _ _ c.requires.0 c.if-i-j.false c.if-i-j-2.true

pub returns : goal.returns
returns c = c.share.ensures ∙ ap₂ share c.edge-e.ensures c.edge-f.ensures ∙ clash-other _ _ _ _ _ c.requires.0 c.if-i-j.false c.if-i-j-2.false
