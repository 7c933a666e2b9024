-- `turns::turn_ring` meets its contract: finding and part are asked of the ring as it stands turned.
use Rattle.std.proofs.Common.{◌≡◌, ◌+◌, ◌-◌, ℕ, List, reverse, get_or, set, sym, ap, ◌∙◌, arith}
use Rattle.std.proofs.lemmas.List.{length-reverse}
use Rattle.polygon.specs.Ring.{finding}
use Rattle.volume.specs.Part.{part}
use Rattle.space.specs.held.Points.{points_of}
use Rattle.polygon.specs.held.Findings.{kept_finding}
use Rattle.ring.specs.held.Rings.{ring_at}
use Rattle.building.specs.laws.Rings.{ring_length}
use Rattle.turns.specs.laws.Reversing.{put_mid-sets}
use Rattle.turns.specs.laws.Turned.{own-turned, own_ring, own_back}
use borrow.Rule.Slice.PartMut.{put_mid}
use Rattle.turns.specs.held.Rings.{turned_entries}
use Rattle.turns.proofs.turn_ring.Goals as goal
use Rattle.turns.proofs.turn_ring.Goals.{After-reverse}

-- the entries after the ring is reversed in its place
entries : (c : After-reverse) → let l = c.args.rings.now in put_mid c.from-from.result (c.from-to.result - c.from-from.result) l.entries c.reverse.new.self ≡ turned_entries l.entries l.starts c.args.p
entries c = let l = c.args.rings.now in
    let r = c.requires.ring in
    let f = c.from-from.ensures in
    let t = c.from-to.ensures in
    rw (f, t)
    (put_mid-sets l.entries c.reverse.new.self (reverse (ring_at l.entries l.starts c.args.p)) (get_or l.starts c.args.p 0) (get_or l.starts (c.args.p + 1) 0 - get_or l.starts c.args.p 0)
    (rw (f, t) at c.reverse.ensures.after)
    (sym (length-reverse (ring_at l.entries l.starts c.args.p) ∙ ring_length l.entries l.starts c.args.p r.entries-size r.inside))
    (omega (arith, r.entries-size, r.inside, r.forward)))

pub renew_finding-requires : goal.renew_finding-requires
renew_finding-requires c = let g = c.args in
    let e = entries ((goal.at.renew_finding-requires c).After-reverse) in
    let r = c.requires.ring in
    record { ring = own_ring r e; tolerance_bound = c.requires.tolerance_bound; finding_was = c.requires.finding_was ∙ ap (λ (l : List ℕ). kept_finding (finding g.tolerance (points_of g.points.now.flat) l)) (own_back r e); p_bound = c.requires.p_bound }

pub renew_part-requires : goal.renew_part-requires
renew_part-requires c = let e = entries ((goal.at.renew_part-requires c).After-reverse) in
    let r = c.requires.ring in
    record { ring = own_ring r e; part_was = c.requires.part_was ∙ ap (part (points_of c.args.points.now.flat)) (own_back r e); p_bound = c.requires.p_bound }

pub returns-clause-entries_after : goal.returns-clause-entries_after
returns-clause-entries_after c = entries ((goal.at.returns-clause-entries_after c).After-reverse)

pub returns-clause-findings_after : goal.returns-clause-findings_after
returns-clause-findings_after c = let g = c.args in
    c.renew_finding.ensures ∙ ap (λ (l : List ℕ). set g.findings.now g.p (kept_finding (finding g.tolerance (points_of g.points.now.flat) l))) (own-turned c.requires.ring (entries ((goal.at.returns-clause-findings_after c).After-reverse)))

pub returns-clause-parts_after : goal.returns-clause-parts_after
returns-clause-parts_after c = let g = c.args in
    c.renew_part.ensures ∙ ap (λ (l : List ℕ). set g.parts.now g.p (part (points_of g.points.now.flat) l)) (own-turned c.requires.ring (entries ((goal.at.returns-clause-parts_after c).After-reverse)))
