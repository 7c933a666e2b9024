-- `turns::renew_finding` meets its contract. Without a position the finding is what it was; with one its number is, and the code for its check tells where.
use Rattle.std.proofs.Common.{◌≡◌, ◌≤◌, ◌%◌, ℕ, List, true, get_or, set, sym, ap, ◌∙◌, arith}
use Rattle.std.proofs.lemmas.List.{set-get_or}
use Rattle.space.specs.held.Points.{points_of}
use Rattle.polygon.specs.Ring.{finding, finding_number_of, finding_position_of}
use Rattle.polygon.specs.held.Position.{has_position_of}
use Rattle.polygon.specs.laws.Position.{position_few}
use Rattle.ring.specs.held.Rings.{ring_at}
use Rattle.turns.specs.laws.Turned.{turned-number, turned-placed, turned_kept, turned_found_at}
use Rattle.turns.proofs.renew_finding.Goals as goal
use Rattle.turns.proofs.renew_finding.Goals.{After-position_of-at, Else-not-has_position, Start}

abbrev turned : Start → List ℕ
turned c = ring_at c.args.rings.now.entries c.args.rings.now.starts c.args.p

number : (c : Start) → get_or c.args.findings.now c.args.p 0 % 16 ≡ finding_number_of (finding c.args.tolerance (points_of c.args.points.now.flat) (turned c))
number c = turned-number c.args.tolerance (points_of c.args.points.now.flat) (turned c) c.requires.finding_was

placed : (c : Else-not-has_position) → has_position_of (finding c.args.tolerance (points_of c.args.points.now.flat) (ring_at c.args.rings.now.entries c.args.rings.now.starts c.args.p)) ≡ true
placed c = sym (turned-placed c.args.tolerance (points_of c.args.points.now.flat) _ c.requires.finding_was) ∙ sym c.has_position.ensures ∙ c.if-not-has_position.false

place : (c : After-position_of-at) → c.position_of-at.result ≡ finding_position_of (finding c.args.tolerance (points_of c.args.points.now.flat) (ring_at c.args.rings.now.entries c.args.rings.now.starts c.args.p))
place c = c.position_of-at.ensures ∙ ap (λ (l : List ℕ). finding_position_of (finding c.args.tolerance (points_of c.args.points.now.flat) l)) c.ring-ring.ensures

few : (c : After-position_of-at) → c.position_of-at.result ≤ 128
few c = omega (arith, place c, position_few c.args.tolerance (points_of c.args.points.now.flat) (ring_at c.args.rings.now.entries c.args.rings.now.starts c.args.p), c.requires.ring.known.few)

pub returns-then-not-has_position : goal.returns-then-not-has_position
returns-then-not-has_position c = let a = c.args in
    sym (ap (set a.findings.now a.p) (sym (turned_kept a.tolerance (points_of a.points.now.flat) _ c.requires.finding_was (sym c.has_position.ensures ∙ c.if-not-has_position.true))) ∙ set-get_or a.findings.now a.p 0)

pub position_of-at-requires : goal.position_of-at-requires
position_of-at-requires c = let e = c.ring-ring.ensures in
    record {
      known = rw e c.requires.ring.known;
      tolerance_bound = c.requires.tolerance_bound;
      number_value = rw e (number ((goal.at.position_of-at-requires c).Start), placed ((goal.at.position_of-at-requires c).Else-not-has_position));
    }

pub kept_at-requires : goal.kept_at-requires
kept_at-requires c = let h = few c in (omega arith, omega (arith, h))

pub returns : goal.returns
returns c = let a = c.args in
    ap (set a.findings.now a.p) (c.kept_at.ensures ∙ turned_found_at a.tolerance (points_of a.points.now.flat) _ c.requires.finding_was (place ((goal.at.returns c).After-position_of-at)))
