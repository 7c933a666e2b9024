-- `report::verdict_of` meets its contract: each answer is the first row given, what is kept telling each row.
use Rattle.std.proofs.Common.{◌≡◌, ◌<◌, ltb, take, sym, ◌∙◌, arith, to_z-of_z}
use Rattle.whole.specs.Lists.{tally}
use Rattle.totals.specs.held.Scans.{lowest}
use Rattle.report.specs.laws.Told.{lowest_met, none_met, told-low, told-faulty, says-unsound, says-inward, says-accepted}
use Rattle.report.proofs.verdict_of.Goals as goal
use Rattle.report.proofs.verdict_of.Goals.{In-Some, Joined-faults-ne0, then-faults-ne0+in_default, else-faults-ne0}

low_is : (c : In-Some) → c.in-Some.low ≡ lowest (take c.args.s.polygons c.args.arrays.now.findings)
low_is c = lowest_met c.args.arrays.now.findings c.args.s.polygons c.in-Some.low (omega (arith, c.requires.loaded.layout.few)) c.in-Some.ensures.0 c.in-Some.ensures.1.0 c.in-Some.ensures.1.1

-- where the search is made and meets none, there is none: that is against the count
none_faulty : (c : Joined-faults-ne0) → tally (ltb 0) (take c.args.s.polygons c.args.arrays.now.findings) ≡ 0
none_faulty c = let ld = c.requires.loaded in
    let f = c.requires.faults_value.0 in
    sym f ∙ (elim c.if-faults-ne0.branch [
      | then-faults-ne0+in_default w ↦ (let h : c.args.s.polygons < c.args.s.polygons = told-low ld c.requires.kept (sym (none_met c.args.arrays.now.findings c.args.s.polygons (omega (arith, ld.layout.few)) w.in_default.ensures)) f w.if-faults-ne0.true in absurd (omega arith))
      | else-faults-ne0 w ↦ w.if-faults-ne0.false
    ])

pub returns-in-Some : goal.returns-in-Some
returns-in-Some c = let p = (goal.at.returns-in-Some c).In-Some in
    told-faulty c.requires.loaded c.requires.kept.found (low_is p) c.in-Some.ensures.0 _ c.finding_from.ensures

pub returns-then-shape_number-ne0 : goal.returns-then-shape_number-ne0
returns-then-shape_number-ne0 c = says-unsound c.requires.loaded c.requires.kept (none_faulty ((goal.at.returns-then-shape_number-ne0 c).Joined-faults-ne0)) c.shape_number.ensures c.if-shape_number-ne0.true

pub returns-then-volume-le0 : goal.returns-then-volume-le0
returns-then-volume-le0 c = says-inward c.requires.loaded c.requires.kept (none_faulty ((goal.at.returns-then-volume-le0 c).Joined-faults-ne0)) c.shape_number.ensures c.if-shape_number-ne0.false (to_z-of_z c.ranges.volume ∙ c.requires.faults_value.1) c.if-volume-le0.true

pub returns : goal.returns
returns c = says-accepted c.requires.loaded c.requires.kept (none_faulty ((goal.at.returns c).Joined-faults-ne0)) c.shape_number.ensures c.if-shape_number-ne0.false (to_z-of_z c.ranges.volume ∙ c.requires.faults_value.1) c.if-volume-le0.false
