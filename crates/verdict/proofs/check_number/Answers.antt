-- `verdict::check_number` meets its contract, case by case.
use mathlib.Core.Path.{sym, ap, ◌∙◌}
use borrow.Author.Rules.{rules}
use Rattle.building.specs.Report.{check_number_of}
use Rattle.verdict.proofs.check_number.Goals as goal

pub returns-in-Accepted : goal.returns-in-Accepted
unfolding check_number_of
returns-in-Accepted c = search rules

pub returns-in-Faulty : goal.returns-in-Faulty
unfolding check_number_of
returns-in-Faulty c = c.finding_number.ensures ∙ sym (ap check_number_of c.in-Faulty.is)

pub returns-in-Unsound : goal.returns-in-Unsound
unfolding check_number_of
returns-in-Unsound c = c.shape_number.ensures ∙ sym (ap check_number_of c.in-Unsound.is)

pub returns-in-Inward : goal.returns-in-Inward
unfolding check_number_of
returns-in-Inward c = search rules
