-- `elements::element_b` meets its contract, case by case.
use mathlib.Core.Path.{sym, ap, ◌∙◌}
use borrow.Author.Rules.{rules}
use Rattle.building.specs.Report.{element_b_of}
use Rattle.elements.proofs.element_b.Goals as goal

pub returns-in-Accepted : goal.returns-in-Accepted
unfolding element_b_of
returns-in-Accepted c = search rules

pub returns-in-Faulty : goal.returns-in-Faulty
unfolding element_b_of
returns-in-Faulty c = c.finding_position.ensures ∙ sym (ap element_b_of c.in-Faulty.is)

pub returns-in-Unsound : goal.returns-in-Unsound
unfolding element_b_of
returns-in-Unsound c = c.shape_b.ensures ∙ sym (ap element_b_of c.in-Unsound.is)

pub returns-in-Inward : goal.returns-in-Inward
unfolding element_b_of
returns-in-Inward c = search rules
