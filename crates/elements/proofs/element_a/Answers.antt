-- `elements::element_a` meets its contract, case by case.
use mathlib.Core.Path.{sym, ap, ◌∙◌}
use borrow.Author.Rules.{rules}
use Rattle.building.specs.Report.{element_a_of}
use Rattle.elements.proofs.element_a.Goals as goal

pub returns-in-Accepted : goal.returns-in-Accepted
unfolding element_a_of
returns-in-Accepted c = search rules

pub returns-in-Faulty : goal.returns-in-Faulty
unfolding element_a_of
returns-in-Faulty c = search rules

pub returns-in-Unsound : goal.returns-in-Unsound
unfolding element_a_of
returns-in-Unsound c = c.shape_a.ensures ∙ sym (ap element_a_of c.in-Unsound.is)

pub returns-in-Inward : goal.returns-in-Inward
unfolding element_a_of
returns-in-Inward c = search rules
