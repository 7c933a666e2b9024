-- `elements::shape_a` meets its contract, case by case.
use borrow.Author.Rules.{rules}
use Rattle.shell.specs.Shell.{shape_a_of}
use Rattle.elements.proofs.shape_a.Goals as goal

pub returns-in-Whole : goal.returns-in-Whole
unfolding shape_a_of
returns-in-Whole c = search rules

pub returns-in-Few : goal.returns-in-Few
unfolding shape_a_of
returns-in-Few c = search rules

pub returns-in-Once : goal.returns-in-Once
unfolding shape_a_of
returns-in-Once c = search rules

pub returns-in-Often : goal.returns-in-Often
unfolding shape_a_of
returns-in-Often c = search rules

pub returns-in-Alike : goal.returns-in-Alike
unfolding shape_a_of
returns-in-Alike c = search rules

pub returns-in-Apart : goal.returns-in-Apart
unfolding shape_a_of
returns-in-Apart c = search rules

pub returns-in-Unlinked : goal.returns-in-Unlinked
unfolding shape_a_of
returns-in-Unlinked c = search rules
