-- `even::first_uneven_closed` meets its contract. Of four corners the second tells of all; otherwise each is looked at.
use native.Mathlib.Omega.{arith}
use mathlib.Core.Path.{◌≡◌, sym, ◌∙◌}
use lib.ListN.{length}
use borrow.Author.Tests.{leb-true}
use Rattle.space.specs.held.Points.{as_point}
use Rattle.space.specs.laws.Sizes.{near_same}
use Rattle.normal.specs.laws.Sizes.{normal-near}
use Rattle.even.proofs.laws.Distance.{settled}
use Rattle.even.proofs.Ways.{bent_none}
use Rattle.even.proofs.first_uneven_closed.Goals as goal

pub is_near-requires : goal.is_near-requires
is_near-requires c = record { first_bound = (c.requires.known.each 0 (omega arith), c.requires.known.each _ (omega arith), c.requires.in_bounds.2); near = near_same c.requires.n_value (normal-near c.args.points.now.coords c.requires.known) }

pub returns-then-is_near-clause-first : goal.returns-then-is_near-clause-first
returns-then-is_near-clause-first c = let five : length c.args.ring.now ≡ 5 = omega arith in
    five ∙ bent_none c.args.tolerance c.args.points.now.coords c.requires.known (omega arith) c.requires.in_bounds.1 c.requires.n_value
    (settled c.args.tolerance (as_point c.args.n) _ (leb-true _ _ (sym c.is_near.ensures ∙ c.if-is_near.true)))

pub first_uneven-requires : goal.first_uneven-requires
first_uneven-requires c = record { listed = record { each = c.requires.known.each }; in_bounds = (c.requires.in_bounds.0, c.requires.in_bounds.2); near = near_same c.requires.n_value (normal-near c.args.points.now.coords c.requires.known) }
