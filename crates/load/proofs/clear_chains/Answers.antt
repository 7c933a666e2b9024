-- `load::clear_chains` meets its contract.
use mathlib.Core.Path.{sym, ap, ◌∙◌}
use Rattle.std.proofs.Common.{inl, inr}
use Rattle.modes.specs.declared.Mode.{Mode}
use Rattle.load.specs.held.Load.{unchained}
use Rattle.load.proofs.clear_chains.Goals as goal

pub returns-in-Nothing : goal.returns-in-Nothing
unfolding unchained
returns-in-Nothing c = ap (λ (m : Mode). unchained m c.args.table.now) (sym c.in-Nothing.is)

pub returns-in-Loading : goal.returns-in-Loading
unfolding unchained
returns-in-Loading c =
    c.clear.ensures
    ∙ elim c.in-Loading.is [ inl e ↦ ap (λ (m : Mode). unchained m c.args.table.now) (sym e) | inr e ↦ ap (λ (m : Mode). unchained m c.args.table.now) (sym e) ]
