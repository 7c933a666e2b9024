-- Why the code refuses end of load.
use Rattle.std.specs.Prelude.{◌≡◌, true, false, Ok, Err}
use Rattle.std.proofs.Math.Path.{refl}
use Rattle.std.proofs.Common.{ap, ◌∙◌}
use Rattle.frame.specs.Frame.{end_of_load}
use Rattle.service.specs.declared.Refusal.TheVariants.{Misplaced}
use Rattle.service.specs.Service.{State, is_malformed, is_misplaced_of, refusal}
use Rattle.service.proofs.laws.Handlers.{of_end}
use Rattle.desk.specs.declared.Desk.{Desk}
use Rattle.modes.specs.held.Mode.{loads}
use Rattle.desk.specs.laws.Rows.{tables, service-loads, not_loading}
use Rattle.ended.specs.held.Ended.{EndRow}

module _ (d : Desk) where
  pub end_misplaced : loads d.mode ≡ false → EndRow d (Err Misplaced)
  unfolding is_malformed is_misplaced_of
  end_misplaced e = not_loading refl (λ st. refl) e

  pub end_accepted : loads d.mode ≡ true → EndRow d (Ok tt)
  end_accepted l = record { is = λ a s v. ap (λ (st : State). refusal st end_of_load) (service-loads a d l) ∙ of_end (tables a d); fit = tt }
