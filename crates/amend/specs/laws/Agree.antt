-- For the public function: any two results that its statement allows agree in the whole room, the place of the next answer, and what is held.
use Rattle.std.specs.Prelude.{ℕ, List, ℤ}
use Rattle.frame.specs.Frame.{move}
use Rattle.building.specs.declared.Arrays.{Arrays}
use Rattle.desk.specs.declared.Desk.{Desk}
use Rattle.desk.specs.held.Holds.{service, Did, does}
use Rattle.desk.specs.laws.Agree.{Same, did_agree}

module _ (a : Arrays) (d : Desk) (room room₁ room₂ : List ℕ) (a₁ a₂ : Arrays) (d₁ d₂ : Desk) where
  pub move_point_agrees : (number p : ℕ) (x y z : ℤ) → Did (does (service a d) (move number p x y z)) room d.at a₁ room₁ d₁ → Did (does (service a d) (move number p x y z)) room d.at a₂ room₂ d₂ → Same room₁ room₂ a₁ a₂ d₁ d₂
  move_point_agrees number p x y z = did_agree
