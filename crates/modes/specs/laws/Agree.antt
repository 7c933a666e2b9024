-- For each public function: any two results that its statement allows are one.
use Rattle.std.specs.Prelude.{◌≡◌, Bool}
use Rattle.whole.specs.laws.Agree.{agree}
use Rattle.modes.specs.declared.Mode.{Mode}
use Rattle.modes.specs.held.Mode.{loads, holds}

pub is_loading_agrees : (m : Mode) (b₁ b₂ : Bool) → b₁ ≡ loads m → b₂ ≡ loads m → b₁ ≡ b₂
is_loading_agrees m b₁ b₂ = agree

pub is_holding_agrees : (m : Mode) (b₁ b₂ : Bool) → b₁ ≡ holds m → b₂ ≡ holds m → b₁ ≡ b₂
is_holding_agrees m b₁ b₂ = agree
