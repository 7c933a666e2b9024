-- How large a whole number may be: the bounds that contracts of code on whole numbers name.
use Rattle.std.specs.Prelude.{ℕ, ◌≤◌, ℤ, nat_abs}

-- z is at most n in size. A record, so that both are inferred from a hypothesis; omega reads its field
pub record Small (n : ℕ) (z : ℤ) : Type 0 where
  pub small : nat_abs z ≤ n
