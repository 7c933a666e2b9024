-- For each public function: any two results that its statement allows are one.
use Rattle.std.specs.Prelude.{ℕ, ◌≡◌, Bool, List, take, ℤ}
use Rattle.whole.specs.laws.Agree.{agree}
use Rattle.whole.specs.held.Stored.{zeroed}
use Rattle.space.specs.Space.{Point}
use Rattle.space.specs.held.Points.{points_of}
use Rattle.places.specs.Points.{stands_else_of}
use Rattle.taken.specs.held.Chains.{linked}

-- stands_else, of any count and number; is_taken, where both are n
pub stands_else_agrees : (flat : List ℤ) (count n : ℕ) (p : Point) (r₁ r₂ : Bool) → r₁ ≡ stands_else_of n p (take count (points_of flat)) → r₂ ≡ stands_else_of n p (take count (points_of flat)) → r₁ ≡ r₂
stands_else_agrees flat count n p r₁ r₂ = agree

pub is_taken_agrees : (flat : List ℤ) (n : ℕ) (p : Point) (r₁ r₂ : Bool) → r₁ ≡ stands_else_of n p (take n (points_of flat)) → r₂ ≡ stands_else_of n p (take n (points_of flat)) → r₁ ≡ r₂
is_taken_agrees flat n = stands_else_agrees flat n n

pub clear_agrees : (table table₁ table₂ : List ℕ) → table₁ ≡ zeroed table 512 → table₂ ≡ zeroed table 512 → table₁ ≡ table₂
clear_agrees table table₁ table₂ = agree

pub link_agrees : (table : List ℕ) (n : ℕ) (p : Point) (table₁ table₂ : List ℕ) → table₁ ≡ linked table n p → table₂ ≡ linked table n p → table₁ ≡ table₂
link_agrees table n p table₁ table₂ = agree
