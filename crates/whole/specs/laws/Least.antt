-- The least number with a property is one, and is the least with another that the same numbers have.
use Rattle.std.specs.Prelude.{ℕ, ◌<◌, ◌≡◌}
use Rattle.std.proofs.Common.{arith}
use Rattle.std.proofs.Math.Decide.{dec_lt}
use Rattle.whole.specs.Least.{Least, LeastBelow}

module _ {P Q : ℕ → Type 0} (f : (v : ℕ) → P v → Q v) (g : (v : ℕ) → Q v → P v) where
  pub least_as : {x : ℕ} → Least P x → Least Q x
  least_as {x} l = record { holds = f x l.holds; first = λ j q. l.first j (g j q) }

  pub below_as : {n r : ℕ} → LeastBelow P n r → LeastBelow Q n r
  below_as l = record { within = l.within; found = λ h. least_as (l.found h); missing = λ h j q. l.missing h j (g j q) }

module _ {P : ℕ → Type 0} where
  -- two that are the least below a bound are one
  pub below_one : {n r s : ℕ} → LeastBelow P n r → LeastBelow P n s → r ≡ s
  below_one {n} {r} {s} a b = go (dec_lt r n) (dec_lt s n)
    where
      go : Dec (r < n) → Dec (s < n) → r ≡ s
      go (yes p) (yes q) = omega (arith, (a.found p).first s (b.found q).holds, (b.found q).first r (a.found p).holds)
      go (yes p) (no q) = absurd (b.missing (omega arith) r (a.found p).holds)
      go (no p) (yes q) = absurd (a.missing (omega arith) s (b.found q).holds)
      go (no p) (no q) = omega (arith, a.within, b.within)
