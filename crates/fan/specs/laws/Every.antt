-- A test of every number below n, one number after another.
use Rattle.std.specs.Prelude.{ℕ, zero, suc, ◌+◌, ◌≤◌, ◌<◌, ◌≡◌, Bool, false, ◌&&◌}
use Rattle.std.proofs.Common.{arith, add-one, sym, ap, ◌∙◌}
use Rattle.std.proofs.Math.Decide.{dec_lt}
use Rattle.fan.specs.held.Fan.{every}

pub every-next : (t : ℕ → Bool) (n : ℕ) → (every t n && t n) ≡ every t (n + 1)
unfolding every
every-next t n = ap (every t) (sym (add-one n))

-- what fails of some fails of more
pub every_less : (t : ℕ → Bool) (i n : ℕ) → i ≤ n → every t i ≡ false → every t n ≡ false
unfolding every
every_less t i zero h e = let z : i ≡ 0 = omega arith in sym (ap (every t) z) ∙ e
every_less t i (suc n) h e = go (dec_lt n i) (λ l. every_less t i n l e)
  where
    go : Dec (n < i) → (i ≤ n → every t n ≡ false) → (every t n && t n) ≡ false
    go (yes p) f = let z : i ≡ suc n = omega arith in sym (ap (every t) z) ∙ e
    go (no p) f = ap (λ (b : Bool). b && t n) (f (omega arith))
