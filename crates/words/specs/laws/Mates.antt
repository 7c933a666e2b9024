-- The two words of a pair.
use Rattle.std.specs.Prelude.{ℕ, ◌+◌, ◌%◌, ◌<◌, ◌≡◌, refl}
use Rattle.std.proofs.Math.Decide.{ℕ_discrete, dec_lt}
use Rattle.std.proofs.Common.{arith, sym, ◌∙◌}
use Rattle.std.proofs.Math.Logic.{by_cases}
use Rattle.words.specs.held.Words.{Mate}

-- the words of a pair are each other's
pub mate-up : (n i : ℕ) → i % 2 ≡ 0 → i + 1 < n → Mate n i (i + 1)
mate-up n i e h = record { within = h; up = λ _ _. refl; down = λ z. absurd (omega arith); none = λ _ z. absurd (omega arith) }

pub mate-down : (n i : ℕ) → i % 2 ≡ 0 → i + 1 < n → Mate n (i + 1) i
mate-down n i e h = record { within = omega arith; up = λ z. absurd (omega arith); down = λ _. refl; none = λ z. absurd (omega arith) }

-- and a word has one other
pub mate_one : (n i k k' : ℕ) → Mate n i k → Mate n i k' → k ≡ k'
mate_one n i k k' a b = by_cases (ℕ_discrete (i % 2) 0) (λ e. by_cases (dec_lt (i + 1) n) (λ lt. a.up e lt ∙ sym (b.up e lt)) (λ ge. a.none e (omega arith) ∙ sym (b.none e (omega arith)))) (λ d. omega (arith, a.down (odd d), b.down (odd d)))
  where
    odd : (i % 2 ≡ 0 → ⊥) → i % 2 ≡ 1
    odd d = omega arith
