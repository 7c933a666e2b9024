-- The two words of a pair join what they stand for.
use Rattle.std.specs.Prelude.{ℕ, ◌+◌, ◌%◌, ◌<◌, ◌≡◌, refl, ◌⊎◌, List, length, get_or}
use Rattle.std.proofs.Math.Decide.{ℕ_discrete, dec_lt}
use Rattle.std.proofs.Common.{arith, sym, ap, inl, inr}
use Rattle.std.proofs.Math.Logic.{by_cases}
use Rattle.reach.specs.held.Marking.{Joined}
use Rattle.words.specs.held.Words.{Mate}

module _ (l : List ℕ) where
  -- a word and the other of its pair are joined, or one
  pub mate-joined : (g : ℕ → ℕ) (i k : ℕ) → i < length l → Mate (length l) i k → (i ≡ k) ⊎ Joined l g (g (get_or l i 0)) (g (get_or l k 0))
  mate-joined g i k h m = by_cases (ℕ_discrete (i % 2) 0) (λ e. by_cases (dec_lt (i + 1) (length l)) (λ lt. inr (record { at = i; even = e; within = lt; ends = inl (refl, ap (λ (x : ℕ). g (get_or l x 0)) (sym (m.up e lt))) })) (λ ge. inl (sym (m.none e (omega arith))))) (λ n. inr (odd (m.down (omega arith)) n))
    where
      odd : k + 1 ≡ i → (i % 2 ≡ 0 → ⊥) → Joined l g (g (get_or l i 0)) (g (get_or l k 0))
      odd e n = record { at = k; even = omega arith; within = omega arith; ends = inr (ap (λ (x : ℕ). g (get_or l x 0)) e, refl) }
