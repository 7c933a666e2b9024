-- A stream without its refused lines, and the answers to the others.
use Rattle.std.specs.Prelude.{ℕ, ◌≤◌, true, false, List, [], ◌∷◌, ◌≡◌, length}
use Rattle.lines.specs.Lines.{lines}
use Rattle.service.specs.Service.{State, step, accepts, nothing}

-- the lines without those that are refused
unfoldable pub struck : State → List (List ℕ) → List (List ℕ)
struck st [] = []
struck st (l ∷ ls) = elim (accepts st l) [ true ↦ l ∷ struck (step st l).next ls | false ↦ struck (step st l).next ls ]

-- the answer to each line that is accepted
unfoldable pub accepted_answers : State → List (List ℕ) → List (List ℕ)
accepted_answers st [] = []
accepted_answers st (l ∷ ls) = elim (accepts st l) [ true ↦ (step st l).answer ∷ accepted_answers (step st l).next ls | false ↦ accepted_answers (step st l).next ls ]

-- the stream that is left
pub record Left (stream : List ℕ) : Type 0 where
  pub left : List ℕ
  pub its_lines : lines left ≡ struck nothing (lines stream)
  pub no_longer : length left ≤ length stream
  pub no_more : length (lines left) ≤ length (lines stream)
