-- A stream without its refused lines: there always is one, and it is no longer than the stream.
use Rattle.std.specs.Prelude.{ℕ, ◌≤◌, ◌<◌, ◌≡◌, refl, Bool, true, false, List, [], ◌∷◌, ◌⊎◌, length}
use Rattle.std.proofs.Common.{arith, sym, ap, inl, inr}
use Rattle.whole.specs.All.{All, none, more}
use Rattle.lines.specs.Lines.{lines, joined}
use Rattle.lines.specs.laws.LineLaws.{NoFeed, lines-joined, lines_no_feed, length-joined, joined-short}
use Rattle.service.specs.Service.{State, nothing, step, accepts}
use Rattle.service.specs.Strike.{struck, Left}

-- what holds of every line holds of those that are left
all-struck : (P : List ℕ → Type 0) (st : State) (ls : List (List ℕ)) → All P ls → All P (struck st ls)
unfolding struck
all-struck P st [] none = none
all-struck P st (l ∷ ls) (more h hs) = go (accepts st l) (all-struck P (step st l).next ls hs)
  where
    go : (b : Bool) → All P (struck (step st l).next ls) → All P (elim b [ true ↦ l ∷ struck (step st l).next ls | false ↦ struck (step st l).next ls ])
    go true a = more h a
    go false a = a

struck_fewer : (st : State) (ls : List (List ℕ)) → length (struck st ls) ≤ length ls
unfolding struck
struck_fewer st [] = omega arith
struck_fewer st (l ∷ ls) = go (accepts st l) (struck_fewer (step st l).next ls)
  where
    go : (b : Bool) → length (struck (step st l).next ls) ≤ length ls → length {A = List ℕ} (elim b [ true ↦ l ∷ struck (step st l).next ls | false ↦ struck (step st l).next ls ]) ≤ length (l ∷ ls)
    go true h = omega arith
    go false h = omega arith

-- a line that is struck out takes its line feed with it
struck_shorter : (st : State) (ls : List (List ℕ)) → (struck st ls ≡ ls) ⊎ (length (joined (struck st ls)) < length (joined ls))
unfolding struck
struck_shorter st [] = inl refl
struck_shorter st (l ∷ ls) = go (accepts st l) (struck (step st l).next ls) (struck_shorter (step st l).next ls)
  where
    go : (b : Bool) (left : List (List ℕ)) → (left ≡ ls) ⊎ (length (joined left) < length (joined ls)) → (elim b [ true ↦ l ∷ left | false ↦ left ] ≡ l ∷ ls) ⊎ (length (joined (elim b [ true ↦ l ∷ left | false ↦ left ])) < length (joined (l ∷ ls)))
    go true left (inl e) = inl (ap (λ (k : List (List ℕ)). l ∷ k) e)
    go true left (inr h) = inr (omega (arith, length-joined l left, length-joined l ls))
    go false left (inl e) = inr (omega (arith, length-joined l ls, ap (λ (k : List (List ℕ)). length (joined k)) e))
    go false left (inr h) = inr (omega (arith, length-joined l ls))

pub left-of : (stream : List ℕ) → Left stream
left-of stream = go (struck_shorter nothing (lines stream))
  where
    whole : length (lines stream) ≤ length (lines stream)
    whole = omega arith

    go : (struck nothing (lines stream) ≡ lines stream) ⊎ (length (joined (struck nothing (lines stream))) < length (joined (lines stream))) → Left stream
    go (inl e) = record { left = stream; its_lines = sym e; no_longer = omega arith; no_more = whole }
    go (inr h) =
        let e : lines (joined (struck nothing (lines stream))) ≡ struck nothing (lines stream) = lines-joined (struck nothing (lines stream)) (all-struck NoFeed nothing (lines stream) (lines_no_feed stream)) in
        record {
          left = joined (struck nothing (lines stream));
          its_lines = e;
          no_longer = omega (arith, joined-short stream);
          no_more = omega (arith, ap length e, struck_fewer nothing (lines stream));
        }
