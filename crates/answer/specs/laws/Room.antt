-- Answers written into lent room.
use Rattle.std.specs.Prelude.{ℕ, zero, suc, ◌+◌, ◌-◌, ◌/◌, ◌%◌, ◌<◌, ◌≡◌}
use Rattle.std.proofs.Common.{arith, add-zero, sym, ◌∙◌, length-append}
use Rattle.std.proofs.Math.Path.{ap}
use mathlib.Core.List.{List, [], ◌∷◌, ◌++◌}
use Rattle.std.proofs.Math.ListN.{length, set}
use Rattle.std.proofs.lemmas.List.Edits.{sets}
use Rattle.std.proofs.lemmas.List.{set_comm}
use Rattle.whole.specs.laws.Stores.{sets_append}
use Rattle.hexadecimal.specs.Hex.{digit, digits}
use Rattle.hexadecimal.specs.laws.Back.{length_digits}
use Rattle.lines.specs.Lines.{ended}
use Rattle.answer.specs.held.Wrote.{Wrote}

module _ {A : Type 0} where
  -- the last of a run of stores may be made first
  pub sets-snoc : (xs l : List A) (a : ℕ) (d : A) → sets l a (xs ++ (d ∷ [])) ≡ sets (set l (a + length xs) d) a xs
  sets-snoc [] l a d = rw add-zero
  sets-snoc (x ∷ xs) l a d =
      sets-snoc xs (set l a x) (suc a) d
      ∙ ap (λ (m : List A). sets m (suc a) xs)
      (set_comm l a (suc a + length xs) x d (λ e. omega arith)
      ∙ ap (λ (n : ℕ). set (set l n d) a x) (omega arith))

-- a turn of the loop that writes digits, the last first
pub put_turn : (room : List ℕ) (at i w : ℕ) → 0 < i
    → sets (set room (at + (i - 1)) (digit (w % 16))) at (digits (i - 1) (w / 16)) ≡ sets room at (digits i w)
unfolding digits
put_turn room at zero w h = absurd (omega arith)
put_turn room at (suc i) w h =
    let e : suc i - 1 ≡ i = omega arith in
    let l : length (digits i (w / 16)) ≡ i = length_digits i (w / 16) in
    rw e (sym (ap (λ (n : ℕ). sets (set room (at + n) (digit (w % 16))) at (digits i (w / 16))) l) ∙ sym (sets-snoc (digits i (w / 16)) room at (digit (w % 16))))

-- ---- an answer field by field

-- the first n bytes of an answer stand in the room from an offset
pub record Put (l room : List ℕ) (at : ℕ) (room' : List ℕ) (n : ℕ) : Type 0 where
  pub bytes : room' ≡ sets room at l
  pub count : length l ≡ n

module _ {room room₁ : List ℕ} {at : ℕ} where
  pub put_first : (k v : ℕ) → room₁ ≡ sets room at (digits k v) → Put (digits k v) room at room₁ k
  put_first k v e = record { bytes = e; count = length_digits k v }

  pub put_then : {room₂ l : List ℕ} {n : ℕ} (k v : ℕ) → Put l room at room₁ n → room₂ ≡ sets room₁ (at + n) (digits k v) → Put (l ++ digits k v) room at room₂ (n + k)
  put_then {room₂} {l} {n} k v p e =
      let c : length l ≡ n = p.count in
      let d : length (digits k v) ≡ k = length_digits k v in
      record {
        bytes = e ∙ ap (λ (s : List ℕ). sets s (at + n) (digits k v)) p.bytes ∙ ap (λ (m : ℕ). sets (sets room at l) (at + m) (digits k v)) (sym c) ∙ sets_append l (digits k v) room at;
        count = length-append l (digits k v) ∙ omega arith;
      }

  pub put_end : {l : List ℕ} {n r : ℕ} → Put l room at room₁ n → r ≡ at + (n + 1) → Wrote (ended l) room at (set room₁ (at + n) 10) r
  unfolding ended
  put_end {l} {n} {r} p e =
      let c : length l ≡ n = p.count in
      record {
        bytes = ap (λ (s : List ℕ). set s (at + n) 10) p.bytes ∙ ap (λ (m : ℕ). set (sets room at l) (at + m) 10) (sym c) ∙ sets_append l (10 ∷ []) room at;
        past = e ∙ ap (λ (m : ℕ). at + m) (sym (length-append l (10 ∷ []) ∙ omega arith));
      }
