-- Four digits, and eight, as an array has them.
use Rattle.std.proofs.Common.{◌≡◌, ℕ, ◌≤◌, ◌∷◌, [], true, List, length, get_or, arith, ◌∙◌, take_all, refl}
use Rattle.std.specs.Int.{from_le_bytes, w32, w64}
use Rattle.hexadecimal.specs.Hex.{is_hex_of, all_hex_of}
use Rattle.hexadecimal.specs.laws.Digits.{all_hex_cons}
use Rattle.fields.specs.held.Fields.{Hex4}
use Rattle.fields.specs.laws.Lanes.{joined_4, joined_8, bytes-of_4, bytes-of_8, hex_of_4}

module _ (s : List ℕ) where
  pub list_4 : length s ≡ 4 → get_or s 0 0 ∷ get_or s 1 0 ∷ get_or s 2 0 ∷ get_or s 3 0 ∷ [] ≡ s
  list_4 n = bytes-of_4 s 0 (omega arith) ∙ take_all 4 s (omega arith)

  pub list_8 : length s ≡ 8
      → get_or s 0 0 ∷ get_or s 1 0 ∷ get_or s 2 0 ∷ get_or s 3 0 ∷ get_or s 4 0 ∷ get_or s 5 0 ∷ get_or s 6 0 ∷ get_or s 7 0 ∷ [] ≡ s
  list_8 n = bytes-of_8 s 0 (omega arith) ∙ take_all 8 s (omega arith)

  pub word_4 : {w : ℕ} → w ≡ from_le_bytes w32 s → w ≡ joined_4 (get_or s 0 0) (get_or s 1 0) (get_or s 2 0) (get_or s 3 0)
  word_4 e = omega arith

  pub word_8 : {w : ℕ} → w ≡ from_le_bytes w64 s
      → w ≡ joined_8 (get_or s 0 0) (get_or s 1 0) (get_or s 2 0) (get_or s 3 0) (get_or s 4 0) (get_or s 5 0) (get_or s 6 0) (get_or s 7 0)
  word_8 e = omega arith

  pub first_4 : 4 ≤ length s → all_hex_of s ≡ true → Hex4 (get_or s 0 0) (get_or s 1 0) (get_or s 2 0) (get_or s 3 0)
  first_4 n h = hex_of_4 s 0 1 2 3 h (omega arith) (omega arith) (omega arith) (omega arith)

  pub next_4 : 8 ≤ length s → all_hex_of s ≡ true → Hex4 (get_or s 4 0) (get_or s 5 0) (get_or s 6 0) (get_or s 7 0)
  next_4 n h = hex_of_4 s 4 5 6 7 h (omega arith) (omega arith) (omega arith) (omega arith)

hex_cons : (b : ℕ) (s : List ℕ) → is_hex_of b ≡ true → all_hex_of s ≡ true → all_hex_of (b ∷ s) ≡ true
hex_cons b s h i = all_hex_cons b s ∙ rw (h, i)

-- four digits before others
pub hex_4 : {a b c d : ℕ} (s : List ℕ) → Hex4 a b c d → all_hex_of s ≡ true → all_hex_of (a ∷ b ∷ c ∷ d ∷ s) ≡ true
hex_4 s h i = hex_cons _ _ h.first (hex_cons _ _ h.second (hex_cons _ _ h.third (hex_cons _ s h.fourth i)))

pub hex_none : all_hex_of [] ≡ true
unfolding all_hex_of
hex_none = refl
