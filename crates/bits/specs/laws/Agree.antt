-- For each public function: any two results that its statement allows are one.
use Rattle.std.specs.Prelude.{ℕ, zero, suc, ◌*◌, ◌/◌, ◌%◌, ◌^◌, ◌<◌, List, [], ◌∷◌, ◌++◌, ◌≡◌, refl, Bool, eqb, length, get_or, set, take, drop}
use Rattle.std.proofs.Common.{pow-suc, arith, sym, ap, ap₂, ◌∙◌, subst}
use Rattle.std.proofs.Math.Seq.{take-append_seam, drop-append_seam}
use Rattle.whole.specs.laws.Agree.{agree}
use Rattle.bits.specs.Lowest.{lowest_bare_of}
use Rattle.bits.specs.held.Bits.{bits_of, spread, marks_of, sum_of}
use Rattle.bits.specs.laws.Word.{length-bits}

pub is_set_agrees : (word k : ℕ) (r₁ r₂ : Bool) → r₁ ≡ eqb (get_or (bits_of 64 word) k 0) 1 → r₂ ≡ eqb (get_or (bits_of 64 word) k 0) 1 → r₁ ≡ r₂
is_set_agrees word k r₁ r₂ = agree

-- two words with the same n bits are one
same_bits : (n a b : ℕ) → a < 2 ^ n → b < 2 ^ n → bits_of n a ≡ bits_of n b → a ≡ b
unfolding bits_of
same_bits zero a b h g e = omega arith
same_bits (suc n) a b h g e =
    let low : a % 2 ≡ b % 2 = cc in
    let rest : bits_of n (a / 2) ≡ bits_of n (b / 2) = cc in
    let half : a / 2 ≡ b / 2 = same_bits n (a / 2) (b / 2) (below a h) (below b g) rest in
    omega arith
  where
    below : (x : ℕ) → x < 2 ^ suc n → x / 2 < 2 ^ n
    below x l = let m : x < 2 ^ n * 2 = subst (λ (t : ℕ). x < t) (pow-suc 2 n) l in omega arith

pub with_set_agrees : (word k r₁ r₂ : ℕ) → r₁ < 2 ^ 64 → r₂ < 2 ^ 64 → bits_of 64 r₁ ≡ set (bits_of 64 word) k 1 → bits_of 64 r₂ ≡ set (bits_of 64 word) k 1 → r₁ ≡ r₂
with_set_agrees word k r₁ r₂ h g e f = same_bits 64 r₁ r₂ h g (e ∙ sym f)

pub is_marked_agrees : (words : List ℕ) (p : ℕ) (r₁ r₂ : Bool) → r₁ ≡ eqb (get_or (marks_of words) p 0) 1 → r₂ ≡ eqb (get_or (marks_of words) p 0) 1 → r₁ ≡ r₂
is_marked_agrees words p r₁ r₂ = agree

-- as many words with the same marks are one
same-words : (n : ℕ) (a b : List ℕ) → ((i : ℕ) → get_or a i 0 < 2 ^ n) → ((i : ℕ) → get_or b i 0 < 2 ^ n) → length a ≡ length b → spread n a ≡ spread n b → a ≡ b
unfolding spread
same-words n [] [] h g l e = refl
same-words n [] (y ∷ b) h g l e = absurd (omega arith)
same-words n (x ∷ a) [] h g l e = absurd (omega arith)
same-words n (x ∷ a) (y ∷ b) h g l e = ap₂ (λ (z : ℕ) (m : List ℕ). z ∷ m) (same_bits n x y (h 0) (g 0) head) (same-words n a b (λ i. h (suc i)) (λ i. g (suc i)) (omega arith) rest)
  where
    long : length (bits_of n x) ≡ length (bits_of n y)
    long = length-bits n x ∙ sym (length-bits n y)

    head : bits_of n x ≡ bits_of n y
    head =
        sym (take-append_seam (bits_of n x) (spread n a))
        ∙ ap (take (length (bits_of n x))) e
        ∙ ap (λ (k : ℕ). take k (bits_of n y ++ spread n b)) long
        ∙ take-append_seam (bits_of n y) (spread n b)

    rest : spread n a ≡ spread n b
    rest =
        sym (drop-append_seam (bits_of n x) (spread n a))
        ∙ ap (drop (length (bits_of n x))) e
        ∙ ap (λ (k : ℕ). drop k (bits_of n y ++ spread n b)) long
        ∙ drop-append_seam (bits_of n y) (spread n b)

-- `mark`: the words
pub mark_agrees : (words : List ℕ) (p : ℕ) (a b : List ℕ) → ((i : ℕ) → get_or a i 0 < 2 ^ 64) → ((i : ℕ) → get_or b i 0 < 2 ^ 64)
    → (length a ≡ length words) × (marks_of a ≡ set (marks_of words) p 1)
    → (length b ≡ length words) × (marks_of b ≡ set (marks_of words) p 1)
    → a ≡ b
mark_agrees words p a b h g x y = same-words 64 a b h g (x.0 ∙ sym y.0) (x.1 ∙ sym y.1)

pub lowest_bare_agrees : (words : List ℕ) (r₁ r₂ : ℕ) → r₁ ≡ lowest_bare_of (marks_of words) → r₂ ≡ lowest_bare_of (marks_of words) → r₁ ≡ r₂
lowest_bare_agrees words r₁ r₂ = agree

pub count_agrees : (words : List ℕ) (r₁ r₂ : ℕ) → r₁ ≡ sum_of (marks_of words) → r₂ ≡ sum_of (marks_of words) → r₁ ≡ r₂
count_agrees words r₁ r₂ = agree
