-- A copy, number by number.
use Rattle.std.specs.Prelude.{ℕ, ◌+◌, ◌<◌, ◌≡◌, List, length, get_or, set}
use Rattle.std.proofs.Common.{arith, sym, ap, ◌∙◌, get_or-set_same, get_or-set_other}
use Rattle.std.proofs.Math.Decide.{dec_lt}

-- one number more of a copy, whatever is copied
pub copy_more : {A : Type 0} (d : A) (f : ℕ → A) (room : List A) (i : ℕ) → i < length room → ((j : ℕ) → j < i → get_or room j d ≡ f j)
    → (x : A) → x ≡ f i → (j : ℕ) → j < i + 1 → get_or (set room i x) j d ≡ f j
copy_more d f room i h each x e j g = go (dec_lt j i)
  where
    go : Dec (j < i) → get_or (set room i x) j d ≡ f j
    go (yes p) = get_or-set_other room i j x d (λ z. omega arith) ∙ each j p
    go (no p) =
        let z : j ≡ i = omega arith in
        ap (λ (m : ℕ). get_or (set room i x) m d) z ∙ get_or-set_same room i x d h ∙ e ∙ ap f (sym z)
